use Rattle.std.proofs.Common.{rules}
use Rattle.node_crowd.proofs.OneLemmas.{has_served}
use Rattle.node_crowd.proofs.bringing.bring.Goals as goal

pub returns-clause-served : goal.returns-clause-served
returns-clause-served g c =
    rw (← c.stall.view_is)
    (λ brought served.
    has_served g.C.Core.next g.C.Core.legal c.args.booth.now.node (g.F.Finish.finished c.args.booth.now.finish) _ _ brought c.args.input _ c.in_ok-answer.answer.reply c.in_ok-answer.ensures.ok (search rules) served)
