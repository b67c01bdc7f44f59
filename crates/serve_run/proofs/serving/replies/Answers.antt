use Rattle.std.proofs.Common.{rules}
use Rattle.serve_run.proofs.Served.{served_ok}
use Rattle.serve_run.proofs.serving.replies.Goals as goal

pub returns : goal.returns
returns g c =
    served_ok (λ r. r.items) (λ replies. replies.items) _ _ c.close.result _ _ _ _ _ c.requires.some (search rules) c.in_ok-rows.ensures c.deref_mut.ensures.value c.woven.ensures
    c.close.ensures.count c.close.ensures.each c.close.ensures.most c.close.ensures.exhausted
