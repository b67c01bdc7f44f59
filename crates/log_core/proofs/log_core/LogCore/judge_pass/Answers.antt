use Rattle.std.proofs.Common.{◌≡◌, [], ◌∷◌, subst, sym, ap, ◌∙◌}
use Rattle.ar_statement.specs.Claims.{claim_of, text_of}
use Rattle.log_sending.specs.Checks.{leaves_left}
use Rattle.log_core.specs.Passing.{passing_judged}
use Rattle.log_core.specs.State.{CoreState}
use Rattle.log_core.proofs.Closed.{passing-judges}
use Rattle.log_core.proofs.log_core.LogCore.judge_pass.Goals as goal

pub returns : goal.returns
returns c =
    let s : CoreState = record { log = c.self.inside.log.state; keys = c.self.inside.log.keys; queue = c.self.inside.queue.items; signature_len = c.self.inside.signature_len } in
    subst (λ (s : CoreState). c.leaf_left.result ≡ passing_judged s) c.self.view_is
    (passing-judges s c.leaf_left.result (sym c.not_stated.ensures ∙ c.in_ok-not_stated.was)
    (c.leaf_left.ensures ∙ ap (λ past. leaves_left past.signed (text_of (claim_of c.own_status.result) ∷ [])) c.record.ensures
    ∙ ap (λ text. leaves_left s.log.past.signed (text ∷ [])) c.own_status.ensures))
