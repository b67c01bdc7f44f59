use Rattle.std.proofs.Common.{sym, ap, ◌∙◌, subst, Some, ◌↔◌}
use Rattle.std.specs.Prelude.{IsTrue, is_ok}
use Rattle.ar_cert.specs.Judging.{IsAccepted}
use Rattle.ar_cert.proofs.Accepted.{next_facts}
use Rattle.ar_cert.proofs.judging.is_next.Goals as goal

pub returns : goal.returns
returns c =
    subst (λ b. IsTrue b ↔ IsAccepted (Some c.args.old.now) c.args.change.now) (sym (c.is_ok.ensures.value ∙ ap is_ok c.judge_update.ensures.answer)) (next_facts c.args.old.now c.args.change.now)
