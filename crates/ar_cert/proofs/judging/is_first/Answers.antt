use Rattle.std.proofs.Common.{sym, ap, ◌∙◌, subst, None, ◌↔◌}
use Rattle.std.specs.Prelude.{IsTrue, is_ok}
use Rattle.ar_cert.specs.Judging.{IsAccepted}
use Rattle.ar_cert.proofs.Accepted.{first_facts}
use Rattle.ar_cert.proofs.judging.is_first.Goals as goal

pub returns : goal.returns
returns c =
    subst (λ b. IsTrue b ↔ IsAccepted None c.args.change.now) (sym (c.is_ok.ensures.value ∙ ap is_ok c.judge_change.ensures.answer)) (first_facts c.args.change.now)
