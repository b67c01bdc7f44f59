use Rattle.std.proofs.Common.{◌≡◌, ◌↔◌, sym, subst, Ok}
use Rattle.cert_policy.specs.Terms.{cert_terms}
use Rattle.cert_policy.specs.Clauses.{IsUpdate}
use Rattle.cert_policy.specs.declared.manner.Manner.TheVariants.{Full, Recovery}
use Rattle.cert_policy.proofs.Meaning.{update_facts}
use Rattle.cert_policy.proofs.rules.update.Goals as goal

pub returns-clause-full : goal.returns-clause-full
returns-clause-full c =
    subst (λ answer. (answer ≡ Ok Full) ↔ IsUpdate Full (cert_terms c.args.old.now) (cert_terms c.args.new.now) c.args.endorsers.now c.args.handover c.args.pending)
    (sym c.manner.ensures) (update_facts Full (cert_terms c.args.old.now) (cert_terms c.args.new.now) c.args.endorsers.now c.args.handover c.args.pending)

pub returns-clause-recovery : goal.returns-clause-recovery
returns-clause-recovery c =
    subst (λ answer. (answer ≡ Ok Recovery) ↔ IsUpdate Recovery (cert_terms c.args.old.now) (cert_terms c.args.new.now) c.args.endorsers.now c.args.handover c.args.pending)
    (sym c.manner.ensures) (update_facts Recovery (cert_terms c.args.old.now) (cert_terms c.args.new.now) c.args.endorsers.now c.args.handover c.args.pending)
