-- What is accepted in an epoch was accepted in each earlier one, back to that of the confirmation.
use Rattle.std.proofs.Common.{◌≡◌, ℕ, ◌-◌, ◌≤◌, List, subst, arith}
use Rattle.ar_cert.specs.Certificate.{Certificate}
use Rattle.ar_message.specs.Confirmation.{Body, present, absent, Confirmation}
use Rattle.client_rule.specs.Meaning.{IsYoung, IsCurrent, HoldsAll, PassesChecks, earlier}
use Rattle.client_rule.specs.Rule.{judgement, Asked}
use Rattle.client_rule.specs.declared.judgement.Judgement.TheVariants.{Accepted, Absent}
use Rattle.client_rule.proofs.Meanings.{accepted, absence}

younger : (before after age : ℕ) (body : Body) → before ≤ after → IsYoung after age body → IsYoung before age body
younger before after age (present certificate) le young = (omega (arith, le, young.0), omega (arith, le, young.1))
younger before after age (absent bottom) le young = omega (arith, le, young)

still_current : (before now : ℕ) (body : Body) → before ≤ now → IsCurrent now body → IsCurrent before body
still_current before now (present certificate) le current = omega (arith, le, current)
still_current before now (absent bottom) le current = tt

all_earlier : (asked : Asked) (c : Confirmation) (epoch : ℕ) → c.about.epoch ≤ epoch → epoch ≤ asked.epoch → HoldsAll asked c → HoldsAll (earlier asked epoch) c
all_earlier asked c epoch begun le h =
    let h2 = h.1 in
    let h3 = h2.1 in
    let h4 = h3.1 in
    let h5 = h4.1 in
    let h6 = h5.1 in
    let h7 = h6.1 in
    let h8 = h7.1 in
    let h9 = h8.1 in
    let h10 = h9.1 in
    let young = younger (epoch - c.about.epoch) (asked.epoch - c.about.epoch) asked.age c.body (omega (arith, le)) h8.0 in
    (h.0, (h2.0, (h3.0, (h4.0, (h5.0, (h6.0, (begun, (young, (h9.0, (still_current epoch asked.epoch c.body le h10.0, tt))))))))))

passes_earlier : (asked : Asked) (bytes : List ℕ) (c : Confirmation) (epoch : ℕ) → c.about.epoch ≤ epoch → epoch ≤ asked.epoch → PassesChecks asked bytes c → PassesChecks (earlier asked epoch) bytes c
passes_earlier asked bytes c epoch begun le p = record { is_read = p.is_read; holds = all_earlier asked c epoch begun le p.holds }

pub accepted_earlier : (asked : Asked) (bytes : List ℕ) (certificate : Certificate) (digest : List ℕ) (epoch : ℕ) (root : List ℕ) (now : ℕ)
    → judgement asked bytes ≡ Accepted certificate digest epoch root → epoch ≤ now → now ≤ asked.epoch
    → judgement (earlier asked now) bytes ≡ Accepted certificate digest epoch root
accepted_earlier asked bytes certificate digest epoch root now h begun le =
    let a = (accepted asked bytes certificate digest epoch root).0 h in
    (accepted (earlier asked now) bytes certificate digest epoch root).1 record {
      confirmation = a.confirmation;
      passes = passes_earlier asked bytes a.confirmation now (subst (λ (e : ℕ). e ≤ now) a.epoch_is begun) le a.passes;
      body = a.body;
      digest_is = a.digest_is;
      epoch_is = a.epoch_is;
      root_is = a.root_is;
    }

pub absent_earlier : (asked : Asked) (bytes : List ℕ) (epoch : ℕ) (root : List ℕ) (now : ℕ)
    → judgement asked bytes ≡ Absent epoch root → epoch ≤ now → now ≤ asked.epoch
    → judgement (earlier asked now) bytes ≡ Absent epoch root
absent_earlier asked bytes epoch root now h begun le =
    let a = (absence asked bytes epoch root).0 h in
    (absence (earlier asked now) bytes epoch root).1 record {
      confirmation = a.confirmation;
      passes = passes_earlier asked bytes a.confirmation now (subst (λ (e : ℕ). e ≤ now) a.epoch_is begun) le a.passes;
      bottom = a.bottom;
      epoch_is = a.epoch_is;
      root_is = a.root_is;
    }
