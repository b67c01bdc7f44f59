-- What it says of a change that it is taken.
use Rattle.std.proofs.Common.{◌≡◌, ℕ, refl, ap, subst, inl, Bool, true, false, cond, Option, Some, None, Ok, Err}
use Rattle.std.specs.Prelude.{Result, is_some, is_ok, nat_le, ◌&&◌}
use Rattle.std.specs.Option.{option_map}
use Rattle.std.specs.FinMap.{get}
use Rattle.ar_base.specs.FirstFailing.{first_failing}
use Rattle.ar_base.proofs.Shown.{none_from}
use Rattle.cert_policy.specs.declared.refusal.PolicyRefusal.{PolicyRefusal}
use Rattle.cert_policy.specs.declared.refusal.PolicyRefusal.TheVariants.{NotPending}
use Rattle.cert_policy.specs.declared.manner.Manner.{Manner}
use Rattle.cert_policy.specs.declared.manner.Manner.TheVariants.{Full, Recovery, Objected}
use Rattle.cert_policy.specs.Clauses.{in_manner, update_answer, Recovers}
use Rattle.ar_cert.specs.Certificate.{Certificate}
use Rattle.ar_cert.specs.Changes.{Change}
use Rattle.ar_cert.specs.Judging.{cert_terms_of, endorsers_of, is_handed_over, change_judgement, objection_clauses, IsAccepted, IsTakenIn}
use Rattle.ar_cert.proofs.Accepted.{first_facts, plain_facts}
use Rattle.domain_table.specs.declared.refusal.ChangeRefusal.{ChangeRefusal}
use Rattle.domain_table.specs.declared.refusal.ChangeRefusal.TheVariants as refusals
use Rattle.domain_table.specs.Tables.{Pending, Table, chain_of, newest, size, waiting_digest}
use Rattle.domain_table.specs.Applying.{manner_of, with_room, takes_a_place, most_kept, judge_ripe}

-- a full update is accepted behind the newest certificate, and a recovery recovers from it
abbrev pub IsJudged : Option Certificate → Change → Manner → Type 0
IsJudged old c Full = IsAccepted old c
IsJudged old c Recovery = (cert : Certificate) × (old ≡ Some cert) × IsTakenIn Recovery cert false c
IsJudged old c Objected = Unit {0}

-- a recovery is taken with nothing pending
recovered : (old : Certificate) (pending : Bool) (c : Change) → IsTakenIn Recovery old pending c → IsTakenIn Recovery old false c
recovered old pending c is =
    let r : Recovers (cert_terms_of old) (cert_terms_of c.cert) (endorsers_of c) (is_handed_over old c) pending = is.updates in
    record {
      plain = is.plain;
      updates = record { succeeds = r.succeeds; lacks_own = r.lacks_own; waits = r.waits; free = refl };
    }

-- whether something is pending says nothing of a full update
followed : (old : Certificate) (pending : Bool) (c : Change) → IsTakenIn Full old pending c → IsTakenIn Full old false c
followed old pending c is = record { plain = is.plain; updates = is.updates }

by_taken : (old : Certificate) (pending : Bool) (c : Change) (m : Manner) → IsTakenIn m old pending c → IsJudged (Some old) c m
unfolding IsAccepted
by_taken old pending c Full is = inl (followed old pending c is)
by_taken old pending c Recovery is = (old, refl, recovered old pending c is)
by_taken old pending c Objected is = tt

only_objected : (old : Option Certificate) (c : Change) (m : Manner) (answer : Result (Unit {0}) PolicyRefusal) → in_manner Objected answer ≡ Ok m → IsJudged old c m
only_objected old c m (Ok u) e =
    let same : Objected ≡ m = cc in
    subst (IsJudged old c) same tt
only_objected old c m (Err refusal) e = absurd (cc)

only_full : (c : Change) (m : Manner) (answer : Result (Unit {0}) PolicyRefusal) → (is_ok answer ≡ true → IsAccepted None c) → in_manner Full answer ≡ Ok m → IsJudged None c m
only_full c m (Ok u) accepted e =
    let same : Full ≡ m = cc in
    subst (IsJudged None c) same (accepted refl)
only_full c m (Err refusal) accepted e = absurd (cc)

pub judged_behind : (old : Option Certificate) (pending : Option Pending) (c : Change) (m : Manner) → manner_of old pending c ≡ Ok m → IsJudged old c m
judged_behind None pending c m e =
    elim (is_some c.objection) as (λ b. cond {A = Result Manner PolicyRefusal} b (Err NotPending) (in_manner Full (change_judgement None c)) ≡ Ok m → IsJudged None c m) [
      | true ↦ λ e. absurd (cc)
      | false ↦ λ e. only_full c m (change_judgement None c) (first_facts c).0 e
    ] e
judged_behind (Some old) pending c m e =
    elim (is_some c.objection) as (λ b. is_some c.objection ≡ b → IsJudged (Some old) c m) [
      | true ↦ λ objects.
          only_objected (Some old) c m (first_failing (objection_clauses old (option_map waiting_digest pending) c))
          (subst (λ b. cond {A = Result Manner PolicyRefusal} b (in_manner Objected (first_failing (objection_clauses old (option_map waiting_digest pending) c)))
          (update_answer (cert_terms_of old) (cert_terms_of c.cert) (endorsers_of c) (is_handed_over old c) (is_some (option_map waiting_digest pending))) ≡ Ok m) objects e)
      | false ↦ λ plain. by_taken old _ c m ((plain_facts m old (option_map waiting_digest pending) c (none_from c.objection plain)).0 e)
    ] refl

pub roomy : (kept : ℕ) (answer : Result Manner PolicyRefusal) (m : Manner) → with_room kept answer ≡ Ok m → answer ≡ Ok m
roomy kept (Err refusal) m e = absurd (cc)
roomy kept (Ok n) m e =
    elim (takes_a_place n && nat_le most_kept kept) as (λ b. cond {A = Result Manner ChangeRefusal} b (Err refusals.Full) (Ok n) ≡ Ok m → ◌≡◌ {A = Result Manner PolicyRefusal} (Ok n) (Ok m)) [
      | true ↦ λ e. absurd (cc)
      | false ↦ λ e. let same : n ≡ m = cc in ap (λ x. Ok x) same
    ] e

pub judged : (t : Table) (c : Change) (m : Manner) → judge_ripe t c ≡ Ok m → IsJudged (newest (chain_of t c.cert.name)) c m
unfolding judge_ripe
judged t c m e = judged_behind (newest (chain_of t c.cert.name)) (get t.waiting c.cert.name) c m (roomy (size t) _ m e)

-- ---- a full update

not_full : (answer : Result (Unit {0}) PolicyRefusal) → in_manner Objected answer ≡ Ok Full → ⊥
not_full (Ok u) e = absurd cc
not_full (Err refusal) e = absurd cc

full_behind : (old : Certificate) (pending : Option Pending) (c : Change) → manner_of (Some old) pending c ≡ Ok Full → IsTakenIn Full old false c
full_behind old pending c e =
    elim (is_some c.objection) as (λ b. is_some c.objection ≡ b → IsTakenIn Full old false c) [
      | true ↦ λ objects.
          absurd (not_full (first_failing (objection_clauses old (option_map waiting_digest pending) c))
          (subst (λ b. cond {A = Result Manner PolicyRefusal} b (in_manner Objected (first_failing (objection_clauses old (option_map waiting_digest pending) c)))
          (update_answer (cert_terms_of old) (cert_terms_of c.cert) (endorsers_of c) (is_handed_over old c) (is_some (option_map waiting_digest pending))) ≡ Ok Full) objects e))
      | false ↦ λ plain. followed old _ c ((plain_facts Full old (option_map waiting_digest pending) c (none_from c.objection plain)).0 e)
    ] refl

-- what is taken fully behind a certificate is a full update of it
pub judged_full : (t : Table) (c : Change) (old : Certificate) → judge_ripe t c ≡ Ok Full → newest (chain_of t c.cert.name) ≡ Some old → IsTakenIn Full old false c
unfolding judge_ripe
judged_full t c old e is_newest =
    full_behind old (get t.waiting c.cert.name) c
    (subst (λ o. manner_of o (get t.waiting c.cert.name) c ≡ Ok Full) is_newest (roomy (size t) _ Full e))
