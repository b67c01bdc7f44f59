-- The first clause that fails is the least, where clauses stand in order of number.
use Rattle.std.proofs.Common.{◌≡◌, ℕ, ◌<◌, List, [], ◌∷◌, ◌++◌, map, get_or, ap, ◌∙◌, ◌⊎◌, ⊎_elim, arith, Bool, true, false, not, ◌&&◌, cond, Err}
use Rattle.std.specs.Prelude.{All, Contains, IsTrue, is_some}
use Rattle.std.specs.List.Sorted.{IsStrictlyIncreasing}
use Rattle.std.proofs.lemmas.Bool.{cases_order}
use Rattle.std.proofs.lemmas.List.{get_or-map, length-map}
use Rattle.std.proofs.lemmas.List.Kept.{AllPairs-from_increasing}
use Rattle.cert_policy.specs.declared.refusal.PolicyRefusal.{PolicyRefusal}
use Rattle.ar_base.specs.FirstFailing.{first_failing}
use Rattle.ar_base.proofs.Failing.{FailsAtPlace, fails_at_place}
use Rattle.cert_policy.specs.Clauses.{common_clauses, follow_answer, has_own, in_manner, is_well_formed, own_clauses, recovery_clauses, update_answer}
use Rattle.cert_policy.specs.Refusals.{Clause, number_of}
use Rattle.cert_policy.specs.Terms.{CertTerms}
use Rattle.cert_policy.specs.declared.manner.Manner.TheVariants.{Full, Recovery}
use Rattle.cert_policy.specs.declared.refusal.PolicyRefusal.TheVariants.{Pending, Policy}

pub one_fails : (clauses : List Clause) (refusal : PolicyRefusal) → first_failing clauses ≡ Err refusal → Contains clauses (refusal, false)
one_fails clauses refusal h =
    let first : FailsAtPlace clauses refusal = fails_at_place clauses refusal h in
    (first.0, first.1.0, first.1.1.0 (refusal, false))

pub least_fails : (clauses : List Clause) (refusal : PolicyRefusal) → IsStrictlyIncreasing (map (λ (c : Clause). number_of c.0) clauses) → first_failing clauses ≡ Err refusal
    → All (λ c. number_of c.0 < number_of refusal → IsTrue c.1) clauses
least_fails clauses refusal rising h k d in_list less =
    let first : FailsAtPlace clauses refusal = fails_at_place clauses refusal h in
    let at : number_of (get_or clauses first.0 d).0 ≡ number_of refusal = ap (λ (c : Clause). number_of c.0) (first.1.1.0 d) in
    ⊎_elim
    (λ (same : k ≡ first.0). absurd (let here : number_of (get_or clauses k d).0 ≡ number_of refusal = ap (λ j. number_of (get_or clauses j d).0) same ∙ at in omega arith))
    (λ (apart : (k < first.0) ⊎ (first.0 < k)).
    ⊎_elim
    (λ (before : k < first.0). first.1.1.1 k d before)
    (λ (behind : first.0 < k). absurd (
    let later : get_or (map (λ (c : Clause). number_of c.0) clauses) first.0 0 < get_or (map (λ (c : Clause). number_of c.0) clauses) k 0 =
    AllPairs-from_increasing (map (λ (c : Clause). number_of c.0) clauses) rising first.0 k 0 behind (omega (arith, length-map {B = ℕ} clauses (λ c. number_of c.0))) in
    omega (arith, get_or-map (λ (c : Clause). number_of c.0) clauses first.0 d 0 first.1.0, get_or-map (λ (c : Clause). number_of c.0) clauses k d 0 in_list)))
    apart)
    (cases_order k first.0)

-- ---- clauses of every update

fails_before : (clauses more : List Clause) (refusal : PolicyRefusal) → first_failing clauses ≡ Err refusal → first_failing (clauses ++ more) ≡ Err refusal
fails_before [] more refusal is = absurd cc
fails_before (c ∷ cs) more refusal is =
    elim (c.1) as (λ b. cond b (first_failing cs) (Err c.0) ≡ Err refusal → cond b (first_failing (cs ++ more)) (Err c.0) ≡ Err refusal) [
      | true ↦ λ h. fails_before cs more refusal h
      | false ↦ λ h. h
    ] is

-- where one of them fails, that is the answer, whatever is handed over or pending
pub common_refuses : (old new : CertTerms) (endorsers : List ℕ) (handover pending : Bool) (refusal : PolicyRefusal) → first_failing (common_clauses old new endorsers) ≡ Err refusal
    → update_answer old new endorsers handover pending ≡ Err refusal
common_refuses old new endorsers handover pending refusal is = by (is_some old.policy.wait && not (has_own old endorsers handover))
  where
    by : (b : Bool)
        → cond b (in_manner Recovery (first_failing (recovery_clauses old new endorsers pending))) (in_manner Full (follow_answer old new endorsers handover)) ≡ Err refusal
    by true =
        ap (in_manner Recovery) (fails_before (common_clauses old new endorsers) ((Policy, is_well_formed new.policy) ∷ ((Pending, not pending) ∷ [])) refusal is)
    by false =
        ap (in_manner Full) (fails_before (common_clauses old new endorsers) (own_clauses old endorsers handover ++ (Policy, is_well_formed new.policy) ∷ []) refusal is)
