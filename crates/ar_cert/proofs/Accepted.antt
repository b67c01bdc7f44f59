-- What it is that a change is accepted: the answers, as facts.
use Rattle.std.proofs.Common.{◌≡◌, ℕ, zero, suc, ◌+◌, ◌<◌, ◌≤◌, List, [], ◌∷◌, ◌++◌, length, length-append, get_or, refl, sym, ap, ◌∙◌, subst, arith, ◌⊎◌, inl, inr, ⊎_elim, true, false, cond, Option, Some, None, Ok, Err, ◌↔◌}
use Rattle.std.specs.Prelude.{IsTrue, IsSome, IsNone, is_some, is_ok, nat_lt, Result}
use Rattle.std.proofs.Math.ListN.{get_or-append}
use Rattle.std.proofs.Math.Seq.{get_or-append_seam}
use Rattle.std.proofs.lemmas.Bool.{cases_lt}
use Rattle.std.proofs.lemmas.List.Elements.{All-from_recursion, recursion_from_All}
use Rattle.std.proofs.lemmas.Slice.Eq.{bytes_eq-Decides}
use Rattle.ar_base.specs.FirstFailing.{first_failing}
use Rattle.ar_base.proofs.Failing.{all_hold}
use Rattle.ar_base.proofs.Shown.{none_from}
use Rattle.cert_policy.specs.declared.refusal.PolicyRefusal.{PolicyRefusal}
use Rattle.cert_policy.specs.declared.refusal.PolicyRefusal.TheVariants.{Previous}
use Rattle.cert_policy.specs.Refusals.{number_of}
use Rattle.cert_policy.specs.declared.manner.Manner.{Manner}
use Rattle.cert_policy.specs.declared.manner.Manner.TheVariants.{Full, Recovery, Objected}
use Rattle.cert_policy.specs.Clauses.{registration_answer, update_answer, in_manner, IsUpdate, Registers, Succeeds}
use Rattle.cert_policy.proofs.Meaning.{registration_facts, update_facts, update_succeeds}
use Rattle.ar_cert.specs.Certificate.{Certificate, digest_of}
use Rattle.ar_cert.specs.Changes.{Change}
use Rattle.ar_cert.specs.Judging.{cert_terms_of, endorsers_of, is_handed_over, change_judgement, by_objection, with_fourth_failed, is_pending, objection_clauses, update_judgement, IsRegistration, IsObjection, IsTakenIn, IsAccepted, IsChain}

none_test : (o : Option (List ℕ)) → IsNone o → is_some o ≡ false
none_test None h = refl
none_test (Some x) h = absurd (cc)

is_none-eq : (o : Option (List ℕ)) → IsNone o → o ≡ None
is_none-eq None h = refl
is_none-eq (Some x) h = absurd (cc)

-- a change without an objection is judged by the rule of updates
plain_answer : (old : Certificate) (pending : Option (List ℕ)) (change : Change) → IsNone change.objection
    → update_judgement old pending change ≡ update_answer (cert_terms_of old) (cert_terms_of change.cert) (endorsers_of change) (is_handed_over old change) (is_some pending)
plain_answer old pending change plain =
    ap (λ b. cond {A = Result Manner PolicyRefusal} b (in_manner Objected (first_failing (objection_clauses old pending change))) (update_answer (cert_terms_of old) (cert_terms_of change.cert) (endorsers_of change) (is_handed_over old change) (is_some pending)))
    (none_test change.objection plain)

-- what an update that is taken says
pub taken_facts : (manner : Manner) (old : Certificate) (pending : Option (List ℕ)) (change : Change)
    → IsTakenIn manner old (is_some pending) change → update_judgement old pending change ≡ Ok manner
taken_facts manner old pending change taken =
    plain_answer old pending change taken.plain
    ∙ (update_facts manner (cert_terms_of old) (cert_terms_of change.cert) (endorsers_of change) (is_handed_over old change) (is_some pending)).1 taken.updates

-- an answer of the rule of updates
accepted_by : (old : Certificate) (change : Change) (answer : Result Manner PolicyRefusal)
    → answer ≡ update_answer (cert_terms_of old) (cert_terms_of change.cert) (endorsers_of change) (is_handed_over old change) false
    → IsNone change.objection → is_ok answer ≡ true → IsTakenIn Full old false change ⊎ IsTakenIn Recovery old false change
accepted_by old change (Ok manner) is plain ok =
    one manner ((update_facts manner (cert_terms_of old) (cert_terms_of change.cert) (endorsers_of change) (is_handed_over old change) false).0 (sym is)) where
      one : (m : Manner) → IsUpdate m (cert_terms_of old) (cert_terms_of change.cert) (endorsers_of change) (is_handed_over old change) false → IsTakenIn Full old false change ⊎ IsTakenIn Recovery old false change
      one Full updates = inl (record { plain = plain; updates = updates })
      one Recovery updates = inr (record { plain = plain; updates = updates })
      one Objected updates = absurd updates
accepted_by old change (Err refusal) is plain ok = absurd (cc)

-- behind an old certificate, with nothing pending
pub next_facts : (old : Certificate) (change : Change) → (is_ok (update_judgement old None change) ≡ true) ↔ IsAccepted (Some old) change
unfolding IsAccepted
next_facts old change = (
  λ ok.
      elim (is_some change.objection) as (λ b. is_some change.objection ≡ b → is_ok (cond {A = Result Manner PolicyRefusal} b (in_manner Objected (first_failing (objection_clauses old None change))) (update_answer (cert_terms_of old) (cert_terms_of change.cert) (endorsers_of change) (is_handed_over old change) false)) ≡ true → IsTakenIn Full old false change ⊎ IsTakenIn Recovery old false change) [
        | true ↦ λ _ ok. absurd (cc)
        | false ↦ λ e ok. accepted_by old change _ refl (none_from change.objection e) ok
      ] refl ok,
  λ accepted.
      ⊎_elim (λ (full : IsTakenIn Full old false change). ap is_ok (taken_facts Full old None change full))
      (λ (recovery : IsTakenIn Recovery old false change). ap is_ok (taken_facts Recovery old None change recovery)) accepted,
)

-- where there is no certificate
pub first_facts : (change : Change) → (is_ok (change_judgement None change) ≡ true) ↔ IsAccepted None change
unfolding IsAccepted
first_facts change = (
  λ ok. from change.objection refl ok,
  λ is. ap is_ok (ap (λ o. by_objection o (registration_answer (cert_terms_of change.cert) (endorsers_of change))) (is_none-eq change.objection is.plain)
      ∙ (registration_facts (cert_terms_of change.cert) (endorsers_of change)).1 is.registers),
) where
  failed : (answer : Result (Unit {0}) PolicyRefusal) → is_ok (with_fourth_failed answer) ≡ true → ⊥
  failed (Ok u) ok = absurd (cc)
  failed (Err refusal) ok =
      elim (nat_lt (number_of refusal) 4) as (λ b. is_ok (cond {A = Result (Unit {0}) PolicyRefusal} b (Err refusal) (Err Previous)) ≡ true → ⊥) [ true ↦ λ ok. absurd (cc) | false ↦ λ ok. absurd (cc) ] ok

  good : (answer : Result (Unit {0}) PolicyRefusal) → is_ok answer ≡ true → answer ≡ Ok tt
  good (Ok u) ok = refl
  good (Err refusal) ok = absurd (cc)

  from : (o : Option (List ℕ)) → change.objection ≡ o → is_ok (by_objection o (registration_answer (cert_terms_of change.cert) (endorsers_of change))) ≡ true → IsRegistration change
  from None e ok = record {
    plain = subst IsNone (sym e) refl;
    registers = (registration_facts (cert_terms_of change.cert) (endorsers_of change)).0 (good (registration_answer (cert_terms_of change.cert) (endorsers_of change)) ok);
  }
  from (Some x) e ok = absurd (failed (registration_answer (cert_terms_of change.cert) (endorsers_of change)) ok)

-- ---- chains

-- what each accepted change keeps of the certificate before it
pub accepted_succeeds : (old : Certificate) (change : Change) → IsAccepted (Some old) change → Succeeds (cert_terms_of old) (cert_terms_of change.cert) (endorsers_of change)
unfolding IsAccepted
accepted_succeeds old change accepted =
    ⊎_elim (λ (full : IsTakenIn Full old false change). update_succeeds Full (cert_terms_of old) (cert_terms_of change.cert) (endorsers_of change) (is_handed_over old change) false full.updates)
    (λ (recovery : IsTakenIn Recovery old false change). update_succeeds Recovery (cert_terms_of old) (cert_terms_of change.cert) (endorsers_of change) (is_handed_over old change) false recovery.updates) accepted

registered : (change : Change) → IsAccepted None change → Registers (cert_terms_of change.cert) (endorsers_of change)
unfolding IsAccepted
registered change is = is.registers

-- one change that registers
pub one_is_chain : (change : Change) → IsAccepted None change → IsChain (change ∷ [])
one_is_chain change is = record { some = omega arith; first = λ d. is; next = λ k d h. absurd (omega (arith, h)) }

-- one more change, accepted behind the last
pub more_is_chain : (chain : List Change) (change : Change) → IsChain chain
    → ((k : ℕ) (d : Change) → k + 1 ≡ length chain → IsAccepted (Some (get_or chain k d).cert) change) → IsChain (chain ++ change ∷ [])
more_is_chain chain change is last = record {
  some = omega (arith, is.some, length-append chain (change ∷ []));
  first = λ d. subst (IsAccepted None) (sym (get_or-append chain (change ∷ []) d 0 is.some)) (is.first d);
  next = λ k d h.
      ⊎_elim
      (λ (before : k + 1 < length chain).
      subst (λ c. IsAccepted (Some c.cert) (get_or (chain ++ change ∷ []) (k + 1) d)) (sym (get_or-append chain (change ∷ []) d k (omega (arith, before))))
      (subst (IsAccepted (Some (get_or chain k d).cert)) (sym (get_or-append chain (change ∷ []) d (k + 1) before)) (is.next k d before)))
      (λ (past : length chain ≤ k + 1).
      let at : k + 1 ≡ length chain = omega (arith, past, h, length-append chain (change ∷ [])) in
      subst (λ c. IsAccepted (Some c.cert) (get_or (chain ++ change ∷ []) (k + 1) d)) (sym (get_or-append chain (change ∷ []) d k (omega (arith, at))))
      (subst (IsAccepted (Some (get_or chain k d).cert)) (sym (behind k d at)) (last k d at)))
      (cases_lt (k + 1) (length chain));
} where
  behind : (k : ℕ) (d : Change) → k + 1 ≡ length chain → get_or (chain ++ change ∷ []) (k + 1) d ≡ change
  behind k d at = ap (λ n. get_or (chain ++ change ∷ []) n d) at ∙ get_or-append_seam chain change [] d

-- the certificate at each place has the number of the place
pub serial_at : (chain : List Change) → IsChain chain → (k : ℕ) (d : Change) → k < length chain → (get_or chain k d).cert.serial ≡ k
serial_at chain is zero d h = (registered (get_or chain 0 d) (is.first d)).first_serial
serial_at chain is (suc k) d h =
    let before : (get_or chain k d).cert.serial ≡ k = serial_at chain is k d (omega (arith, h)) in
    let step : (get_or chain (k + 1) d).cert.serial ≡ (get_or chain k d).cert.serial + 1 =
    (accepted_succeeds (get_or chain k d).cert (get_or chain (k + 1) d) (is.next k d (omega (arith, h)))).next_serial in
    let at : suc k ≡ k + 1 = omega arith in
    ap (λ n. (get_or chain n d).cert.serial) at ∙ step ∙ omega (arith, before)

-- ---- objections

by_objects : (old : Certificate) (pending : Option (List ℕ)) (change : Change) → IsSome change.objection
    → update_judgement old pending change ≡ in_manner Objected (first_failing (objection_clauses old pending change))
by_objects old pending change objects =
    ap (λ b. cond {A = Result Manner PolicyRefusal} b (in_manner Objected (first_failing (objection_clauses old pending change))) (update_answer (cert_terms_of old) (cert_terms_of change.cert) (endorsers_of change) (is_handed_over old change) (is_some pending)))
    objects

pending_from : (pending : Option (List ℕ)) (digest : List ℕ) → is_pending pending digest ≡ true → pending ≡ Some digest
pending_from None digest h = absurd (cc)
pending_from (Some waiting) digest h = ap (λ x. Some x) ((bytes_eq-Decides waiting digest).0 h)

objected : (answer : Result (Unit {0}) PolicyRefusal) → in_manner Objected answer ≡ Ok Objected → answer ≡ Ok tt
objected (Ok u) h = refl
objected (Err refusal) h = absurd (cc)

pub objection_facts : (old : Certificate) (pending : Option (List ℕ)) (change : Change) → IsSome change.objection
    → (update_judgement old pending change ≡ Ok Objected) ↔ IsObjection old pending change
objection_facts old pending change objects = (
  λ h.
      let all = recursion_from_All (λ c. IsTrue c.1) (objection_clauses old pending change) ((all_hold (objection_clauses old pending change)).0
      (objected (first_failing (objection_clauses old pending change)) (sym (by_objects old pending change objects) ∙ h))) in
      record { objects = objects; waits = pending_from pending (digest_of change.cert) all.0; valid = all.1.0 },
  λ is.
      let waits : is_pending pending (digest_of change.cert) ≡ true =
      ap (λ p. is_pending p (digest_of change.cert)) is.waits ∙ (bytes_eq-Decides (digest_of change.cert) (digest_of change.cert)).1 refl in
      by_objects old pending change objects
      ∙ ap (in_manner Objected) ((all_hold (objection_clauses old pending change)).1 (All-from_recursion (λ c. IsTrue c.1) (objection_clauses old pending change) (waits, (is.valid, tt)))),
)

-- a change without an objection, in a manner
pub plain_facts : (manner : Manner) (old : Certificate) (pending : Option (List ℕ)) (change : Change) → IsNone change.objection
    → (update_judgement old pending change ≡ Ok manner) ↔ IsTakenIn manner old (is_some pending) change
plain_facts manner old pending change plain = (
  λ h. record {
    plain = plain;
    updates = (update_facts manner (cert_terms_of old) (cert_terms_of change.cert) (endorsers_of change) (is_handed_over old change) (is_some pending)).0 (sym (plain_answer old pending change plain) ∙ h);
  },
  taken_facts manner old pending change,
)
