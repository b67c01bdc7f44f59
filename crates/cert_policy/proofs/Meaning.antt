-- What it is that the clauses hold: the tests, as facts.
use Rattle.std.proofs.Common.{◌≡◌, ◌+◌, ℕ, List, [], ◌∷◌, length, replicate, get_or, refl, sym, ap, ◌∙◌, subst, ◌⊎◌, ⊎_elim, Bool, true, false, cond, leb, not, ◌&&◌, ◌||◌, Option, Some, None, Ok, Err, ◌↔◌}
use Rattle.std.specs.Prelude.{IsTrue, IsSome, is_some, is_err, Result}
use Rattle.std.specs.List.{AllByRecursion, list_all}
use Rattle.std.proofs.lemmas.Bool.{and_parts, and_from, and_right, not-true, false_from_ne_true, eqb-true, eq-eqb, leb-true, le-leb}
use Rattle.std.proofs.lemmas.List.Elements.{All-from_recursion}
use Rattle.std.proofs.lemmas.Slice.Eq.{bytes_eq-Decides}
use Rattle.ar_base.specs.FirstFailing.{first_failing}
use Rattle.ar_base.proofs.Failing.{FailsAtPlace, fails_at_place, each_holds, none_fails}
use Rattle.cert_policy.specs.declared.refusal.PolicyRefusal.{PolicyRefusal}
use Rattle.cert_policy.specs.declared.refusal.PolicyRefusal.TheVariants.{Revoked, Name, Serial, Previous, Endorsers, Threshold, Handover, Policy, Pending, NotPending, Objection}
use Rattle.cert_policy.specs.declared.manner.Manner.{Manner}
use Rattle.cert_policy.specs.declared.manner.Manner.TheVariants.{Full, Recovery, Objected}
use Rattle.cert_policy.specs.Refusals.{Clause}
use Rattle.cert_policy.specs.Terms.{CertTerms, PolicyTerms}
use Rattle.cert_policy.specs.Clauses.{is_well_formed, common_clauses, own_clauses, follow_clauses, recovery_clauses, registration_clauses, follow_answer, has_own, in_manner, update_answer, registration_answer, IsWellFormed, MeetsOwn, Succeeds, Follows, Recovers, Registers, IsUpdate}
use Rattle.vote_quorum.specs.Numbers.{distinct_count, shared_count}

-- a policy that is well formed
formed_from : (p : PolicyTerms) → is_well_formed p ≡ true → IsWellFormed p
formed_from p h =
    let front = and_parts (leb 1 p.threshold && leb p.threshold 8) (leb p.threshold (length p.trusted)) h in
    let ends = and_parts (leb 1 p.threshold) (leb p.threshold 8) front.0 in
    record { least = leb-true 1 p.threshold ends.0; most = leb-true p.threshold 8 ends.1; reachable = leb-true p.threshold (length p.trusted) front.1 }

formed_test : (p : PolicyTerms) → IsWellFormed p → is_well_formed p ≡ true
formed_test p is = and_from _ _ (and_from _ _ (le-leb 1 p.threshold is.least) (le-leb p.threshold 8 is.most)) (le-leb p.threshold (length p.trusted) is.reachable)

-- a handover where one is asked for
asked_from : (keyed handover : Bool) → (not keyed || handover) ≡ true → keyed ≡ true → handover ≡ true
asked_from true handover h is = h
asked_from false handover h is = absurd (cc)

asked_test : (keyed handover : Bool) → (keyed ≡ true → handover ≡ true) → (not keyed || handover) ≡ true
asked_test true handover h = h refl
asked_test false handover h = refl

-- the domain's own clauses
own_from : (old : CertTerms) (endorsers : List ℕ) (handover : Bool) → AllByRecursion (λ c. IsTrue c.1) (own_clauses old endorsers handover) → MeetsOwn old endorsers handover
own_from old endorsers handover all = record {
  trusted = leb-true old.policy.threshold (shared_count endorsers old.policy.trusted) all.0;
  handed_over = asked_from old.policy.keyed handover all.1.0;
}

own_tests : (old : CertTerms) (endorsers : List ℕ) (handover : Bool) → MeetsOwn old endorsers handover → AllByRecursion (λ c. IsTrue c.1) (own_clauses old endorsers handover)
own_tests old endorsers handover own =
    (le-leb old.policy.threshold (shared_count endorsers old.policy.trusted) own.trusted, (asked_test old.policy.keyed handover own.handed_over, tt))

-- the common clauses and the new policy's
succeeds_from : (old new : CertTerms) (endorsers : List ℕ) → AllByRecursion (λ c. IsTrue c.1) (common_clauses old new endorsers) → is_well_formed new.policy ≡ true → Succeeds old new endorsers
succeeds_from old new endorsers all formed = record {
  alive = all.0;
  same_name = (bytes_eq-Decides old.name new.name).0 all.1.0;
  next_serial = eqb-true new.serial (old.serial + 1) all.1.1.0;
  linked = (bytes_eq-Decides new.previous old.digest).0 all.1.1.1.0;
  endorsed = leb-true 3 (distinct_count endorsers) all.1.1.1.1.0;
  well_formed = formed_from new.policy formed;
}

common_tests : (old new : CertTerms) (endorsers : List ℕ) → Succeeds old new endorsers → AllByRecursion (λ c. IsTrue c.1) (common_clauses old new endorsers)
common_tests old new endorsers f = (
  f.alive,
  (
    (bytes_eq-Decides old.name new.name).1 f.same_name,
    (
      eq-eqb new.serial (old.serial + 1) f.next_serial,
      ((bytes_eq-Decides new.previous old.digest).1 f.linked, (le-leb 3 (distinct_count endorsers) f.endorsed, tt)),
    ),
  ),
)

-- an update in either manner
pub update_succeeds : (manner : Manner) (old new : CertTerms) (endorsers : List ℕ) (handover pending : Bool) → IsUpdate manner old new endorsers handover pending → Succeeds old new endorsers
update_succeeds Full old new endorsers handover pending is = is.succeeds
update_succeeds Recovery old new endorsers handover pending is = is.succeeds
update_succeeds Objected old new endorsers handover pending is = absurd is

-- ---- the answers

pub follow_facts : (old new : CertTerms) (endorsers : List ℕ) (handover : Bool) → (follow_answer old new endorsers handover ≡ Ok tt) ↔ Follows old new endorsers handover
follow_facts old new endorsers handover = (
  λ h.
      let all = each_holds (follow_clauses old new endorsers handover) h in
      let common = succeeds_from old new endorsers (all.0, (all.1.0, (all.1.1.0, (all.1.1.1.0, (all.1.1.1.1.0, tt))))) all.1.1.1.1.1.1.1.0 in
      let own = own_from old endorsers handover (all.1.1.1.1.1.0, (all.1.1.1.1.1.1.0, tt)) in
      record { succeeds = common; own = own },
  λ f.
      let common = common_tests old new endorsers f.succeeds in
      let own = own_tests old endorsers handover f.own in
      none_fails (follow_clauses old new endorsers handover)
      (common.0, (common.1.0, (common.1.1.0, (common.1.1.1.0, (common.1.1.1.1.0, (own.0, (own.1.0, (formed_test new.policy f.succeeds.well_formed, tt)))))))),
)

pub recovery_facts : (old new : CertTerms) (endorsers : List ℕ) (pending : Bool)
    → (first_failing (recovery_clauses old new endorsers pending) ≡ Ok tt) ↔ (Succeeds old new endorsers × IsTrue (not pending))
recovery_facts old new endorsers pending = (
  λ h.
      let all = each_holds (recovery_clauses old new endorsers pending) h in
      (succeeds_from old new endorsers (all.0, (all.1.0, (all.1.1.0, (all.1.1.1.0, (all.1.1.1.1.0, tt))))) all.1.1.1.1.1.0, all.1.1.1.1.1.1.0),
  λ f.
      let common = common_tests old new endorsers f.0 in
      none_fails (recovery_clauses old new endorsers pending)
      (common.0, (common.1.0, (common.1.1.0, (common.1.1.1.0, (common.1.1.1.1.0, (formed_test new.policy f.0.well_formed, (f.1, tt))))))),
)

-- whether the domain's own clauses hold
pub own_facts : (old : CertTerms) (endorsers : List ℕ) (handover : Bool) → (has_own old endorsers handover ≡ true) ↔ MeetsOwn old endorsers handover
own_facts old endorsers handover = (
  λ h.
      let parts = and_parts (leb old.policy.threshold (shared_count endorsers old.policy.trusted)) ((not old.policy.keyed || handover) && true) h in
      own_from old endorsers handover (parts.0, ((and_parts (not old.policy.keyed || handover) true parts.1).0, tt)),
  λ own.
      let tests = own_tests old endorsers handover own in
      and_from _ _ tests.0 (and_from _ _ tests.1.0 refl),
)

-- a list with a clause that fails
pub fails_some : (answer : Result (Unit {0}) PolicyRefusal) (clauses : List Clause) → answer ≡ first_failing clauses → true ≡ is_err answer → list_all (λ c. c.1) clauses ≡ false
fails_some answer clauses is fails = one clauses (ap is_err (sym is) ∙ sym fails) where
  one : (clauses : List Clause) → is_err (first_failing clauses) ≡ true → list_all (λ c. c.1) clauses ≡ false
  one [] h = absurd (cc)
  one (c ∷ cs) h =
      elim (c.1) as (λ b. is_err (cond b (first_failing cs) (Err c.0)) ≡ true → (b && list_all (λ c. c.1) cs) ≡ false) [
        | true ↦ λ h. one cs h
        | false ↦ λ _. refl
      ] h

-- a recovery, from what the code tests
pub recovers_from : (old new : CertTerms) (endorsers : List ℕ) (handover pending : Bool) → IsSome old.policy.wait → has_own old endorsers handover ≡ false
    → first_failing (recovery_clauses old new endorsers pending) ≡ Ok tt → Recovers old new endorsers handover pending
recovers_from old new endorsers handover pending waits lacks h =
    let facts = (recovery_facts old new endorsers pending).0 h in
    record {
      succeeds = facts.0;
      lacks_own = λ own. absurd (let has : has_own old endorsers handover ≡ true = (own_facts old endorsers handover).1 own in cc);
      waits = waits;
      free = facts.1;
    }

pub registration_facts : (new : CertTerms) (endorsers : List ℕ) → (registration_answer new endorsers ≡ Ok tt) ↔ Registers new endorsers
registration_facts new endorsers = (
  λ h.
      let all = each_holds (registration_clauses new endorsers) h in
      record {
        alive = all.0;
        first_serial = eqb-true new.serial 0 all.1.0;
        unlinked = (bytes_eq-Decides new.previous (replicate 32 0)).0 all.1.1.0;
        endorsed = leb-true 3 (distinct_count endorsers) all.1.1.1.0;
        well_formed = formed_from new.policy all.1.1.1.1.0;
      },
  λ f. none_fails (registration_clauses new endorsers)
      (f.alive, (eq-eqb new.serial 0 f.first_serial, ((bytes_eq-Decides new.previous (replicate 32 0)).1 f.unlinked, (le-leb 3 (distinct_count endorsers) f.endorsed, (formed_test new.policy f.well_formed, tt))))),
)

-- what is answered in a manner
manner_from : (taken manner : Manner) (answer : Result (Unit {0}) PolicyRefusal) → in_manner taken answer ≡ Ok manner → (taken ≡ manner) × (answer ≡ Ok tt)
manner_from taken manner (Ok u) h = (cc, refl)
manner_from taken manner (Err refusal) h = absurd (cc)

-- a follow is no recovery
pub by_no_wait : (old new : CertTerms) (endorsers : List ℕ) (handover pending : Bool) → old.policy.wait ≡ None
    → update_answer old new endorsers handover pending ≡ in_manner Full (follow_answer old new endorsers handover)
by_no_wait old new endorsers handover pending none =
    ap (λ w. cond {A = Result Manner PolicyRefusal} (is_some w && not (has_own old endorsers handover)) (in_manner Recovery (first_failing (recovery_clauses old new endorsers pending))) (in_manner Full (follow_answer old new endorsers handover))) none

by_own : (old new : CertTerms) (endorsers : List ℕ) (handover pending : Bool) → has_own old endorsers handover ≡ true
    → update_answer old new endorsers handover pending ≡ in_manner Full (follow_answer old new endorsers handover)
by_own old new endorsers handover pending own =
    ap (λ b. cond {A = Result Manner PolicyRefusal} (is_some old.policy.wait && not b) (in_manner Recovery (first_failing (recovery_clauses old new endorsers pending))) (in_manner Full (follow_answer old new endorsers handover))) own
    ∙ ap (λ b. cond {A = Result Manner PolicyRefusal} b (in_manner Recovery (first_failing (recovery_clauses old new endorsers pending))) (in_manner Full (follow_answer old new endorsers handover))) (and_right (is_some old.policy.wait) false refl)

by_recovery : (old new : CertTerms) (endorsers : List ℕ) (handover pending : Bool) → IsSome old.policy.wait → has_own old endorsers handover ≡ false
    → update_answer old new endorsers handover pending ≡ in_manner Recovery (first_failing (recovery_clauses old new endorsers pending))
by_recovery old new endorsers handover pending waits lacks =
    ap (λ b. cond {A = Result Manner PolicyRefusal} b (in_manner Recovery (first_failing (recovery_clauses old new endorsers pending))) (in_manner Full (follow_answer old new endorsers handover)))
    (and_from (is_some old.policy.wait) (not (has_own old endorsers handover)) waits (ap not lacks))

-- an update that is taken
update_from : (manner : Manner) (old new : CertTerms) (endorsers : List ℕ) (handover pending : Bool)
    → update_answer old new endorsers handover pending ≡ Ok manner → IsUpdate manner old new endorsers handover pending
update_from manner old new endorsers handover pending h =
    elim (is_some old.policy.wait && not (has_own old endorsers handover)) as (λ b. is_some old.policy.wait && not (has_own old endorsers handover) ≡ b
    → cond {A = Result Manner PolicyRefusal} b (in_manner Recovery (first_failing (recovery_clauses old new endorsers pending))) (in_manner Full (follow_answer old new endorsers handover)) ≡ Ok manner
    → IsUpdate manner old new endorsers handover pending) [
      | true ↦ λ e h.
          let parts = and_parts (is_some old.policy.wait) (not (has_own old endorsers handover)) e in
          let taken = manner_from Recovery manner (first_failing (recovery_clauses old new endorsers pending)) h in
          subst (λ m. IsUpdate m old new endorsers handover pending) taken.0 (recovers_from old new endorsers handover pending parts.0 (not-true (has_own old endorsers handover) parts.1) taken.1)
      | false ↦ λ e h.
          let taken = manner_from Full manner (follow_answer old new endorsers handover) h in
          subst (λ m. IsUpdate m old new endorsers handover pending) taken.0 ((follow_facts old new endorsers handover).0 taken.1)
    ] refl h

update_answered : (manner : Manner) (old new : CertTerms) (endorsers : List ℕ) (handover pending : Bool)
    → IsUpdate manner old new endorsers handover pending → update_answer old new endorsers handover pending ≡ Ok manner
update_answered Full old new endorsers handover pending is =
    by_own old new endorsers handover pending ((own_facts old endorsers handover).1 is.own)
    ∙ ap (in_manner Full) ((follow_facts old new endorsers handover).1 is)
update_answered Recovery old new endorsers handover pending is =
    by_recovery old new endorsers handover pending is.waits (false_from_ne_true _ (λ own. is.lacks_own ((own_facts old endorsers handover).0 own)))
    ∙ ap (in_manner Recovery) ((recovery_facts old new endorsers pending).1 (is.succeeds, is.free))
update_answered Objected old new endorsers handover pending is = absurd is

pub update_facts : (manner : Manner) (old new : CertTerms) (endorsers : List ℕ) (handover pending : Bool)
    → (update_answer old new endorsers handover pending ≡ Ok manner) ↔ IsUpdate manner old new endorsers handover pending
update_facts manner old new endorsers handover pending =
    (update_from manner old new endorsers handover pending, update_answered manner old new endorsers handover pending)

-- ---- who is refused by the domain's own clauses has no wait

abbrev is_own : PolicyRefusal → Bool
is_own Revoked = false
is_own Name = false
is_own Serial = false
is_own Previous = false
is_own Endorsers = false
is_own Threshold = true
is_own Handover = true
is_own Policy = false
is_own Pending = false
is_own NotPending = false
is_own Objection = false

-- where each own clause of a list holds, none is its refusal
no_own : (manner : Manner) (clauses : List Clause) (refusal : PolicyRefusal) → AllByRecursion (λ c. is_own c.0 ≡ true → c.1 ≡ true) clauses
    → in_manner manner (first_failing clauses) ≡ Err refusal → is_own refusal ≡ true → ⊥
no_own manner clauses refusal all h own =
    let first : FailsAtPlace clauses refusal = fails_at_place clauses refusal (refused (first_failing clauses) h) in
    let at : get_or clauses first.0 (refusal, false) ≡ (refusal, false) = first.1.1.0 (refusal, false) in
    let holds : (get_or clauses first.0 (refusal, false)).1 ≡ true =
    All-from_recursion (λ c. is_own c.0 ≡ true → c.1 ≡ true) clauses all first.0 (refusal, false) first.1.0 (ap (λ (c : Clause). is_own c.0) at ∙ own) in
    let fails : (get_or clauses first.0 (refusal, false)).1 ≡ false = ap (λ (c : Clause). c.1) at in
    absurd (cc) where
      refused : (answer : Result (Unit {0}) PolicyRefusal) → in_manner manner answer ≡ Err refusal → answer ≡ Err refusal
      refused (Ok u) h = absurd (cc)
      refused (Err k) h = (let same : k ≡ refusal = cc in ap (λ x. Err x) same)

own_refused : (old new : CertTerms) (endorsers : List ℕ) (handover pending : Bool) (refusal : PolicyRefusal)
    → update_answer old new endorsers handover pending ≡ Err refusal → is_own refusal ≡ true → IsSome old.policy.wait → ⊥
own_refused old new endorsers handover pending refusal h own waits =
    elim (has_own old endorsers handover) as (λ b. has_own old endorsers handover ≡ b → ⊥) [
      | true ↦ λ e.
          let tests = own_tests old endorsers handover ((own_facts old endorsers handover).0 e) in
          no_own Full (follow_clauses old new endorsers handover) refusal
          ((λ n. absurd (cc)), ((λ n. absurd (cc)), ((λ n. absurd (cc)), ((λ n. absurd (cc)), ((λ n. absurd (cc)), ((λ _. tests.0), ((λ _. tests.1.0), ((λ n. absurd (cc)), tt))))))))
          (sym (by_own old new endorsers handover pending e) ∙ h) own
      | false ↦ λ e.
          no_own Recovery (recovery_clauses old new endorsers pending) refusal
          ((λ n. absurd (cc)), ((λ n. absurd (cc)), ((λ n. absurd (cc)), ((λ n. absurd (cc)), ((λ n. absurd (cc)), ((λ n. absurd (cc)), ((λ n. absurd (cc)), tt)))))))
          (sym (by_recovery old new endorsers handover pending waits e) ∙ h) own
    ] refl

pub own_refusals : (old new : CertTerms) (endorsers : List ℕ) (handover pending : Bool) (refusal : PolicyRefusal)
    → update_answer old new endorsers handover pending ≡ Err refusal → (refusal ≡ Threshold) ⊎ (refusal ≡ Handover) → old.policy.wait ≡ None
own_refusals old new endorsers handover pending refusal h own =
    none old.policy.wait (own_refused old new endorsers handover pending refusal h (⊎_elim (λ (at : refusal ≡ Threshold). ap is_own at) (λ (at : refusal ≡ Handover). ap is_own at) own)) where
      none : (w : Option ℕ) → (IsSome w → ⊥) → w ≡ None
      none None not = refl
      none (Some x) not = absurd (not refl)
