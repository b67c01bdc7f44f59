-- The clauses for an update of a certificate, full or as a recovery, and for the registration of a name.
use Rattle.std.specs.Prelude.{◌≡◌, ℕ, ◌+◌, ◌≤◌, ◌==◌, nat_le, Bool, not, ◌&&◌, ◌||◌, List, [], ◌∷◌, ◌++◌, length, replicate, is_some, Result, if◌then◌else◌, IsTrue, IsSome}
use Rattle.std.specs.List.{list_all}
use Rattle.std.specs.Str.{bytes_eq}
use Rattle.std.specs.Result.{result_map_both}
use Rattle.cert_policy.specs.declared.refusal.PolicyRefusal.{PolicyRefusal}
use Rattle.cert_policy.specs.declared.refusal.PolicyRefusal.TheVariants.{Revoked, Name, Serial, Previous, Endorsers, Threshold, Handover, Policy, Pending}
use Rattle.cert_policy.specs.declared.manner.Manner.{Manner}
use Rattle.cert_policy.specs.declared.manner.Manner.TheVariants.{Full, Recovery, Objected}
use Rattle.vote_quorum.specs.Numbers.{distinct_count, shared_count}
use Rattle.ar_base.specs.FirstFailing.{first_failing}
use Rattle.ar_base.specs.Ranges.{is_from_to}
use Rattle.cert_policy.specs.Refusals.{Clause}
use Rattle.cert_policy.specs.Terms.{CertTerms, PolicyTerms}

-- a policy is well formed where its threshold is 1 to 8, and at most as many authorities as it trusts
abbrev pub is_well_formed : PolicyTerms → Bool
is_well_formed p = is_from_to 1 8 p.threshold && nat_le p.threshold (length p.trusted)

-- The first five clauses of every update: the old certificate is not revoked; both have one name; the serial
-- number is one more; the previous digest is the old one's; and three authorities endorse it.
abbrev pub common_clauses : CertTerms → CertTerms → List ℕ → List Clause
common_clauses old new endorsers =
    (Revoked, not old.revoked)
    ∷ ((Name, bytes_eq old.name new.name)
    ∷ ((Serial, new.serial == old.serial + 1)
    ∷ ((Previous, bytes_eq new.previous old.digest)
    ∷ ((Endorsers, nat_le 3 (distinct_count endorsers))
    ∷ []))))

-- The domain's own two clauses: as many of the authorities that the old policy trusts endorse it as the old
-- threshold says; and the old key handed over, where the old policy asks for it.
abbrev pub own_clauses : CertTerms → List ℕ → Bool → List Clause
own_clauses old endorsers handover =
    (Threshold, nat_le old.policy.threshold (shared_count endorsers old.policy.trusted))
    ∷ ((Handover, not old.policy.keyed || handover)
    ∷ [])

-- The eight clauses under which a new certificate follows an old one, in order of number: the common five,
-- the domain's own two, and that the new policy is well formed.
abbrev pub follow_clauses : CertTerms → CertTerms → List ℕ → Bool → List Clause
follow_clauses old new endorsers handover =
    common_clauses old new endorsers ++ (own_clauses old endorsers handover ++ (Policy, is_well_formed new.policy) ∷ [])

-- The clauses of a recovery, in order of number: the common five, that the new policy is well formed, and
-- that nothing is pending.
abbrev pub recovery_clauses : CertTerms → CertTerms → List ℕ → Bool → List Clause
recovery_clauses old new endorsers pending =
    common_clauses old new endorsers ++ (Policy, is_well_formed new.policy) ∷ ((Pending, not pending) ∷ [])

-- The clauses under which a certificate registers a name, in order of number: it is not revoked; its
-- serial number is 0; its previous digest is 32 zero bytes; three authorities endorse it; and its
-- policy is well formed.
abbrev pub registration_clauses : CertTerms → List ℕ → List Clause
registration_clauses new endorsers =
    (Revoked, not new.revoked)
    ∷ ((Serial, new.serial == 0)
    ∷ ((Previous, bytes_eq new.previous (replicate 32 0))
    ∷ ((Endorsers, nat_le 3 (distinct_count endorsers))
    ∷ ((Policy, is_well_formed new.policy)
    ∷ []))))

-- whether a new certificate follows an old one, or else the least clause that fails
abbrev pub follow_answer : CertTerms → CertTerms → List ℕ → Bool → Result (Unit {0}) PolicyRefusal
follow_answer old new endorsers handover = first_failing (follow_clauses old new endorsers handover)

-- whether each of the domain's own clauses holds
abbrev pub has_own : CertTerms → List ℕ → Bool → Bool
has_own old endorsers handover = list_all (λ c. c.1) (own_clauses old endorsers handover)

-- an update in this manner, unless a clause fails
abbrev pub in_manner : Manner → Result (Unit {0}) PolicyRefusal → Result Manner PolicyRefusal
in_manner manner answer = result_map_both (λ _. manner) (λ refusal. refusal) answer

-- How an update is taken, or else the least clause that fails. Where it fails a clause of the domain's own and
-- the old policy has a wait, it is taken as a recovery, and else as a full update.
abbrev pub update_answer : CertTerms → CertTerms → List ℕ → Bool → Bool → Result Manner PolicyRefusal
update_answer old new endorsers handover pending =
    if is_some old.policy.wait && not (has_own old endorsers handover)
    then in_manner Recovery (first_failing (recovery_clauses old new endorsers pending))
    else in_manner Full (follow_answer old new endorsers handover)

-- whether a certificate registers a name, or else the least clause that fails
abbrev pub registration_answer : CertTerms → List ℕ → Result (Unit {0}) PolicyRefusal
registration_answer new endorsers = first_failing (registration_clauses new endorsers)

-- what it is that a policy is well formed
pub record IsWellFormed (p : PolicyTerms) : Type 0 where
  pub least : 1 ≤ p.threshold
  pub most : p.threshold ≤ 8
  pub reachable : p.threshold ≤ length p.trusted

-- what each update keeps, in either manner: the common clauses hold, and the new policy is well formed
pub record Succeeds (old new : CertTerms) (endorsers : List ℕ) : Type 0 where
  pub alive : IsTrue (not old.revoked)
  pub same_name : old.name ≡ new.name
  pub next_serial : new.serial ≡ old.serial + 1
  pub linked : new.previous ≡ old.digest
  pub endorsed : 3 ≤ distinct_count endorsers
  pub well_formed : IsWellFormed new.policy

-- what it is that the domain's own clauses hold
pub record MeetsOwn (old : CertTerms) (endorsers : List ℕ) (handover : Bool) : Type 0 where
  pub trusted : old.policy.threshold ≤ shared_count endorsers old.policy.trusted
  pub handed_over : IsTrue old.policy.keyed → IsTrue handover

-- what it is that a new certificate follows an old one
pub record Follows (old new : CertTerms) (endorsers : List ℕ) (handover : Bool) : Type 0 where
  pub succeeds : Succeeds old new endorsers
  pub own : MeetsOwn old endorsers handover

-- what it is that a new certificate recovers from an old one: it fails the domain's own clauses alone, under a
-- policy that has a wait, and nothing is pending
pub record Recovers (old new : CertTerms) (endorsers : List ℕ) (handover pending : Bool) : Type 0 where
  pub succeeds : Succeeds old new endorsers
  pub lacks_own : MeetsOwn old endorsers handover → ⊥
  pub waits : IsSome old.policy.wait
  pub free : IsTrue (not pending)

-- what it is that an update is taken in a manner
abbrev pub IsUpdate : Manner → CertTerms → CertTerms → List ℕ → Bool → Bool → Type 0
IsUpdate Full old new endorsers handover pending = Follows old new endorsers handover
IsUpdate Recovery old new endorsers handover pending = Recovers old new endorsers handover pending
IsUpdate Objected old new endorsers handover pending = ⊥

-- what it is that a certificate registers a name
pub record Registers (new : CertTerms) (endorsers : List ℕ) : Type 0 where
  pub alive : IsTrue (not new.revoked)
  pub first_serial : new.serial ≡ 0
  pub unlinked : new.previous ≡ replicate 32 0
  pub endorsed : 3 ≤ distinct_count endorsers
  pub well_formed : IsWellFormed new.policy
