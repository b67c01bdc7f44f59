-- When two statements of one party contradict each other.
use Rattle.std.specs.Prelude.{ℕ, ◌==◌, Bool, false, not, ◌&&◌, ◌||◌, if◌then◌else◌, List, Option, Some, None}
use Rattle.std.specs.Str.{bytes_eq}
use Rattle.ar_statement.specs.Claims.{Claim, endorse, handover, propose, vote, confirm, confirm_absent, answer, status, roll, object, is_party, role_number, signer_of, value_with}
use Rattle.party_keys.specs.Signatures.{rolls_from}
use Rattle.vote_quorum.specs.declared.value.Value.{Value}
use Rattle.monitor.specs.Items.{Sworn}

-- ---- what a statement says

-- the epoch of a vote, and what it is for
abbrev pub vote_in : Claim → Option (ℕ × Value)
vote_in (endorse authority certificate) = None
vote_in (handover certificate) = None
vote_in (propose log epoch base root) = None
vote_in (vote log epoch base root) = Some (epoch, value_with base root)
vote_in (confirm signer epoch name certificate root) = None
vote_in (confirm_absent signer epoch name root) = None
vote_in (answer name certificate challenge) = None
vote_in (status log epoch value) = None
vote_in (roll signer generation key) = None
vote_in (object certificate) = None

-- the epoch of a status, and what it says that the log voted for, if anything
abbrev pub status_in : Claim → Option (ℕ × Option Value)
status_in (endorse authority certificate) = None
status_in (handover certificate) = None
status_in (propose log epoch base root) = None
status_in (vote log epoch base root) = None
status_in (confirm signer epoch name certificate root) = None
status_in (confirm_absent signer epoch name root) = None
status_in (answer name certificate challenge) = None
status_in (status log epoch value) = Some (epoch, value)
status_in (roll signer generation key) = None
status_in (object certificate) = None

-- the epoch, the name and the root of a confirmation, of a certificate or of none
abbrev pub confirmation_in : Claim → Option (ℕ × (List ℕ × List ℕ))
confirmation_in (endorse authority certificate) = None
confirmation_in (handover certificate) = None
confirmation_in (propose log epoch base root) = None
confirmation_in (vote log epoch base root) = None
confirmation_in (confirm signer epoch name certificate root) = Some (epoch, (name, root))
confirmation_in (confirm_absent signer epoch name root) = Some (epoch, (name, root))
confirmation_in (answer name certificate challenge) = None
confirmation_in (status log epoch value) = None
confirmation_in (roll signer generation key) = None
confirmation_in (object certificate) = None

-- ---- tests of two

-- both are there, and the test holds of them
abbrev pub holds_of_both : {A B : Type 0} → (A → B → Bool) → Option A → Option B → Bool
holds_of_both test (Some one) (Some other) = test one other
holds_of_both test (Some one) None = false
holds_of_both test None other = false

-- votes of one epoch
abbrev pub are_votes : Claim → Claim → Bool
are_votes one other = holds_of_both (λ v w. v.0 == w.0) (vote_in one) (vote_in other)

-- this is what a status says that the log voted for
abbrev pub is_value : Option Value → Value → Bool
is_value None voted = false
is_value (Some value) voted = bytes_eq value.base voted.base && bytes_eq value.root voted.root

-- a vote, and a status of its epoch that does not say what the vote is for
abbrev pub is_denied : Claim → Claim → Bool
is_denied one other = holds_of_both (λ v s. v.0 == s.0 && not (is_value s.1 v.1)) (vote_in one) (status_in other)

-- statuses of one epoch
abbrev pub are_statuses : Claim → Claim → Bool
are_statuses one other = holds_of_both (λ s t. s.0 == t.0) (status_in one) (status_in other)

-- a log signs the statement
abbrev pub is_of_log : Claim → Bool
is_of_log claim = role_number (signer_of claim).role == 1

-- confirmations of a log for one epoch, with different roots or of one name
abbrev pub are_confirmations : Claim → Claim → Bool
are_confirmations one other =
    is_of_log one
    && holds_of_both (λ c d. c.0 == d.0 && (not (bytes_eq c.1.1 d.1.1) || bytes_eq c.1.0 d.1.0)) (confirmation_in one) (confirmation_in other)

-- the same number, where both are there
abbrev pub are_one : Option ℕ → Option ℕ → Bool
are_one one other = holds_of_both (λ a b. a == b) one other

-- Rolls of one generation
abbrev pub are_rolls : Claim → Claim → Bool
are_rolls one other = are_one (rolls_from one) (rolls_from other)

-- one leaf of one generation signed both
abbrev pub have_one_leaf : Sworn → Sworn → Bool
have_one_leaf s t = are_one s.generation t.generation && are_one s.leaf t.leaf

-- ---- the rules

-- the least rule that fits two statements
abbrev pub rule_fitting : Sworn → Sworn → Option ℕ
rule_fitting s t =
    if are_votes s.claim t.claim then Some 1 else
    if is_denied s.claim t.claim || is_denied t.claim s.claim then Some 2 else
    if are_statuses s.claim t.claim then Some 3 else
    if are_confirmations s.claim t.claim then Some 4 else
    if are_rolls s.claim t.claim then Some 5 else
    if have_one_leaf s t then Some 6 else
    None

-- one party signed both, and their texts differ
abbrev pub are_two_of_one : Sworn → Sworn → Bool
are_two_of_one s t = is_party (signer_of s.claim) (signer_of t.claim) && not (bytes_eq s.text t.text)

-- The least rule by which two statements of one party contradict each other. One text twice is no contradiction.
unfoldable pub rule_of : Sworn → Sworn → Option ℕ
rule_of s t = if are_two_of_one s t then rule_fitting s t else None
