-- What the tests of two statements show of what they say.
use Rattle.std.proofs.Common.{◌≡◌, ℕ, List, refl, ap, Bool, true, false, cond, not, ◌||◌, Option, Some, None}
use Rattle.std.specs.Str.{bytes_eq}
use Rattle.std.proofs.lemmas.Bool.{and_parts}
use Rattle.std.proofs.lemmas.Option.{same_Some}
use Rattle.std.proofs.lemmas.Slice.Eq.{bytes_eq-Decides}
use Rattle.ar_statement.specs.declared.party.Party.{Party}
use Rattle.ar_statement.specs.Claims.{Claim, endorse, handover, propose, vote, confirm, confirm_absent, answer, status, roll, object, confirmation_by, value_with}
use Rattle.party_keys.specs.Signatures.{rolls_from}
use Rattle.vote_quorum.specs.declared.value.Value.{Value}
use Rattle.monitor.specs.Items.{Sworn}
use Rattle.monitor.specs.Rules.{are_confirmations, are_rolls, are_statuses, are_two_of_one, are_votes, confirmation_in, have_one_leaf, holds_of_both, is_denied, rule_fitting, rule_of, status_in, vote_in}

-- both are there, and the test holds of them
pub both : {A B : Type 0} (test : A → B → Bool) (o : Option A) (p : Option B) → holds_of_both test o p ≡ true → (a : A) × (b : B) × (o ≡ Some a) × (p ≡ Some b) × (test a b ≡ true)
both test (Some a) (Some b) e = (a, b, refl, refl, e)
both test (Some a) None e = absurd cc
both test None p e = absurd cc

-- ---- what a statement is

pub a-vote : (claim : Claim) (v : ℕ × Value) → vote_in claim ≡ Some v → (log : ℕ) × (claim ≡ vote log v.0 v.1.base v.1.root)
a-vote (vote log epoch base root) v e = (log, ap (λ (w : ℕ × Value). vote log w.0 w.1.base w.1.root) (same_Some (epoch, value_with base root) v e))
a-vote (endorse authority certificate) v e = absurd cc
a-vote (handover certificate) v e = absurd cc
a-vote (propose log epoch base root) v e = absurd cc
a-vote (confirm signer epoch name certificate root) v e = absurd cc
a-vote (confirm_absent signer epoch name root) v e = absurd cc
a-vote (answer name certificate challenge) v e = absurd cc
a-vote (status log epoch value) v e = absurd cc
a-vote (roll signer generation key) v e = absurd cc
a-vote (object certificate) v e = absurd cc

pub a-status : (claim : Claim) (v : ℕ × Option Value) → status_in claim ≡ Some v → (log : ℕ) × (claim ≡ status log v.0 v.1)
a-status (status log epoch value) v e = (log, ap (λ (w : ℕ × Option Value). status log w.0 w.1) (same_Some (epoch, value) v e))
a-status (endorse authority certificate) v e = absurd cc
a-status (handover certificate) v e = absurd cc
a-status (propose log epoch base root) v e = absurd cc
a-status (vote log epoch base root) v e = absurd cc
a-status (confirm signer epoch name certificate root) v e = absurd cc
a-status (confirm_absent signer epoch name root) v e = absurd cc
a-status (answer name certificate challenge) v e = absurd cc
a-status (roll signer generation key) v e = absurd cc
a-status (object certificate) v e = absurd cc

pub a-confirmation : (claim : Claim) (v : ℕ × (List ℕ × List ℕ)) → confirmation_in claim ≡ Some v
    → (signer : Party) × (certificate : Option (List ℕ)) × (claim ≡ confirmation_by signer v.0 v.1.0 certificate v.1.1)
a-confirmation (confirm signer epoch name certificate root) v e =
    (signer, Some certificate, ap (λ (w : ℕ × (List ℕ × List ℕ)). confirm signer w.0 w.1.0 certificate w.1.1) (same_Some (epoch, (name, root)) v e))
a-confirmation (confirm_absent signer epoch name root) v e =
    (signer, None, ap (λ (w : ℕ × (List ℕ × List ℕ)). confirm_absent signer w.0 w.1.0 w.1.1) (same_Some (epoch, (name, root)) v e))
a-confirmation (endorse authority certificate) v e = absurd cc
a-confirmation (handover certificate) v e = absurd cc
a-confirmation (propose log epoch base root) v e = absurd cc
a-confirmation (vote log epoch base root) v e = absurd cc
a-confirmation (answer name certificate challenge) v e = absurd cc
a-confirmation (status log epoch value) v e = absurd cc
a-confirmation (roll signer generation key) v e = absurd cc
a-confirmation (object certificate) v e = absurd cc

pub a-roll : (claim : Claim) (g : ℕ) → rolls_from claim ≡ Some g → (signer : Party) × (key : List ℕ) × (claim ≡ roll signer g key)
a-roll (roll signer generation key) g e = (signer, key, ap (λ (w : ℕ). roll signer w key) (same_Some generation g e))
a-roll (endorse authority certificate) g e = absurd cc
a-roll (handover certificate) g e = absurd cc
a-roll (propose log epoch base root) g e = absurd cc
a-roll (vote log epoch base root) g e = absurd cc
a-roll (confirm signer epoch name certificate root) g e = absurd cc
a-roll (confirm_absent signer epoch name root) g e = absurd cc
a-roll (answer name certificate challenge) g e = absurd cc
a-roll (status log epoch value) g e = absurd cc
a-roll (object certificate) g e = absurd cc

-- ---- the rules

-- one of the tests of the rules holds
pub record Never (X : Type 0) (s t : Sworn) : Type 0 where
  pub votes : are_votes s.claim t.claim ≡ true → X
  pub denied : is_denied s.claim t.claim ≡ true → X
  pub denies : is_denied t.claim s.claim ≡ true → X
  pub statuses : are_statuses s.claim t.claim ≡ true → X
  pub confirmations : are_confirmations s.claim t.claim ≡ true → X
  pub rolls : are_rolls s.claim t.claim ≡ true → X
  pub leaves : have_one_leaf s t ≡ true → X

either : {X : Type 0} (a b : Bool) → (a || b) ≡ true → (a ≡ true → X) → (b ≡ true → X) → X
either true b e one other = one refl
either false b e one other = other e

first-of : {X : Type 0} (a b c d e f : Bool) (k : ℕ)
    → cond a (Some 1) (cond b (Some 2) (cond c (Some 3) (cond d (Some 4) (cond e (Some 5) (cond f (Some 6) None))))) ≡ Some k
    → (a ≡ true → X) → (b ≡ true → X) → (c ≡ true → X) → (d ≡ true → X) → (e ≡ true → X) → (f ≡ true → X) → X
first-of true b c d e f k is one two three four five six = one refl
first-of false true c d e f k is one two three four five six = two refl
first-of false false true d e f k is one two three four five six = three refl
first-of false false false true e f k is one two three four five six = four refl
first-of false false false false true f k is one two three four five six = five refl
first-of false false false false false true k is one two three four five six = six refl
first-of false false false false false false k is one two three four five six = absurd cc

pub fitted : {X : Type 0} (s t : Sworn) (k : ℕ) → rule_fitting s t ≡ Some k → Never X s t → X
fitted s t k is never =
    first-of (are_votes s.claim t.claim) (is_denied s.claim t.claim || is_denied t.claim s.claim) (are_statuses s.claim t.claim)
    (are_confirmations s.claim t.claim) (are_rolls s.claim t.claim) (have_one_leaf s t) k is
    never.votes (λ e. either (is_denied s.claim t.claim) (is_denied t.claim s.claim) e never.denied never.denies)
    never.statuses never.confirmations never.rolls never.leaves

pub chosen : {A : Type 0} (b : Bool) (o : Option A) (x : A) → cond b o None ≡ Some x → (b ≡ true) × (o ≡ Some x)
chosen true o x e = (refl, e)
chosen false o x e = absurd cc

-- where a rule is found, the texts differ, and a rule fits
pub ruled : (s t : Sworn) (k : ℕ) → rule_of s t ≡ Some k → (bytes_eq s.text t.text ≡ false) × (rule_fitting s t ≡ Some k)
unfolding rule_of
ruled s t k e =
    let is = chosen (are_two_of_one s t) (rule_fitting s t) k e in
    let parts = and_parts _ (not (bytes_eq s.text t.text)) is.0 in
    (no (bytes_eq s.text t.text) parts.1, is.1)
  where
    no : (b : Bool) → not b ≡ true → b ≡ false
    no true e = absurd cc
    no false e = refl

-- and texts that differ are not one
pub one-text : (s t : Sworn) → bytes_eq s.text t.text ≡ false → s.text ≡ t.text → ⊥
one-text s t differ same =
    let yes : bytes_eq s.text t.text ≡ true = (bytes_eq-Decides s.text t.text).1 same in
    cc
