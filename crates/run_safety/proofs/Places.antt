-- Honest parties in their places: one that changes, one that becomes dishonest, and one of another role that does.
use Rattle.std.proofs.Common.{◌≡◌, ◌≢◌, ◌⊎◌, inl, inr, ℕ, zero, suc, ◌<◌, List, [], ◌∷◌, ◌++◌, refl, sym, ap, ◌∙◌, subst, Bool, true, false, ◌||◌, eqb, Option, Some, None, is_none}
use Rattle.std.specs.Prelude.{length, slice_set}
use Rattle.std.specs.List.{list_any}
use Rattle.std.proofs.lemmas.Bool.Decides.{eqb_tells}
use Rattle.std.proofs.lemmas.List.Folds.{list_any-append}
use Rattle.std.proofs.lemmas.List.{length-set}
use Rattle.std.proofs.Math.Bool.{or-false, or-true}
use Rattle.ar_statement.specs.Claims.{is_party, party}
use Rattle.ar_statement.specs.declared.party.Party.{Party}
use Rattle.ar_statement.specs.declared.party.Role.{Role}
use Rattle.ar_world.specs.ar_nodes.Finding.{honest_in}
use Rattle.ar_world.proofs.ar_nodes.Spots.{honest-below, put-beside, put-there}
use Rattle.run_safety.specs.Seats.{AreSeated, honest_count}

-- ---- places of a list

-- as many are honest where one stands in the place of another
pub count-changed : {X : Type 0} (parties : List (Option X)) (n : ℕ) (was is : X) → honest_in parties n ≡ Some was → honest_count (slice_set parties n (Some is)) ≡ honest_count parties
count-changed [] n was is there = absurd cc
count-changed (None ∷ more) zero was is there = absurd cc
count-changed (Some p ∷ more) zero was is there = refl
count-changed (None ∷ more) (suc n) was is there = count-changed more n was is there
count-changed (Some p ∷ more) (suc n) was is there = ap suc (count-changed more n was is there)

-- and one less where one is gone
pub count-without : {X : Type 0} (parties : List (Option X)) (n : ℕ) (was : X) → honest_in parties n ≡ Some was → suc (honest_count (slice_set parties n None)) ≡ honest_count parties
count-without [] n was there = absurd cc
count-without (None ∷ more) zero was there = absurd cc
count-without (Some p ∷ more) zero was there = refl
count-without (None ∷ more) (suc n) was there = count-without more n was there
count-without (Some p ∷ more) (suc n) was there = ap suc (count-without more n was there)

-- whether two places are one
abbrev Tells : ℕ → ℕ → Type 0
Tells m n = ((eqb m n ≡ true) × (m ≡ n)) ⊎ ((eqb m n ≡ false) × (m ≢ n))

-- ---- a party that changes

-- An honest party that changes and stays who it is keeps all seated.
pub seated-changed : {X : Type 0} (party : ℕ → Party) (dishonest : List Party) (count : ℕ) (sits : ℕ → X → Type 0) (parties : List (Option X)) (n : ℕ) (was is : X)
    → honest_in parties n ≡ Some was → (sits n was → sits n is) → AreSeated party dishonest count sits parties
    → AreSeated party dishonest count sits (slice_set parties n (Some is))
seated-changed {X} party dishonest count sits parties n was is there stays seated = record {
  all = length-set parties n (Some is) ∙ seated.all;
  own = λ m node here. own m node here (eqb_tells m n);
  empty = λ m less. alike m (eqb_tells m n) ∙ seated.empty m less;
}
  where
    within : n < length parties
    within = honest-below parties n was there

    now : List (Option X)
    now = slice_set parties n (Some is)

    same-node : (m : ℕ) (node : X) → honest_in now m ≡ Some node → m ≡ n → is ≡ node
    same-node m node here same = let e : Some is ≡ Some node = sym (put-there parties n (Some is) within) ∙ ap (honest_in now) (sym same) ∙ here in cc

    own : (m : ℕ) (node : X) → honest_in now m ≡ Some node → Tells m n → sits m node
    own m node here (inl same) =
        subst (λ k. sits k node) (sym same.1) (subst (sits n) (same-node m node here same.1) (stays (seated.own n was there)))
    own m node here (inr other) = seated.own m node (sym (put-beside parties n m (Some is) other.1) ∙ here)

    alike : (m : ℕ) → Tells m n → is_none (honest_in now m) ≡ is_none (honest_in parties m)
    alike m (inl same) =
        ap (λ k. is_none (honest_in now k)) same.1 ∙ ap is_none (put-there parties n (Some is) within)
        ∙ sym (ap (λ k. is_none (honest_in parties k)) same.1 ∙ ap is_none there)
    alike m (inr other) = ap is_none (put-beside parties n m (Some is) other.1)

-- ---- a party that becomes dishonest

-- whether it is this party
one-more : (who : Party) (dishonest : List Party) (other : Party) (b : Bool) → is_party other who ≡ b
    → list_any (is_party other) (dishonest ++ who ∷ []) ≡ (list_any (is_party other) dishonest || b)
one-more who dishonest other true is = list_any-append (is_party other) dishonest (who ∷ []) ∙ rw is refl
one-more who dishonest other false is = list_any-append (is_party other) dishonest (who ∷ []) ∙ rw is refl

-- One that is seated becomes dishonest, and its place is empty.
pub seated-without : {X : Type 0} (role : Role) (dishonest : List Party) (count : ℕ) (sits : ℕ → X → Type 0) (parties : List (Option X)) (n : ℕ) (was : X)
    → ((m : ℕ) → is_party (party role m) (party role n) ≡ eqb m n) → honest_in parties n ≡ Some was
    → AreSeated (party role) dishonest count sits parties → AreSeated (party role) (dishonest ++ party role n ∷ []) count sits (slice_set parties n None)
seated-without {X} role dishonest count sits parties n was told there seated = record {
  all = length-set parties n None ∙ seated.all;
  own = λ m node here. own m node here (eqb_tells m n);
  empty = λ m less. empty m less (eqb_tells m n);
}
  where
    within : n < length parties
    within = honest-below parties n was there

    now : List (Option X)
    now = slice_set parties n None

    at-place : (m : ℕ) → m ≡ n → honest_in now m ≡ None
    at-place m same = ap (honest_in now) same ∙ put-there parties n None within

    own : (m : ℕ) (node : X) → honest_in now m ≡ Some node → Tells m n → sits m node
    own m node here (inl same) = let e : None ≡ Some node = sym (at-place m same.1) ∙ here in absurd cc
    own m node here (inr other) = seated.own m node (sym (put-beside parties n m None other.1) ∙ here)

    empty : (m : ℕ) → m < count → Tells m n
        → is_none (honest_in now m) ≡ list_any (is_party (party role m)) (dishonest ++ party role n ∷ [])
    empty m less (inl same) =
        ap is_none (at-place m same.1)
        ∙ sym (one-more (party role n) dishonest (party role m) true (told m ∙ same.0) ∙ or-true (list_any (is_party (party role m)) dishonest))
    empty m less (inr other) =
        ap is_none (put-beside parties n m None other.1) ∙ seated.empty m less
        ∙ sym (one-more (party role n) dishonest (party role m) false (told m ∙ other.0) ∙ or-false (list_any (is_party (party role m)) dishonest))

-- One of another role becomes dishonest.
pub seated-beside : {X : Type 0} (seat : ℕ → Party) (who : Party) (dishonest : List Party) (count : ℕ) (sits : ℕ → X → Type 0) (parties : List (Option X))
    → ((m : ℕ) → is_party (seat m) who ≡ false) → AreSeated seat dishonest count sits parties → AreSeated seat (dishonest ++ who ∷ []) count sits parties
seated-beside seat who dishonest count sits parties other seated = record {
  all = seated.all;
  own = seated.own;
  empty = λ m less. seated.empty m less ∙ sym (one-more who dishonest (seat m) false (other m) ∙ or-false (list_any (is_party (seat m)) dishonest));
}
