-- The pin of a name at its place.
use Rattle.std.proofs.Common.{◌≡◌, ℕ, zero, suc, ◌+◌, ◌<◌, ◌≤◌, Bool, true, false, cond, not, nat_lt, List, [], ◌∷◌, ◌++◌, length, get_or, Some, None, refl, sym, ap, ◌∙◌, subst, arith}
use Rattle.std.specs.Prelude.{position, slice_set}
use Rattle.std.specs.List.{position_or_len, prefix_len}
use Rattle.std.specs.Str.{bytes_eq}
use Rattle.std.proofs.lemmas.List.{set-get_or}
use Rattle.std.proofs.lemmas.Bool.Decides.{nat_tests}
use Rattle.std.proofs.lemmas.List.Quantifiers.{position-Some}
use Rattle.std.proofs.lemmas.List.Sums.{prefix_len-le-length}
use Rattle.std.proofs.lemmas.Option.{cond_some}
use Rattle.ar_cert.specs.Changes.{Change}
use Rattle.client_memory.specs.Book.{Pin, is_of, with_links}

-- a pin with these links
abbrev pub linked_pin : List Change → Pin → Pin
linked_pin links pin = record { name = pin.name; chain = pin.chain ++ links }

-- one place further on
further : (x : Pin) (xs : List Pin) (k n : ℕ) (pin new : Pin) (later : List Pin) → k ≡ suc n
    → (n < length xs → pin ≡ get_or xs n pin → slice_set xs n new ≡ later)
    → k < length (x ∷ xs) → pin ≡ get_or (x ∷ xs) k pin → slice_set (x ∷ xs) k new ≡ x ∷ later
further x xs zero n pin new later e rest lt is = absurd (omega (arith, e))
further x xs (suc k) n pin new later e rest lt is =
    let same : n ≡ k = omega (arith, e) in
    let there : k < length xs → pin ≡ get_or xs k pin → slice_set xs k new ≡ later =
    subst (λ (m : ℕ). m < length xs → pin ≡ get_or xs m pin → slice_set xs m new ≡ later) same rest in
    ap (λ (l : List Pin). x ∷ l) (there (omega (arith, lt)) is)

at-place : (book : List Pin) (name : List ℕ) (links : List Change) (pin : Pin)
    → prefix_len (λ p. not (is_of name p)) book < length book → pin ≡ get_or book (prefix_len (λ p. not (is_of name p)) book) pin
    → slice_set book (prefix_len (λ p. not (is_of name p)) book) (linked_pin links pin) ≡ with_links book name links
unfolding with_links
at-place [] name links pin lt is = absurd (omega (arith, lt))
at-place (x ∷ xs) name links pin lt is = by (bytes_eq x.name name) (at-place xs name links pin) lt is
  where
    n : ℕ
    n = prefix_len (λ p. not (is_of name p)) xs

    by : (b : Bool) → (n < length xs → pin ≡ get_or xs n pin → slice_set xs n (linked_pin links pin) ≡ with_links xs name links)
        → cond (not b) (1 + n) 0 < length (x ∷ xs) → pin ≡ get_or (x ∷ xs) (cond (not b) (1 + n) 0) pin
        → slice_set (x ∷ xs) (cond (not b) (1 + n) 0) (linked_pin links pin) ≡ cond b (linked_pin links x ∷ xs) (x ∷ with_links xs name links)
    by true rest lt is = ap (λ (p : Pin). linked_pin links p ∷ xs) is
    by false rest lt is = further x xs (1 + n) n pin (linked_pin links pin) (with_links xs name links) (omega arith) rest lt is

-- where no pin is of the name
no-pin : (book : List Pin) (name : List ℕ) (links : List Change) → length book ≡ prefix_len (λ p. not (is_of name p)) book → with_links book name links ≡ book
unfolding with_links
no-pin [] name links e = refl
no-pin (x ∷ xs) name links e = by (bytes_eq x.name name) (no-pin xs name links) e
  where
    n : ℕ
    n = prefix_len (λ p. not (is_of name p)) xs

    by : (b : Bool) → (length xs ≡ n → with_links xs name links ≡ xs) → length (x ∷ xs) ≡ cond (not b) (1 + n) 0
        → cond b (linked_pin links x ∷ xs) (x ∷ with_links xs name links) ≡ x ∷ xs
    by true rest e = absurd (omega (arith, e))
    by false rest e = ap (λ (l : List Pin). x ∷ l) (rest (omega (arith, e)))

pub links-there : (book : List Pin) (name : List ℕ) (links : List Change) (place : ℕ) (pin new : Pin)
    → position (is_of name) book ≡ Some place → pin ≡ get_or book place pin → new ≡ linked_pin links pin
    → slice_set book place new ≡ with_links book name links
links-there book name links place pin new here is same =
    let at = cond_some (nat_lt (position_or_len (is_of name) book) (length book)) (position_or_len (is_of name) book) place here in
    let lt : place < length book = (position-Some (is_of name) book place pin here).0 in
    ap (slice_set book place) same ∙ ap (λ (k : ℕ). slice_set book k (linked_pin links pin)) (sym at.1)
    ∙ at-place book name links pin (rw at.1 lt) (rw at.1 is)

pub pin-kept : (book : List Pin) (place : ℕ) (pin new : Pin) → pin ≡ get_or book place pin → new ≡ pin → slice_set book place new ≡ book
pin-kept book place pin new is same = ap (slice_set book place) (same ∙ is) ∙ set-get_or book place pin

none-there : (a b : ℕ) → a ≤ b → cond (nat_lt a b) (Some a) None ≡ None → b ≡ a
none-there a b le none = grind (arith, nat_tests)

pub links-nowhere : (book : List Pin) (name : List ℕ) (links : List Change) → position (is_of name) book ≡ None → with_links book name links ≡ book
links-nowhere book name links none =
    no-pin book name links (none-there (position_or_len (is_of name) book) (length book) (prefix_len-le-length (λ p. not (is_of name p)) book) none)

pub ruleset placed_links = (links-there, links-nowhere, pin-kept)
