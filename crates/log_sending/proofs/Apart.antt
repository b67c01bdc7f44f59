-- No two signatures of the log's own have a byte in common: the places of a draft lie one behind the other.
use Rattle.std.proofs.Common.{◌≡◌, ℕ, ◌+◌, ◌-◌, ◌≤◌, inl, inr, List, [], ◌∷◌, ◌++◌, length, refl, subst, arith, Bool, true, false, Option, Some, None}
use Rattle.std.specs.Prelude.{AllPairs, flat_map}
use Rattle.std.specs.List.{AllByRecursion}
use Rattle.std.proofs.lemmas.List.{length-append}
use Rattle.std.proofs.lemmas.List.Elements.{All-from_recursion}
use Rattle.std.proofs.lemmas.List.Kept.{AllPairs-cons}
use Rattle.ar_base.proofs.Lists.{both-lists}
use Rattle.key_roll.specs.Book.{RollBook}
use Rattle.key_roll.specs.Due.{DueParts}
use Rattle.key_roll.specs.Entry.{due_of}
use Rattle.ar_message.specs.declared.unsigned.Blank.{Blank}
use Rattle.ar_message.specs.declared.unsigned.Unsigned.{Unsigned}
use Rattle.log_sending.specs.Blanks.{IsDraft, LieBetween, LiesBefore}
use Rattle.log_sending.specs.Sending.{DraftMessage, SigningPlace, blanks_by, blanks_from, if_own, own_places, place_for}
use Rattle.log_sending.proofs.Blanks.{IsComposed}

-- ---- places

pub lie-later : (len from later upto : ℕ) (places : List SigningPlace) → from ≤ later → LieBetween len later upto places → LieBetween len from upto places
lie-later len from later upto [] less lie =
    let last : later ≤ upto = lie in
    omega (arith, less, last)
lie-later len from later upto (place ∷ places) less lie =
    let first : later ≤ place.at = lie.0 in
    (omega (arith, less, first), lie.1)

pub lie-both : (len from mid upto : ℕ) (one other : List SigningPlace) → LieBetween len from mid one → LieBetween len mid upto other → LieBetween len from upto (one ++ other)
lie-both len from mid upto [] other before behind = lie-later len from mid upto other before behind
lie-both len from mid upto (place ∷ one) other before behind = (before.0, lie-both len (place.at + len) mid upto one other before.1 behind)

-- one place in so many bytes at whose end it stands
pub lie-one : (len from upto at : ℕ) (text : List ℕ) → from ≤ at → at + len ≤ upto → LieBetween len from upto (place_for at text ∷ [])
lie-one len from upto at text first last = (first, last)

-- an entry in front of others
lie-entry : (own : Bool) (len at many upto : ℕ) (text : List ℕ) (places : List SigningPlace) → (own ≡ true → len ≤ many) → LieBetween len (at + many) upto places
    → LieBetween len at upto (if_own own (place_for (at + many - len) text) ++ places)
lie-entry true len at many upto text places fits lie =
    let less : len ≤ many = fits refl in
    let end : at + many ≡ (at + many - len) + len = omega (arith, less) in
    (omega (arith, less), subst (λ from. LieBetween len from upto places) end lie)
lie-entry false len at many upto text places fits lie = lie-later len at (at + many) upto places (omega arith) lie

pub own-lie : {A : Type 0} (is_own : A → Bool) (entry : A → List ℕ) (len : ℕ) (text : List ℕ) → ((x : A) → is_own x ≡ true → len ≤ length (entry x)) → (xs : List A) (at : ℕ)
    → LieBetween len at (at + length (flat_map entry xs)) (own_places is_own (λ x. length (entry x)) len text at xs)
own-lie is_own entry len text fits [] at = omega arith
own-lie is_own entry len text fits (x ∷ xs) at =
    let many : ℕ = length (entry x) in
    let both : length (entry x ++ flat_map entry xs) ≡ many + length (flat_map entry xs) = length-append (entry x) (flat_map entry xs) in
    let end : (at + many) + length (flat_map entry xs) ≡ at + length (entry x ++ flat_map entry xs) = omega (arith, both) in
    lie-entry (is_own x) len at many (at + length (entry x ++ flat_map entry xs)) text (own_places is_own (λ y. length (entry y)) len text (at + many) xs) (fits x)
    (subst (λ upto. LieBetween len (at + many) upto (own_places is_own (λ y. length (entry y)) len text (at + many) xs)) end (own-lie is_own entry len text fits xs (at + many)))

-- ---- pairs of a list

-- what holds of each holds so of each
weaker : {X : Type 0} (P Q : X → Type 0) → ((x : X) → P x → Q x) → (xs : List X) → AllByRecursion P xs → AllByRecursion Q xs
weaker P Q on [] all = tt
weaker P Q on (x ∷ xs) all = (on x all.0, weaker P Q on xs all.1)

-- it holds of each element and each later one
abbrev Pairs : {X : Type 0} → (X → X → Type 0) → List X → Type 0
Pairs R [] = Unit {0}
Pairs R (x ∷ xs) = AllByRecursion (R x) xs × Pairs R xs

pairs-both : {X : Type 0} (R : X → X → Type 0) (xs ys : List X) → Pairs R xs → Pairs R ys → AllByRecursion (λ x. AllByRecursion (R x) ys) xs → Pairs R (xs ++ ys)
pairs-both R [] ys one other across = other
pairs-both R (x ∷ xs) ys one other across = (both-lists (R x) xs ys one.0 across.0, pairs-both R xs ys one.1 other across.1)

all-pairs : {X : Type 0} (R : X → X → Type 0) (xs : List X) → Pairs R xs → AllPairs R xs
all-pairs R [] pairs = λ i j d less within. absurd (omega (arith, within))
all-pairs R (x ∷ xs) pairs = AllPairs-cons R x xs (All-from_recursion (R x) xs pairs.0) (all-pairs R xs pairs.1)

-- ---- blanks

-- a blank of this message, at this place or behind it
abbrev IsOf : ℕ → ℕ → Blank → Type 0
IsOf number from blank = (blank.message ≡ number) × (from ≤ blank.at)

module _ (len : ℕ) (book : RollBook) where
  -- the blanks of places of a message
  abbrev blanks-at : ℕ → List SigningPlace → List Blank
  blanks-at number own = flat_map (λ place. blanks_by (due_of book place.text) number place) own

  each-of : (number from upto : ℕ) (own : List SigningPlace) → LieBetween len from upto own → AllByRecursion (IsOf number from) (blanks-at number own)
  each-of number from upto [] lie = tt
  each-of number from upto (place ∷ own) lie =
      let first : from ≤ place.at = lie.0 in
      both-lists (IsOf number from) (blanks_by (due_of book place.text) number place) (blanks-at number own) (one first (due_of book place.text))
      (each-of number from upto own (lie-later len from (place.at + len) upto own (omega (arith, first)) lie.1))
    where
      one : from ≤ place.at → (o : Option DueParts) → AllByRecursion (IsOf number from) (blanks_by o number place)
      one first None = tt
      one first (Some due) = ((refl, first), tt)

  place-pairs : (number from upto : ℕ) (own : List SigningPlace) → LieBetween len from upto own → Pairs (LiesBefore len) (blanks-at number own)
  place-pairs number from upto [] lie = tt
  place-pairs number from upto (place ∷ own) lie =
      by (due_of book place.text) (each-of number (place.at + len) upto own lie.1) (place-pairs number (place.at + len) upto own lie.1)
    where
      by : (o : Option DueParts) → AllByRecursion (IsOf number (place.at + len)) (blanks-at number own) → Pairs (LiesBefore len) (blanks-at number own)
          → Pairs (LiesBefore len) (blanks_by o number place ++ blanks-at number own)
      by None each pairs = pairs
      by (Some due) each pairs =
          (weaker (IsOf number (place.at + len)) (LiesBefore len (record { message = number; at = place.at; due = due })) (λ b is. inr is.1) (blanks-at number own) each, pairs)

  each-later : (number : ℕ) (drafts : List DraftMessage) → AllByRecursion (IsDraft len) drafts → AllByRecursion (λ (b : Blank). number ≤ b.message) (blanks_from book number drafts)
  each-later number [] each = tt
  each-later number (draft ∷ drafts) each =
      both-lists (λ (b : Blank). number ≤ b.message) (blanks-at number draft.own) (blanks_from book (number + 1) drafts)
      (weaker (IsOf number 0) (λ (b : Blank). number ≤ b.message) (λ b is. let here : b.message ≡ number = is.0 in omega (arith, here)) (blanks-at number draft.own)
      (each-of number 0 _ draft.own each.0.behind))
      (weaker (λ (b : Blank). number + 1 ≤ b.message) (λ (b : Blank). number ≤ b.message) (λ b later. omega (arith, later)) (blanks_from book (number + 1) drafts)
      (each-later (number + 1) drafts each.1))

  blank-pairs : (number : ℕ) (drafts : List DraftMessage) → AllByRecursion (IsDraft len) drafts → Pairs (LiesBefore len) (blanks_from book number drafts)
  blank-pairs number [] each = tt
  blank-pairs number (draft ∷ drafts) each =
      let later = each-later (number + 1) drafts each.1 in
      pairs-both (LiesBefore len) (blanks-at number draft.own) (blanks_from book (number + 1) drafts)
      (place-pairs number 0 _ draft.own each.0.behind) (blank-pairs (number + 1) drafts each.1)
      (weaker (IsOf number 0) (λ b. AllByRecursion (LiesBefore len b) (blanks_from book (number + 1) drafts))
      (λ b is.
      let here : b.message ≡ number = is.0 in
      weaker (λ (c : Blank). number + 1 ≤ c.message) (LiesBefore len b) (λ c behind. inl (λ same. omega (arith, here, behind, same))) (blanks_from book (number + 1) drafts) later)
      (blanks-at number draft.own) (each-of number 0 _ draft.own each.0.behind))

pub composed-apart : (book : RollBook) (len : ℕ) (unsigned : Unsigned) → IsComposed book len unsigned → AllPairs (LiesBefore len) unsigned.blanks
composed-apart book len unsigned made =
    subst (λ (u : Unsigned). AllPairs (LiesBefore len) u.blanks) made.is
    (all-pairs (LiesBefore len) (blanks_from book 0 made.drafts) (blank-pairs len book 0 made.drafts made.each))
