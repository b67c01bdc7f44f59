-- What a book holds after a text was entered, or a Roll.
use Rattle.std.proofs.Common.{◌≡◌, ℕ, ◌+◌, ◌<◌, ◌≤◌, List, [], ◌∷◌, ◌++◌, refl, sym, ap, ◌∙◌, subst, arith, Bool, true, false, cond, not, Option, Some, None}
use Rattle.std.specs.Prelude.{All, Contains, count_by, is_some}
use Rattle.std.proofs.lemmas.Bool.{lt-ltb}
use Rattle.std.proofs.lemmas.List.{map-append}
use Rattle.std.proofs.lemmas.List.Elements.{All-nil, All-push, Contains-append_left, Contains-push}
use Rattle.std.proofs.lemmas.List.Sums.{sum_by-append}
use Rattle.ar_base.specs.Places.{place_of}
use Rattle.ar_base.proofs.Places.{contained, has-place}
use Rattle.key_roll.specs.Book.{IsRollBook, RollBook, empty_book, texts_of}
use Rattle.key_roll.specs.Entry.{after_at, after_entry, has_room, with_roll, with_text}
use Rattle.key_roll.specs.Rolls.{is_plain_of, plain_count}
use Rattle.key_roll.specs.declared.signed.SignedText.{SignedText}
use Rattle.ar_council.specs.Room.{HasRoom}
use Rattle.ar_council.proofs.Lists.{Within}
use Rattle.ar_council.proofs.Needs.{count-one}

with-texts : (book : RollBook) (text : List ℕ) → texts_of (with_text book text) ≡ texts_of book ++ text ∷ []
with-texts book text = map-append (λ (s : SignedText). s.text) book.list (record { generation = book.newest; text = text } ∷ [])

-- what was there stays
pub entry-keeps : (book : RollBook) (text : List ℕ) → Within (texts_of book) (texts_of (after_entry book text))
entry-keeps book text x there = at (place_of (texts_of book) text)
  where
    by : (b : Bool) → Contains (texts_of (cond b (with_text book text) book)) x
    by true = subst (λ l. Contains l x) (sym (with-texts book text)) (Contains-append_left (texts_of book) (text ∷ []) x there)
    by false = there

    at : (place : Option ℕ) → Contains (texts_of (after_at book text place)) x
    at (Some k) = there
    at None = by (has_room book)

-- nothing else than the text is new
pub entry-all : (P : List ℕ → Type 0) (book : RollBook) (text : List ℕ) → All P (texts_of book) → P text → All P (texts_of (after_entry book text))
entry-all P book text all here = at (place_of (texts_of book) text)
  where
    by : (b : Bool) → All P (texts_of (cond b (with_text book text) book))
    by true = subst (All P) (sym (with-texts book text)) (All-push P (texts_of book) text all here)
    by false = all

    at : (place : Option ℕ) → All P (texts_of (after_at book text place))
    at (Some k) = all
    at None = by (has_room book)

-- where there is room for it the text is there
pub entry-has : (book : RollBook) (text : List ℕ) → HasRoom book (text ∷ []) → Contains (texts_of (after_entry book text)) text
entry-has book text room = at (place_of (texts_of book) text) refl
  where
    by : (b : Bool) → has_room book ≡ b → place_of (texts_of book) text ≡ None → Contains (texts_of (cond b (with_text book text) book)) text
    by true is none = subst (λ l. Contains l text) (sym (with-texts book text)) (Contains-push (texts_of book) text)
    by false is none =
        let one : count_by (λ t. not (is_some (place_of (texts_of book) t))) (text ∷ []) ≡ 1 =
        count-one (λ t. not (is_some (place_of (texts_of book) t))) text ∙ ap (λ o. cond (not (is_some o)) 1 0) none in
        let free : has_room book ≡ true = lt-ltb (plain_count book.newest book.list + 1) book.leaves (omega (arith, room, one)) in
        absurd cc

    at : (place : Option ℕ) → place_of (texts_of book) text ≡ place → Contains (texts_of (after_at book text place)) text
    at (Some k) is = contained (texts_of book) text k is
    at None is = by (has_room book) refl is

-- ---- Rolls

roll-texts : (book : RollBook) (text : List ℕ) → texts_of (with_roll book text) ≡ texts_of book ++ text ∷ []
roll-texts book text = map-append (λ (s : SignedText). s.text) book.list (record { generation = book.newest; text = text } ∷ [])

pub roll-keeps : (book : RollBook) (text : List ℕ) → Within (texts_of book) (texts_of (with_roll book text))
roll-keeps book text x there = subst (λ l. Contains l x) (sym (roll-texts book text)) (Contains-append_left (texts_of book) (text ∷ []) x there)

pub roll-all : (P : List ℕ → Type 0) (book : RollBook) (text : List ℕ) → All P (texts_of book) → P text → All P (texts_of (with_roll book text))
roll-all P book text all here = subst (All P) (sym (roll-texts book text)) (All-push P (texts_of book) text all here)

-- ---- two texts

count-two : (p : List ℕ → Bool) (one other : List ℕ) → count_by p (one ∷ (other ∷ [])) ≡ cond (p one) 1 0 + cond (p other) 1 0
count-two p one other = omega arith

-- one if a text is new to a book
new : RollBook → List ℕ → ℕ
new book text = cond (not (is_some (place_of (texts_of book) text))) 1 0

one-at-most : (b : Bool) → cond b 1 0 ≤ 1
one-at-most true = omega arith
one-at-most false = omega arith

-- a text that is new to a book that holds more is new
new-less : (book later : RollBook) (text : List ℕ) → Within (texts_of book) (texts_of later) → new later text ≤ new book text
unfolding new
new-less book later text within = by (is_some (place_of (texts_of book) text)) refl
  where
    by : (b : Bool) → is_some (place_of (texts_of book) text) ≡ b → cond (not (is_some (place_of (texts_of later) text))) 1 0 ≤ cond (not b) 1 0
    by false is = one-at-most (not (is_some (place_of (texts_of later) text)))
    by true is =
        let there : Contains (texts_of book) text = (has-place (texts_of book) text (is_some (place_of (texts_of book) text)) refl).0 is in
        let later-there : is_some (place_of (texts_of later) text) ≡ true = (has-place (texts_of later) text (is_some (place_of (texts_of later) text)) refl).1 (within text there) in
        let zero : ◌≡◌ {A = ℕ} (cond (not (is_some (place_of (texts_of later) text))) 1 0) 0 = ap (λ b. cond {A = ℕ} (not b) 1 0) later-there in
        omega (arith, zero)

room-one : (book : RollBook) (text : List ℕ) → plain_count book.newest book.list + new book text + 1 ≤ book.leaves → HasRoom book (text ∷ [])
unfolding new
room-one book text less = omega (arith, less, count-one (λ t. not (is_some (place_of (texts_of book) t))) text)

room-two : (book : RollBook) (first second : List ℕ) → HasRoom book (first ∷ (second ∷ [])) → plain_count book.newest book.list + (new book first + new book second) + 1 ≤ book.leaves
unfolding new
room-two book first second room = omega (arith, room, count-two (λ t. not (is_some (place_of (texts_of book) t))) first second)

new-none : (book : RollBook) (text : List ℕ) → place_of (texts_of book) text ≡ None → new book text ≡ 1
unfolding new
new-none book text none = ap (λ o. cond (not (is_some o)) 1 0) none

-- where there is room for two texts there is room for the second after the first
pub second-room : (book : RollBook) (first second : List ℕ) → HasRoom book (first ∷ (second ∷ [])) → HasRoom (after_entry book first) (second ∷ [])
second-room book first second room = at (place_of (texts_of book) first) refl
  where
    two : plain_count book.newest book.list + (new book first + new book second) + 1 ≤ book.leaves
    two = room-two book first second room

    by : (b : Bool) → has_room book ≡ b → place_of (texts_of book) first ≡ None → HasRoom (cond b (with_text book first) book) (second ∷ [])
    by true is none =
        let s : SignedText = record { generation = book.newest; text = first } in
        let sum = sum_by-append (λ (x : SignedText). cond (is_plain_of book.newest x) 1 0) book.list (s ∷ []) in
        let most = one-at-most (is_plain_of book.newest s) in
        let keeps : Within (texts_of book) (texts_of (with_text book first)) =
        λ x there. subst (λ l. Contains l x) (sym (with-texts book first)) (Contains-append_left (texts_of book) (first ∷ []) x there) in
        let less = new-less book (with_text book first) second keeps in
        let one = new-none book first none in
        room-one (with_text book first) second (omega (arith, two, sum, most, less, one))
    by false is none = room-one book second (omega (arith, two))

    at : (place : Option ℕ) → place_of (texts_of book) first ≡ place → HasRoom (after_at book first place) (second ∷ [])
    at (Some k) is = room-one book second (omega (arith, two))
    at None is = by (has_room book) refl is

-- a book that holds nothing
pub empty-book : (leaves : ℕ) → 0 < leaves → IsRollBook (empty_book leaves)
empty-book leaves some = record {
  once = λ i j d before within. absurd (omega (arith, within));
  upto = All-nil (λ (s : SignedText). s.generation ≤ 0);
  within = λ g. omega (arith, some);
  rolled = λ g less. absurd (omega (arith, less));
  unrolled = λ g more. refl;
  named = λ k d within. absurd (omega (arith, within));
  last = omega arith;
}
