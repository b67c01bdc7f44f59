-- Leaves for statements: how many are needed, and when one is given.
use Rattle.std.proofs.Common.{◌≡◌, ℕ, ◌+◌, ◌<◌, ◌≤◌, ◌⊎◌, inl, inr, List, [], ◌∷◌, length, get_or, refl, sym, ap, ◌∙◌, subst, arith, Bool, true, false, cond, Option, Some, None}
use Rattle.std.specs.Prelude.{IsOk, Ok, Err, is_ok, is_some, option_and_then, slice_get}
use Rattle.std.specs.Option.{ok_or, option_map}
use Rattle.std.proofs.lemmas.Bool.{le-leb, leb-false, leb-true, ltb-true}
use Rattle.std.proofs.lemmas.List.{length-map}
use Rattle.std.proofs.lemmas.Option.{slice_get_cases}
use Rattle.ar_base.specs.Places.{place_of}
use Rattle.ar_base.proofs.Places.{stands}
use Rattle.ar_council.specs.Room.{HasRoom, has_leaves, new_count}
use Rattle.ar_council.proofs.Needs.{need-both, need-most, need-none, need-one}
use Rattle.key_roll.specs.Book.{IsRollBook, RollBook, texts_of}
use Rattle.key_roll.specs.Entry.{after_at, due_at, due_of, entered, has_room, with_text}
use Rattle.key_roll.specs.Rolls.{is_roll, plain_count}
use Rattle.ar_statement.specs.declared.fault.BookFault.TheVariants as book_fault
use Rattle.key_roll.proofs.Books.{entered-new, is_entered}
use Rattle.key_roll.specs.Due.{DueParts}
use Rattle.epoch_log.specs.Answers.{first_entered}

pub room-for : (book : RollBook) (texts : List (List ℕ)) → has_leaves book texts ≡ true → HasRoom book texts
room-for book texts is = leb-true (plain_count book.newest book.list + new_count book texts + 1) book.leaves is

-- where there is no leaf for a text, entering it gives none
pub spent : (book : RollBook) (text : List ℕ) → IsRollBook book → has_leaves book (text ∷ []) ≡ false → entered book text ≡ Err book_fault.Spent
spent book text sound few = at (place_of (texts_of book) text) refl
  where
    more : book.leaves < plain_count book.newest book.list + new_count book (text ∷ []) + 1
    more = leb-false (plain_count book.newest book.list + new_count book (text ∷ []) + 1) book.leaves few

    by : (b : Bool) → has_room book ≡ b → place_of (texts_of book) text ≡ None → ok_or (due_of (cond b (with_text book text) book) text) book_fault.Spent ≡ Err book_fault.Spent
    by true is none =
        let room = ltb-true (plain_count book.newest book.list + 1) book.leaves is in
        let one = need-most book text in
        absurd (omega (arith, room, more, one))
    by false is none = ap (λ o. ok_or (option_and_then (due_at book) o) book_fault.Spent) none

    at : (place : Option ℕ) → place_of (texts_of book) text ≡ place → ok_or (due_of (after_at book text place) text) book_fault.Spent ≡ Err book_fault.Spent
    at (Some k) is =
        let held : is_some (place_of (texts_of book) text) ≡ true = ap is_some is in
        let zero = need-none book text held in
        let least = sound.within book.newest in
        absurd (omega (arith, more, zero, least))
    at None is = by (has_room book) refl is

none-past : {X : Type 0} (xs : List X) (k : ℕ) → k < length xs → slice_get xs k ≡ None → ⊥
none-past {X} xs k lt none = by (slice_get_cases xs k).1
  where
    by : ((x : X) × (k < length xs) × (slice_get xs k ≡ Some x) × (get_or xs k x ≡ x)) ⊎ ((length xs ≤ k) × (slice_get xs k ≡ None)) → ⊥
    by (inl w) = let some = w.2 in cc
    by (inr w) = let past = w.0 in omega (arith, lt, past)

got : {A B E : Type 0} (f : A → B) (e : E) (o : Option A) → (o ≡ None → ⊥) → is_ok (ok_or (option_map f o) e) ≡ true
got f e None has = absurd (has refl)
got f e (Some x) has = refl

-- where there is a leaf for a text, entering it gives one
pub enters : (book : RollBook) (text : List ℕ) → IsRollBook book → is_roll text ≡ false → has_leaves book (text ∷ []) ≡ true → IsOk (entered book text)
enters book text sound plain left = at (place_of (texts_of book) text) refl
  where
    at : (place : Option ℕ) → place_of (texts_of book) text ≡ place → IsOk (entered book text)
    at (Some k) is =
        let there = stands (texts_of book) text k [] is in
        let within : k < length book.list = omega (arith, there.0, length-map book.list (λ s. s.text)) in
        let held : is_ok (ok_or (due_at book k) book_fault.Spent) ≡ true = got _ book_fault.Spent (slice_get book.list k) (none-past book.list k within) in
        ap (λ place. is_ok (ok_or (due_of (after_at book text place) text) book_fault.Spent)) is
        ∙ ap (λ place. is_ok (ok_or (option_and_then (due_at book) place) book_fault.Spent)) is ∙ held
    at None is =
        let one = need-one book text (ap is_some is) in
        let room : HasRoom book (text ∷ []) = room-for book (text ∷ []) left in
        subst IsOk (sym (entered-new book text sound is plain)) (is_entered book text (omega (arith, room, one)))

pub ruleset leaves_left = (room-for, enters, spent)

-- ---- two texts

-- where there are leaves for two texts there is one for the first
pub first-room : (book : RollBook) (first second : List ℕ) → HasRoom book (first ∷ (second ∷ [])) → HasRoom book (first ∷ [])
first-room book first second room = omega (arith, room, need-both book first second)

first-left : (book : RollBook) (first second : List ℕ) → has_leaves book (first ∷ (second ∷ [])) ≡ true → has_leaves book (first ∷ []) ≡ true
first-left book first second left =
    le-leb (plain_count book.newest book.list + new_count book (first ∷ []) + 1) book.leaves (first-room book first second (room-for book (first ∷ (second ∷ [])) left))

-- where there are leaves for two texts the first is entered
pub first-enters : (book : RollBook) (first second : List ℕ) → IsRollBook book → is_roll first ≡ false → has_leaves book (first ∷ (second ∷ [])) ≡ true → IsOk (first_entered book first second)
first-enters book first second sound plain left =
    subst (λ b. IsOk (cond b (entered book first) (Err book_fault.Spent))) (sym left) (enters book first sound plain (first-left book first second left))

pub first-spent : (book : RollBook) (first second : List ℕ) → has_leaves book (first ∷ (second ∷ [])) ≡ false → first_entered book first second ≡ Err book_fault.Spent
first-spent book first second few = ap (λ b. cond b (entered book first) (Err book_fault.Spent)) few

-- and its leaf is the answer
pub first-due : (book : RollBook) (first second : List ℕ) (due : DueParts) → HasRoom book (first ∷ (second ∷ [])) → entered book first ≡ Ok due → first_entered book first second ≡ Ok due
first-due book first second due room is =
    ap (λ b. cond b (entered book first) (Err book_fault.Spent)) (le-leb (plain_count book.newest book.list + new_count book (first ∷ (second ∷ [])) + 1) book.leaves room) ∙ is

pub ruleset leaves_for_two = (room-for, first-enters, first-spent)
