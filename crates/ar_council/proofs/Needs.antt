-- How many leaves statements need.
use Rattle.std.proofs.Common.{◌≡◌, ℕ, ◌+◌, ◌≤◌, List, [], ◌∷◌, refl, ap, ◌∙◌, arith, Bool, true, false, cond, not}
use Rattle.std.specs.Prelude.{count_by, is_some}
use Rattle.ar_base.specs.Places.{place_of}
use Rattle.ar_council.specs.Room.{new_count}
use Rattle.key_roll.specs.Book.{RollBook, texts_of}

pub count-one : (p : List ℕ → Bool) (text : List ℕ) → count_by p (text ∷ []) ≡ cond (p text) 1 0
count-one p text = omega arith

-- a text that the book holds needs no leaf, and another needs one
pub need-none : (book : RollBook) (text : List ℕ) → is_some (place_of (texts_of book) text) ≡ true → new_count book (text ∷ []) ≡ 0
need-none book text is = count-one (λ t. not (is_some (place_of (texts_of book) t))) text ∙ ap (λ b. cond (not b) 1 0) is

pub need-one : (book : RollBook) (text : List ℕ) → is_some (place_of (texts_of book) text) ≡ false → new_count book (text ∷ []) ≡ 1
need-one book text is = count-one (λ t. not (is_some (place_of (texts_of book) t))) text ∙ ap (λ b. cond (not b) 1 0) is

pub need-most : (book : RollBook) (text : List ℕ) → new_count book (text ∷ []) ≤ 1
need-most book text = by (is_some (place_of (texts_of book) text)) refl
  where
    by : (b : Bool) → is_some (place_of (texts_of book) text) ≡ b → new_count book (text ∷ []) ≤ 1
    by true is = omega (arith, need-none book text is)
    by false is = omega (arith, need-one book text is)

-- two texts need as many leaves as the one and the other
pub need-both : (book : RollBook) (first second : List ℕ) → new_count book (first ∷ (second ∷ [])) ≡ new_count book (first ∷ []) + new_count book (second ∷ [])
need-both book first second = omega (arith, count-one (λ t. not (is_some (place_of (texts_of book) t))) first, count-one (λ t. not (is_some (place_of (texts_of book) t))) second)

pub ruleset two_needs = (need-both)
