-- A front of an input that was answered, and one line more.
use Rattle.std.proofs.Common.{◌≡◌, ℕ, ◌+◌, ◌≤◌, List, [], ◌∷◌, ◌++◌, length, refl, sym, ap, ◌∙◌, subst, arith, append_assoc, length-append}
use Rattle.std.proofs.lemmas.List.{append-nil}
use Rattle.desk_run.specs.Answers.{AnswersFront, AnswersLines, AnswersOne, Kept}
use Rattle.desk_run.specs.Lines.{CutsAt, HasLines}

-- what comes behind an input stands behind what was left
pub has_more : (lines : List (List ℕ)) (input behind more : List ℕ) → HasLines input lines behind → HasLines (input ++ more) lines (behind ++ more)
has_more [] input behind more h = ap (λ xs. xs ++ more) h
has_more (line ∷ lines) input behind more h = (
  h.0 ++ more,
  ((ap (λ xs. xs ++ more) h.1.0.0 ∙ append_assoc line (10 ∷ h.0) more, h.1.0.1), has_more lines h.0 behind more h.1.1),
)

-- one line more
pub has_one : (lines : List (List ℕ)) (input mid line behind : List ℕ) → HasLines input lines mid → CutsAt mid line behind → HasLines input (lines ++ line ∷ []) behind
has_one [] input mid line behind h cut = (behind, ((h ∙ cut.0, cut.1), refl))
has_one (other ∷ lines) input mid line behind h cut = (h.0, (h.1.0, has_one lines h.0 mid line behind h.1.1 cut))

-- each line has a newline
pub lines_within : (lines : List (List ℕ)) (input behind : List ℕ) → HasLines input lines behind → length lines ≤ length input
lines_within [] input behind h = omega arith
lines_within (line ∷ lines) input behind h =
    let rest = lines_within lines h.0 behind h.1.1 in
    let all : length input ≡ length (line ++ 10 ∷ h.0) = ap length h.1.0.0 in
    omega (arith, rest, all, length-append line (10 ∷ h.0))

module _ {P : Type 0} (answers : P → ℕ → List ℕ → List ℕ → Kept → P → Type 0) where
  -- the answer to one line more
  pub answers_one : (lines : List (List ℕ)) (old mid new : P) (number at : ℕ) (line written first : List ℕ) (kept one : Kept) → at ≡ number + length lines
      → AnswersLines answers old number lines written kept mid → answers mid at line first one new
      → AnswersLines answers old number (lines ++ line ∷ []) (written ++ first) (kept ++ one) new
  answers_one [] old mid new number at line written first kept one is h its =
      let here : answers mid number line first one new = subst (λ n. answers mid n line first one new) (omega (arith, is)) its in
      let there : answers old number line first one new = subst (λ p. answers p number line first one new) h.1.1 here in (
        new,
        (
          first,
          (
            [],
            (
              one,
              (
                [],
                (
                  there,
                  (
                    (refl, (refl, refl)),
                    (ap (λ w. w ++ first) h.0 ∙ sym (append-nil first), ap (λ k. k ++ one) h.1.0 ∙ sym (append-nil one)),
                  ),
                ),
              ),
            ),
          ),
        ),
      )
  answers_one (other ∷ lines) old mid new number at line written first kept one is h its =
      let front = h.1.0 in
      let rest = h.1.1.0 in
      let early = h.1.1.1.0 in
      let late = h.1.1.1.1.0 in
      let that = h.1.1.1.1.1 in (
        h.0,
        (
          front,
          (
            rest ++ first,
            (
              early,
              (
                late ++ one,
                (
                  that.0,
                  (
                    answers_one lines h.0 mid new (number + 1) at line rest first late one (omega (arith, is)) that.1.0 its,
                    (ap (λ w. w ++ first) that.1.1.0 ∙ append_assoc front rest first, ap (λ k. k ++ one) that.1.1.1 ∙ append_assoc early late one),
                  ),
                ),
              ),
            ),
          ),
        ),
      )

  -- nothing was answered yet
  pub front_none : (old : P) → AnswersFront answers old [] [] [] [] old
  front_none old = record { lines = []; has = refl; answered = (refl, (refl, refl)) }

  -- more of the input came
  pub front_more : (old new : P) (input behind written more : List ℕ) (kept : Kept) → AnswersFront answers old input behind written kept new
      → AnswersFront answers old (input ++ more) (behind ++ more) written kept new
  front_more old new input behind written more kept f =
      record { lines = f.lines; has = has_more f.lines input behind more f.has; answered = f.answered }

  -- one line more was answered
  pub front_one : (old mid new : P) (input behind written taken after first : List ℕ) (kept one : Kept) (at : ℕ) (f : AnswersFront answers old input behind written kept mid)
      → at ≡ 1 + length f.lines → AnswersOne answers mid at (behind ++ taken) after first one new
      → AnswersFront answers old (input ++ taken) after (written ++ first) (kept ++ one) new
  front_one old mid new input behind written taken after first kept one at f is its = record {
    lines = f.lines ++ its.0 ∷ [];
    has = has_one f.lines (input ++ taken) (behind ++ taken) its.0 after (has_more f.lines input behind taken f.has) its.1.0;
    answered = answers_one f.lines old mid new 1 at its.0 written first kept one is f.answered its.1.1;
  }

  -- with its number
  pub numbered : (old mid new : P) (input behind written taken after first : List ℕ) (kept one : Kept) (at : ℕ) (f : AnswersFront answers old input behind written kept mid)
      → at ≡ 1 + length f.lines → AnswersOne answers mid at (behind ++ taken) after first one new
      → (g : AnswersFront answers old (input ++ taken) after (written ++ first) (kept ++ one) new) × (at + 1 ≡ 1 + length g.lines)
  unfolding front_one
  numbered old mid new input behind written taken after first kept one at f is its =
      let g = front_one old mid new input behind written taken after first kept one at f is its in
      let more : length g.lines ≡ length (f.lines ++ its.0 ∷ []) = refl in
      (g, omega (arith, is, more, length-append f.lines (its.0 ∷ [])))
