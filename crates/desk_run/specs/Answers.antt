-- What a party that is a process answers to lines, in order.
use Rattle.std.specs.Prelude.{◌≡◌, ◌⊎◌, ℕ, ◌+◌, nat_lt, if◌then◌else◌, List, [], ◌∷◌, ◌++◌, length, Option, None, Some, Ok, Err, codes}
use Rattle.std.specs.Fmt.{decimal}
use Rattle.ar_lines.specs.declared.refusal.Reason.TheVariants.{Limit}
use Rattle.desk_run.specs.Lines.{CutsAt, HasLines}
use Rattle.party_desk.specs.Asking.{Wanted}
use Rattle.party_desk.specs.Telling.{unread_line}
use Rattle.party_desk.specs.declared.unread.Cause.TheVariants.{Form}

-- the most bytes of a line that is looked at: the hex of the longest message, and room for words
abbrev pub longest_line : ℕ
longest_line = 8388700

-- what is written at first: what a reply sends, and how many texts the journal has
abbrev pub opening_text : List ℕ → ℕ → List ℕ
opening_text sent texts = sent ++ (codes "opened " ++ (decimal texts ++ codes "\n"))

-- what a reply sends, where there is one
abbrev pub sent_again : {R : Type 0} → (R → List ℕ) → Option R → List ℕ
sent_again sent_text None = []
sent_again sent_text (Some reply) = sent_text reply

-- the texts that a journal has more
abbrev pub Kept : Type 0
Kept = List (List ℕ)

-- what a line asks that is not too long
abbrev pub asked_of : {P Order : Type 0} → (P → List ℕ → Wanted Order) → P → List ℕ → Wanted Order
asked_of asked old line = if nat_lt longest_line (length line) then Err (Form Limit) else asked old line

-- what is known of a party and its lines, over any: what a line asks where it stands so, by which text it takes an order, what it
-- replies without one, how it refuses, and what is written of these
module _ {P Order Reply Refusal : Type 0}
    (asked : P → List ℕ → Wanted Order)
    (says : P → Order → List ℕ → Type 0)
    (takes : P → List ℕ → Reply → P → Type 0)
    (tells : P → Order → Reply → Type 0)
    (refuses : P → Order → Refusal → Type 0)
    (sent_text : Reply → List ℕ)
    (told_text : P → ℕ → Order → Reply → List ℕ)
    (refused_text : P → ℕ → Order → Refusal → Option (List ℕ)) where
  -- It took the order by this text, which its journal has, and this is written.
  pub record TakesOrder (old : P) (number : ℕ) (order : Order) (text : List ℕ) (written : List ℕ) (new : P) : Type 0 where
    pub reply : Reply
    pub its : says old order text
    pub taken : takes old text reply new
    pub is : written ≡ sent_text reply ++ told_text new number order reply

  -- It did the order without a change.
  pub record TellsOrder (old : P) (number : ℕ) (order : Order) (written : List ℕ) : Type 0 where
    pub reply : Reply
    pub told : tells old order reply
    pub is : written ≡ sent_text reply ++ told_text old number order reply

  -- It refused the order, and this is told of that: want of memory, of which nothing is told, is none of these refusals.
  pub record RefusesOrder (old : P) (number : ℕ) (order : Order) (written : List ℕ) : Type 0 where
    pub refusal : Refusal
    pub refused : refuses old order refusal
    pub is : refused_text old number order refusal ≡ Some written

  -- what is written of an order, what its journal has more, and where it stands then
  abbrev pub Does : P → ℕ → Order → List ℕ → Kept → P → Type 0
  Does old number order written kept new =
      ((text : List ℕ) × ((kept ≡ text ∷ []) × TakesOrder old number order text written new))
      ⊎ ((kept ≡ []) × ((new ≡ old) × (TellsOrder old number order written ⊎ RefusesOrder old number order written)))

  -- the same of what a line asks
  abbrev pub DoesAsked : P → ℕ → Wanted Order → List ℕ → Kept → P → Type 0
  DoesAsked old number (Ok None) written kept new = (written ≡ []) × ((kept ≡ []) × (new ≡ old))
  DoesAsked old number (Ok (Some order)) written kept new = Does old number order written kept new
  DoesAsked old number (Err why) written kept new = (written ≡ unread_line number why) × ((kept ≡ []) × (new ≡ old))

  -- the same of the line with this number
  abbrev pub AnswersLine : P → ℕ → List ℕ → List ℕ → Kept → P → Type 0
  AnswersLine old number line written kept new = DoesAsked old number (asked_of asked old line) written kept new

-- Lines, one behind the other, over any way to answer one: where the party stands, the number of the line, the line, what is written,
-- what the journal has more, and where it stands then.
module _ {P : Type 0} (answers : P → ℕ → List ℕ → List ℕ → Kept → P → Type 0) where
  -- it answers these lines, the first of them with this number
  abbrev pub AnswersLines : P → ℕ → List (List ℕ) → List ℕ → Kept → P → Type 0
  AnswersLines old number [] written kept new = (written ≡ []) × ((kept ≡ []) × (new ≡ old))
  AnswersLines old number (line ∷ lines) written kept new =
      (mid : P) × ((first : List ℕ) × ((rest : List ℕ) × ((one : Kept) × ((more : Kept)
      × (answers old number line first one mid × (AnswersLines mid (number + 1) lines rest more new
      × ((written ≡ first ++ rest) × (kept ≡ one ++ more))))))))

  -- It answered a front of an input: these are the lines, and this is left behind them.
  pub record AnswersFront (old : P) (input behind written : List ℕ) (kept : Kept) (new : P) : Type 0 where
    pub lines : List (List ℕ)
    pub has : HasLines input lines behind
    pub answered : AnswersLines old 1 lines written kept new

  -- it answered the line that a text begins with, and this is left behind that
  abbrev pub AnswersOne : P → ℕ → List ℕ → List ℕ → List ℕ → Kept → P → Type 0
  AnswersOne old number text behind written kept new =
      (line : List ℕ) × (CutsAt text line behind × answers old number line written kept new)

  -- it answered no line of the text, or the one that it begins with
  abbrev pub AnswersAtMostOne : P → ℕ → List ℕ → List ℕ → List ℕ → Kept → P → Type 0
  AnswersAtMostOne old number text behind written kept new =
      ((behind ≡ text) × ((written ≡ []) × ((kept ≡ []) × (new ≡ old))))
      ⊎ AnswersOne old number text behind written kept new
