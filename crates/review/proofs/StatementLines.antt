-- Lines of statements, one after another.
use Rattle.std.proofs.Common.{◌≡◌, ℕ, if◌then◌else◌, ◌+◌, ◌-◌, ◌<◌, ◌≤◌, Bool, true, false, List, [], ◌∷◌, ◌++◌, Ok, refl, sym, ap, ◌∙◌, subst, codes, add-one, arith}
use Rattle.std.specs.Prelude.{All}
use Rattle.std.specs.Str.{bytes_eq}
use Rattle.std.proofs.lemmas.Bool.{and_parts, leb-true}
use Rattle.std.proofs.lemmas.List.Elements.{All-push, All-weaker}
use Rattle.std.proofs.lemmas.List.Quantifiers.{all_pairs_push}
use Rattle.ar_base.proofs.Shown.{bind_ok, ok_is}
use Rattle.ar_base.specs.Chaining.{◌>>=◌}
use Rattle.ar_base.specs.Ranges.{is_from_to}
use Rattle.ar_lines.specs.Forms.{bytes_of_hex}
use Rattle.ar_lines.specs.Lines.{is_text, words_of}
use Rattle.ar_lines.specs.Readings.{LineCursor, LineReading, WordAt, line_at, next_of, spelled}
use Rattle.ar_lines.specs.Refusals.{refused}
use Rattle.ar_lines.specs.Rows.{NamedLine, both_of, row_at, row_of, two_fields_at}
use Rattle.ar_lines.specs.declared.refusal.LineFault.{LineFault}
use Rattle.ar_lines.specs.declared.refusal.Reason.TheVariants.{Limit, Text, Word}
use Rattle.ar_lines.specs.declared.refusal.Refusal.{Refusal}
use Rattle.ar_lines.proofs.Faults.{GivesUp, gives_up-chained}
use Rattle.monitor.specs.declared.item.Item.{Item}
use Rattle.monitor.specs.Items.{AscendByLine}
use Rattle.review.specs.Audits.{is_over, line_in, no_more_at, statement_at, statements_at}

-- ---- how many

statements-none : (most : ℕ) (items : List Item) (at : LineCursor) → most ≡ 0 → statements_at most items at ≡ (no_more_at at >>= λ end. Ok (items, end.1))
unfolding statements_at
statements-none most items at e = rw e refl

statements-end : (most more : ℕ) (items : List Item) (at : LineCursor) → most ≡ more + 1 → is_over at ≡ true → statements_at most items at ≡ Ok (items, at)
unfolding statements_at
statements-end most more items at e over = rw (e, add-one, over) refl

statements-more : (most more : ℕ) (items : List Item) (at : LineCursor) → most ≡ more + 1 → is_over at ≡ false
    → statements_at most items at ≡ (statement_at at >>= λ next. statements_at more (items ++ next.0 ∷ []) next.1)
unfolding statements_at
statements-more most more items at e left = rw (e, add-one, left) refl

-- the loop's next line
pub statement_more : (most i : ℕ) (items : List Item) (next : Item) (at new : LineCursor) (all : LineReading (List Item)) → i < most → is_over at ≡ false
    → statement_at at ≡ Ok (next, new) → statements_at (most - i) items at ≡ all → statements_at (most - (i + 1)) (items ++ next ∷ []) new ≡ all
statement_more most i items next at new all lt left read so_far =
    let step = statements-more (most - i) (most - (i + 1)) items at (omega arith) left in
    let here : statements_at (most - i) items at ≡ statements_at (most - (i + 1)) (items ++ next ∷ []) new = step ∙ rw read refl in
    sym here ∙ so_far

-- a line that is refused, or finds no memory
pub statement_gives_up : (most i : ℕ) (items : List Item) (at : LineCursor) (fault : LineFault) (all : LineReading (List Item)) → i < most → is_over at ≡ false
    → GivesUp fault (statement_at at) → statements_at (most - i) items at ≡ all → GivesUp fault all
statement_gives_up most i items at fault all lt left fails so_far =
    let step = statements-more (most - i) (most - (i + 1)) items at (omega arith) left in
    let same : all ≡ (statement_at at >>= λ next. statements_at (most - (i + 1)) (items ++ next.0 ∷ []) next.1) = sym so_far ∙ step in
    rw same (gives_up-chained (statement_at at) _ fault fails)

-- no line is left
pub no_statement : (most i : ℕ) (items : List Item) (at : LineCursor) (all : LineReading (List Item)) → i < most → is_over at ≡ true
    → statements_at (most - i) items at ≡ all → all ≡ Ok (items, at)
no_statement most i items at all lt over so_far = sym so_far ∙ statements-end (most - i) (most - (i + 1)) items at (omega arith) over

-- behind as many as there may be
pub statements_all : (most i : ℕ) (items : List Item) (at : LineCursor) (all : LineReading (List Item)) → most ≤ i
    → statements_at (most - i) items at ≡ all → all ≡ (no_more_at at >>= λ end. Ok (items, end.1))
statements_all most i items at all le so_far = sym so_far ∙ statements-none (most - i) items at (omega arith)

-- ---- their lines

line-is : (next : ℕ) (ahead : List (List ℕ)) (x : WordAt × LineCursor) → next_of next ahead ≡ Ok x → (x.0.line ≡ next) × (x.1.next ≡ next + 1)
line-is next [] x e = absurd cc
line-is next (line ∷ ahead) x e =
    let same = ok_is {A = WordAt × LineCursor} {E = Refusal} (record { line = next; number = 0; text = line }, record { next = next + 1; ahead = ahead }) x e in
    (ap (λ (y : WordAt × LineCursor). y.0.line) (sym same), ap (λ (y : WordAt × LineCursor). y.1.next) (sym same))

row-of-is : (name : List ℕ) (line : ℕ) (words : List (List ℕ)) (row : NamedLine) → row_of name line words ≡ Ok row → row.line ≡ line
row-of-is name line [] row e = absurd cc
row-of-is name line (word ∷ fields) row e = by (bytes_eq word name) e
  where
    by : (b : Bool) → (if b then Ok (record { line = line; fields = fields }) else refused line Word) ≡ Ok row → row.line ≡ line
    by true is = ap (λ (r : NamedLine). r.line) (sym (ok_is {A = NamedLine} {E = Refusal} (record { line = line; fields = fields }) row is))
    by false is = absurd cc

both-is : (line : ℕ) (fields : List (List ℕ)) (x : WordAt × WordAt) → both_of line fields ≡ Ok x → x.0.line ≡ line
both-is line [] x e = absurd cc
both-is line (first ∷ []) x e = absurd cc
both-is line (first ∷ second ∷ []) x e =
    ap (λ (y : WordAt × WordAt). y.0.line)
    (sym (ok_is {A = WordAt × WordAt} {E = Refusal} (record { line = line; number = 1; text = first }, record { line = line; number = 2; text = second }) x e))
both-is line (first ∷ second ∷ next ∷ more) x e = absurd cc

row-is : (name : List ℕ) (at : LineCursor) (x : NamedLine × LineCursor) → row_at name at ≡ Ok x → (x.0.line ≡ at.next) × (x.1.next ≡ at.next + 1)
unfolding row_at line_at
row-is name at x e =
    let first = bind_ok (next_of at.next at.ahead) _ x e in
    let line = line-is at.next at.ahead first.0 first.1 in
    let second = bind_ok (if is_text first.0.0.text then row_of name first.0.0.line (words_of first.0.0.text) else refused first.0.0.line Text) _ x first.2 in
    let row : second.0.line ≡ first.0.0.line = by (is_text first.0.0.text) first.0.0.line (words_of first.0.0.text) second.0 second.1 in
    let same = ok_is {A = NamedLine × LineCursor} {E = Refusal} (second.0, first.0.1) x second.2 in
    (ap (λ (y : NamedLine × LineCursor). y.0.line) (sym same) ∙ row ∙ line.0, ap (λ (y : NamedLine × LineCursor). y.1.next) (sym same) ∙ line.1)
  where
    by : (b : Bool) (n : ℕ) (words : List (List ℕ)) (row : NamedLine) → (if b then row_of name n words else refused n Text) ≡ Ok row → row.line ≡ n
    by true n words row is = row-of-is name n words row is
    by false n words row is = absurd cc

two-fields-is : (name : List ℕ) (at : LineCursor) (x : (WordAt × WordAt) × LineCursor) → two_fields_at name at ≡ Ok x → (x.0.0.line ≡ at.next) × (x.1.next ≡ at.next + 1)
unfolding two_fields_at
two-fields-is name at x e =
    let first = bind_ok (row_at name at) _ x e in
    let row = row-is name at first.0 first.1 in
    let second = bind_ok (both_of first.0.0.line first.0.0.fields) _ x first.2 in
    let fields = both-is first.0.0.line first.0.0.fields second.0 second.1 in
    let same = ok_is {A = (WordAt × WordAt) × LineCursor} {E = Refusal} (second.0, first.0.1) x second.2 in
    (ap (λ (y : (WordAt × WordAt) × LineCursor). y.0.0.line) (sym same) ∙ fields ∙ row.0, ap (λ (y : (WordAt × WordAt) × LineCursor). y.1.next) (sym same) ∙ row.1)

number-is : (line number : ℕ) → line_in line ≡ Ok number → (number ≡ line) × (1 ≤ number)
number-is line number e = by (is_from_to 1 4294967295 line) refl e
  where
    by : (b : Bool) → is_from_to 1 4294967295 line ≡ b → (if b then Ok line else refused line Limit) ≡ Ok number → (number ≡ line) × (1 ≤ number)
    by true is r =
        let same : line ≡ number = ok_is {E = Refusal} line number r in
        let least : 1 ≤ line = leb-true 1 line (and_parts _ _ is).0 in
        (sym same, subst (λ n. 1 ≤ n) same least)
    by false is r = absurd cc

-- an item has the number of its line, and the reader stands behind this line then
pub statement-is : (at : LineCursor) (x : Item × LineCursor) → statement_at at ≡ Ok x → (x.0.line ≡ at.next) × (x.1.next ≡ at.next + 1) × (1 ≤ x.0.line)
unfolding statement_at
statement-is at x e =
    let fields = bind_ok (two_fields_at (codes "statement") at) _ x e in
    let is = two-fields-is (codes "statement") at fields.0 fields.1 in
    let text = bind_ok (spelled fields.0.0.0 (bytes_of_hex fields.0.0.0.text)) _ x fields.2 in
    let signature = bind_ok (spelled fields.0.0.1 (bytes_of_hex fields.0.0.1.text)) _ x text.2 in
    let number = bind_ok (line_in fields.0.0.0.line) _ x signature.2 in
    let of-line = number-is fields.0.0.0.line number.0 number.1 in
    let same = ok_is {A = Item × LineCursor} {E = Refusal} (record { line = number.0; text = text.0; signature = signature.0 }, fields.0.1) x number.2 in
    let line : x.0.line ≡ number.0 = ap (λ (y : Item × LineCursor). y.0.line) (sym same) in
    (line ∙ of-line.0 ∙ is.0, ap (λ (y : Item × LineCursor). y.1.next) (sym same) ∙ is.1, subst (λ n. 1 ≤ n) (sym line) of-line.1)

-- ---- that they ascend

-- the lines of items ascend, and are those in front of the reader
pub record Before (items : List Item) (next : ℕ) : Type 0 where
  pub ascend : AscendByLine items
  pub below : All (λ i. i.line < next) items

pub none-before : (next : ℕ) → Before [] next
none-before next = record {
  ascend = record { least = λ k d within. absurd (omega (arith, within)); in_order = λ j k d less within. absurd (omega (arith, within)) };
  below = λ k d within. absurd (omega (arith, within));
}

pub one-before : (items : List Item) (at new : LineCursor) (next : Item) → Before items at.next → statement_at at ≡ Ok (next, new) → Before (items ++ next ∷ []) new.next
one-before items at new next before read =
    let is = statement-is at (next, new) read in
    let later : All (λ i. i.line < new.next) items =
    All-weaker (λ (i : Item). i.line < at.next) (λ (i : Item). i.line < new.next) (λ i less. omega (arith, less, is.1)) items before.below in
    let in-front : All (λ i. i.line < next.line) items =
    All-weaker (λ (i : Item). i.line < at.next) (λ (i : Item). i.line < next.line) (λ i less. omega (arith, less, is.0)) items before.below in
    record {
      ascend = record {
        least = All-push (λ (i : Item). 1 ≤ i.line) items next before.ascend.least is.2;
        in_order = all_pairs_push (λ (i j : Item). i.line < j.line) items next before.ascend.in_order in-front;
      };
      below = All-push (λ (i : Item). i.line < new.next) items next later (omega (arith, is.0, is.1));
    }

pub ruleset statement_lines = (statement_more, statement_gives_up, no_statement, statements_all, none-before)
