-- The inputs of a log, one behind the other, and how many bytes they and their records have.
use Rattle.std.proofs.Common.{◌≡◌, ℕ, suc, ◌+◌, ◌*◌, ◌<◌, ◌≤◌, List, [], ◌∷◌, ◌++◌, length, take, drop, get_or, refl, sym, ap, ◌∙◌, arith, length-append}
use Rattle.std.proofs.Math.Seq.{drop-cons}
use Rattle.std.proofs.lemmas.List.{map-append, take-append-drop, take_more}
use Rattle.std.proofs.lemmas.List.Sums.{sum_by-append, sum_by-cons}
use Rattle.std.specs.Int.{w32}
use Rattle.ar_bytes.proofs.Passing.{length-number_text}
use Rattle.ar_bytes.specs.RoundTrip.{number_text}
use Rattle.kept_journal.specs.Appending.{staged_text}
use Rattle.kept_journal.specs.Journal.{record_text}
use Rattle.log_core.specs.State.{Input, passes, proposes, rolls, takes}
use Rattle.log_core.specs.Inputs.{input_of}
use Rattle.log_core.specs.declared.step.LogInput.{LogInput}
use Rattle.log_core.specs.declared.step.LogInput.TheVariants as inputs
use Rattle.log_journal.specs.Inputs.{input_text}
use Rattle.log_restart.specs.Inputs.{record_cost, records_cost, text_of, texts_of, total_len}

-- what a record takes, by what is written of it
pub staged_cost : (text : List ℕ) → length (staged_text text) + 1 ≡ record_cost text
staged_cost text =
    omega (arith, length-append (record_text text) (0 ∷ []), length-append (number_text w32 (length text)) text, length-number_text w32 (length text))

-- what all take, by their texts
pub records_total : (texts : List (List ℕ)) → records_cost texts ≡ total_len texts + 6 * length texts
records_total [] = refl
records_total (text ∷ texts) =
    omega (arith, sum_by-cons record_cost text texts, sum_by-cons (λ t. length t) text texts, records_total texts)

-- each text has a byte
text-some : (input : Input) → 1 ≤ length (input_text input)
text-some (takes bytes) = omega arith
text-some proposes = omega arith
text-some passes = omega arith
text-some (rolls key) = omega arith

pub few_inputs : (list : List LogInput) → length list ≤ total_len (texts_of list)
few_inputs [] = omega arith
few_inputs (input ∷ more) =
    omega (arith, sum_by-cons (λ t. length t) (text_of input) (texts_of more), text-some (input_of input), few_inputs more)

-- ---- one of some inputs

-- what is read behind the last
abbrev pub nothing : LogInput
nothing = inputs.Take (record { ref_ptr = (0, 0); now = [] })

-- the one at this place
abbrev pub input_at : List LogInput → ℕ → LogInput
input_at list i = get_or list i nothing

-- those before it, it, and those behind it
pub at_input : (list : List LogInput) (i : ℕ) → i < length list
    → texts_of list ≡ texts_of (take i list) ++ text_of (input_at list i) ∷ texts_of (drop (i + 1) list)
at_input list i within =
    let next : suc i ≡ i + 1 = omega arith in
    ap texts_of (sym (take-append-drop i list)
    ∙ ap (λ (l : List LogInput). take i list ++ l) (drop-cons list i nothing within ∙ ap (λ (n : ℕ). input_at list i ∷ drop n list) next))
    ∙ map-append text_of (take i list) (input_at list i ∷ drop (i + 1) list)

-- those up to it
pub upto_input : (list : List LogInput) (i : ℕ) → i < length list → texts_of (take (i + 1) list) ≡ texts_of (take i list) ++ text_of (input_at list i) ∷ []
upto_input list i within = ap texts_of (take_more list i nothing within) ∙ map-append text_of (take i list) (input_at list i ∷ [])

-- ---- how many bytes they have

abbrev len : List ℕ → ℕ
len text = length text

pub total_past : (list : List LogInput) (i total most : ℕ) → i < length list → total ≡ total_len (texts_of (take i list))
    → most < total + length (text_of (input_at list i)) → most < total_len (texts_of list)
total_past list i total most within so_far past =
    omega (
      arith,
      so_far,
      past,
      ap total_len (at_input list i within),
      sum_by-append len (texts_of (take i list)) (text_of (input_at list i) ∷ texts_of (drop (i + 1) list)),
      sum_by-cons len (text_of (input_at list i)) (texts_of (drop (i + 1) list)),
    )
