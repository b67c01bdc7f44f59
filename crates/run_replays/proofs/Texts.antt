-- Inputs and their texts are replayed alike.
use Rattle.std.proofs.Common.{◌≡◌, ◌∙◌, List, [], ◌∷◌, All, sym, subst}
use Rattle.std.specs.Prelude.{map}
use Rattle.std.specs.List.{AllByRecursion}
use Rattle.std.proofs.lemmas.List.Elements.{All-from_recursion, recursion_from_All}
use Rattle.std.proofs.lemmas.Option.{same_Some}
use Rattle.run_safety.specs.ar_nodes.Pool.{Pooled}
use Rattle.run_safety.specs.ar_nodes.declared.event.LogEvent.{LogEvent}
use Rattle.run_safety.specs.ar_nodes.declared.event.LogEvent.TheVariants as events
use Rattle.kept_journal.specs.Replays.{ReachesBy}
use Rattle.key_roll.specs.Ring.{next_key}
use Rattle.lms_tree.specs.KeyParts.{KeyParts}
use Rattle.run_safety.specs.log_core.State.{Input}
use Rattle.log_journal.proofs.Spelled.{says_it}
use Rattle.log_journal.specs.Inputs.{IsWhole, input_text}
use Rattle.log_journal.specs.Steps.{LogStanding, TakesInput, takes}
use Rattle.run_replays.specs.Inputs.{input_of_event, inputs_from, newest_behind}
use Rattle.run_replays.specs.Replayed.{Becomes}
use Rattle.run_safety.proofs.Rings.{public-widths}

-- what the text of an input makes the input makes
pub step-of-text : (old new : LogStanding) (input : Input) → IsWhole input → takes old (input_text input) new → TakesInput old input new
step-of-text old new input whole t =
    let same : t.input ≡ input = same_Some t.input input (sym t.says ∙ says_it input whole) in
    subst (λ (i : Input). TakesInput old i new) same t.steps

texts-by : (first last : LogStanding) (inputs : List Input) → AllByRecursion IsWhole inputs → Becomes first inputs last → ReachesBy takes first (map input_text inputs) last
texts-by first last [] whole becomes = becomes
texts-by first last (input ∷ inputs) whole becomes = (
  becomes.0,
  record { input = input; says = says_it input whole.0; steps = becomes.1 },
  texts-by becomes.0 last inputs whole.1 becomes.2,
)

inputs-by : (first last : LogStanding) (inputs : List Input) → AllByRecursion IsWhole inputs → ReachesBy takes first (map input_text inputs) last → Becomes first inputs last
inputs-by first last [] whole replays = replays
inputs-by first last (input ∷ inputs) whole replays = (
  replays.0,
  step-of-text first replays.0 input whole.0 replays.1,
  inputs-by replays.0 last inputs whole.1 replays.2,
)

pub as-texts : (first last : LogStanding) (inputs : List Input) → All IsWhole inputs → Becomes first inputs last → ReachesBy takes first (map input_text inputs) last
as-texts first last inputs whole becomes = texts-by first last inputs (recursion_from_All IsWhole inputs whole) becomes

pub as-inputs : (first last : LogStanding) (inputs : List Input) → All IsWhole inputs → ReachesBy takes first (map input_text inputs) last → Becomes first inputs last
as-inputs first last inputs whole replays = inputs-by first last inputs (recursion_from_All IsWhole inputs whole) replays

pub whole-input : (pool : List Pooled) (newest : KeyParts) (event : LogEvent) → IsWhole (input_of_event pool newest event)
whole-input pool newest (events.Take message) = tt
whole-input pool newest events.Propose = tt
whole-input pool newest events.Pass = tt
whole-input pool newest events.Roll = public-widths (next_key newest)

whole-by : (pool : List Pooled) (newest : KeyParts) (did : List LogEvent) → AllByRecursion IsWhole (inputs_from pool newest did)
whole-by pool newest [] = tt
whole-by pool newest (event ∷ did) = (whole-input pool newest event, whole-by pool (newest_behind newest event) did)

pub whole-inputs : (pool : List Pooled) (newest : KeyParts) (did : List LogEvent) → All IsWhole (inputs_from pool newest did)
whole-inputs pool newest did = All-from_recursion IsWhole (inputs_from pool newest did) (whole-by pool newest did)
