-- An input that is played with bursts.
use Rattle.std.proofs.Common.{◌≡◌, ℕ, ◌≤◌, ◌<◌, inr, length, List, Option, Some, Result, Err, IfOk}
use Rattle.ar_base.specs.Faults.{HasRisen}
use Rattle.ar_run.specs.Runs.{TakesAll, most_read_bytes}
use Rattle.ar_run.specs.declared.fault.Fault.{Fault}
use Rattle.ar_run.specs.declared.fault.Fault.TheVariants as fault
use Rattle.script_play.specs.ar_nodes.Parties.{CheckParts}
use Rattle.run_safety.specs.Headline.{IsSafeRun}
use Rattle.script_play.specs.Played.{IsPlayed, PlaysFront, PlaysWhole, RefusesLong}
use Rattle.script_play.proofs.Inputs.{input-front, input-sink, input-taken, input-whole, long-played, script-same}
use Rattle.crowd_run.specs.Program.{Stops}
use Rattle.crowd_run.specs.Scripts.{InputWays, crowd_with}
use Rattle.crowd_run.specs.declared.request.Request.TheVariants.{Crowd}
use Rattle.crowd_run.proofs.Safe.{crowd_safe}
use Rattle.crowd_run.proofs.SomeWays.{some_input}

-- one of which all is there
pub script_there : {K : Type 0} (faults : K → ℕ) (wrote : K → List ℕ → Type 0) (a b : K) (workers : ℕ) (checks : List CheckParts) (script input : List ℕ) (result : Result ℕ Fault)
    → script ≡ input → length input ≤ most_read_bytes → (length script ≤ most_read_bytes → IsPlayed (crowd_with workers checks) faults wrote a b script result)
    → IsPlayed (crowd_with workers checks) faults wrote a b input result
script_there faults wrote a b workers checks script input result is few plays = script-same (crowd_with workers checks) faults wrote a b script input result is few plays

-- one that is too long: nothing is asked
pub script_long : {K : Type 0} (faults : K → ℕ) (wrote : K → List ℕ → Type 0) (a b : K) (workers : ℕ) (checks : List CheckParts) (input : List ℕ) (result : Result ℕ Fault)
    → 0 < workers → most_read_bytes < length input → RefusesLong faults wrote a b result → IsPlayed (crowd_with workers checks) faults wrote a b input result
script_long faults wrote a b workers checks input result some many refuses =
    long-played (crowd_with workers checks) faults wrote a b input (some_input workers some checks input) result many refuses

pub ruleset script_laws = (script_there, script_long)

-- each run is safe
each_safe : (workers : ℕ) (checks : List CheckParts) (input : List ℕ) (ways : InputWays workers checks input) → length input ≤ most_read_bytes → IsSafeRun (crowd_with workers checks input ways)
each_safe workers checks input ways few = crowd_safe workers checks input ways

pub input_answered : {K : Type 0} (faults : K → ℕ) (wrote : K → List ℕ → Type 0) (a b : K) (workers : ℕ) (checks : List CheckParts) (input : List ℕ) (old new : Option (List ℕ)) (result : Result ℕ Fault)
    → TakesAll old new input → IsPlayed (crowd_with workers checks) faults wrote a b input result
    → IfOk result (λ status. PlaysWhole (crowd_with workers checks) IsSafeRun old new wrote a b status)
input_answered faults wrote a b workers checks input old new result takes plays =
    input-whole (crowd_with workers checks) IsSafeRun faults wrote a b input old new result (each_safe workers checks input) takes plays

pub input_cut : {K : Type 0} (faults : K → ℕ) (wrote : K → List ℕ → Type 0) (a b : K) (workers : ℕ) (checks : List CheckParts) (input : List ℕ) (old new : Option (List ℕ)) (result : Result ℕ Fault)
    → TakesAll old new input → IsPlayed (crowd_with workers checks) faults wrote a b input result → result ≡ Err fault.Sink
    → HasRisen (faults a) (faults b) × PlaysFront (crowd_with workers checks) IsSafeRun old new wrote a b
input_cut faults wrote a b workers checks input old new result takes plays is =
    input-sink (crowd_with workers checks) IsSafeRun faults wrote a b input old new result (each_safe workers checks input) takes plays is

pub input_memory : {K : Type 0} (faults : K → ℕ) (wrote : K → List ℕ → Type 0) (a b : K) (workers : ℕ) (checks : List CheckParts) (input : List ℕ) (old new : Option (List ℕ)) (result : Result ℕ Fault)
    → TakesAll old new input → IsPlayed (crowd_with workers checks) faults wrote a b input result → result ≡ Err fault.Memory → Stops checks (Some (Crowd workers)) old new wrote a b
input_memory faults wrote a b workers checks input old new result takes plays is =
    inr (input-front (crowd_with workers checks) IsSafeRun faults wrote a b input old new result fault.Memory (each_safe workers checks input) takes plays is)

pub ruleset input_laws = (input_answered, input_cut, input_memory, input-taken)
