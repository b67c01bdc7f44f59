-- What a program keeps while it takes the lines of a script with bursts.
use Rattle.std.specs.Prelude.{ℕ, List, Option, Result, IfSome}
use Rattle.std.specs.List.{AllByRecursion}
use Rattle.ar_run.specs.declared.fault.Fault.{Fault}
use Rattle.script_play.specs.ar_world.State.{World}
use Rattle.script_play.specs.ar_world.declared.cause.Cause.{Cause}
use Rattle.burst_run.specs.Bursts.{IsDeliverable}
use Rattle.script_play.specs.Playing.{PlaysSome, Stand}
use Rattle.crowd_run.specs.Scripts.{OpenBurst, LineRead, passed_so}

-- the deliveries of an open burst can be made in the world as it stands
abbrev pub IsOpenIn : World → OpenBurst → Type 0
IsOpenIn w burst = IfSome burst (λ deliveries. AllByRecursion (IsDeliverable w) deliveries)

-- A line was passed in some way, and where it was not refused this is open behind it.
abbrev pub LinePasses : {K : Type 0} → (K → ℕ) → (K → List ℕ → Type 0) → K → K → ℕ → Stand → Stand → OpenBurst → LineRead → Result (Option Cause) Fault → Type 0
LinePasses faults wrote old new workers before after burst read result =
    PlaysSome faults wrote old new before after (passed_so workers before.world burst read) result
