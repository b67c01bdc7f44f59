-- What it is to write some bytes to a sink that may fail.
use Rattle.std.specs.Prelude.{◌≡◌, ◌≤◌, ℕ, List, Result, IfErr, OnErr, OnOk}
use Rattle.ar_base.specs.Faults.{HasRisen}
use Rattle.ar_io.specs.Wrote.{Appended, AppendedFront}
use Rattle.ar_run.specs.declared.fault.Fault.{Fault}
use Rattle.ar_run.specs.declared.fault.Fault.TheVariants as fault

-- All of the bytes were written, and the sink's count of faults stays; or a write failed, the count rose, and of the
-- bytes a front was written, and not all. No other fault is told, and the count never falls.
pub record Writes {K A : Type 0} (faults : K → ℕ) (wrote : K → List ℕ → Type 0) (sink after : K) (bytes : List ℕ) (result : Result A Fault) : Type 0 where
  pub all : OnOk result (Appended wrote sink after bytes)
  pub uncounted : OnOk result (faults after ≡ faults sink)
  pub front : OnErr result (HasRisen (faults sink) (faults after) × AppendedFront wrote sink after bytes)
  pub only_sink : IfErr result (λ f. f ≡ fault.Sink)
  pub rises : faults sink ≤ faults after
