-- What it is to play a script: its lines are taken by a world, one after the other, and what happens is written at once.
use Rattle.std.specs.Prelude.{◌≡◌, ◌≢◌, ◌≤◌, ℕ, nat_lt, if◌then◌else◌, List, ◌++◌, map, Option, Some, Result, IfOk, OnErr, OnOk, Ok, Err}
use Rattle.std.specs.List.{concat}
use Rattle.ar_base.specs.Faults.{HasRisen}
use Rattle.ar_io.specs.Wrote.{Appended}
use Rattle.ar_lines.specs.declared.refusal.Reason.{Reason}
use Rattle.ar_lines.specs.declared.refusal.Reason.TheVariants as reason
use Rattle.ar_run.specs.declared.fault.Fault.{Fault}
use Rattle.ar_run.specs.declared.fault.Fault.TheVariants as fault
use Rattle.report_text.specs.Lines.{line_of}
use Rattle.report_text.specs.declared.happening.Happening.{Happening}
use Rattle.ar_world.specs.ar_nodes.Parties.{CheckParts}
use Rattle.script_text.specs.Rows.{read_of}
use Rattle.script_text.specs.declared.line.Line.{Line}
use Rattle.ar_world.specs.Run.{Course, Run, most_lines, refused_lines, text_of_run}
use Rattle.ar_world.specs.State.{World, first_world}
use Rattle.ar_world.specs.declared.cause.Cause.{Cause}
use Rattle.ar_world.specs.declared.cause.Cause.TheVariants.{Untaken}
use Rattle.ar_world.specs.ar_nodes.declared.fault.WorldFault.{WorldFault}
use Rattle.ar_world.specs.ar_nodes.declared.fault.WorldFault.TheVariants as world_fault
use Rattle.script_play.specs.Counts.{counted_from, no_counts}
use Rattle.script_play.specs.declared.counts.Counts.{Counts}

-- ---- what is written

-- the bytes that are written of what happens, a line each
abbrev pub told : List Happening → List ℕ
told said = concat (map line_of said)

-- the sink wrote a front of these bytes, all of them or fewer
pub record AppendedUpTo {K : Type 0} (wrote : K → List ℕ → Type 0) (old new : K) (bytes : List ℕ) : Type 0 where
  pub front : List ℕ
  pub rest : List ℕ
  pub cut : bytes ≡ front ++ rest
  pub wrote_front : Appended wrote old new front

-- a call that writes tells of no read; it tells of a write that failed only where the count of faults rose, and hides none
pub record Blames {K T : Type 0} (faults : K → ℕ) (old new : K) (result : Result T Fault) : Type 0 where
  pub sink : result ≡ Err fault.Sink → HasRisen (faults old) (faults new)
  pub source : result ≢ Err fault.Source
  pub uncounted : result ≢ Err fault.Sink → faults new ≡ faults old
  pub rises : faults old ≤ faults new

-- A call wrote these bytes; or memory ran out, or a write failed, and a front was written.
pub record WritesUpTo {K T : Type 0} (faults : K → ℕ) (wrote : K → List ℕ → Type 0) (old new : K) (bytes : List ℕ) (result : Result T Fault) : Type 0 where
  pub whole : OnOk result (Appended wrote old new bytes)
  pub broken : OnErr result (AppendedUpTo wrote old new bytes)
  pub blames : Blames faults old new result

-- ---- parts of a script

-- where a script stands: the world, and what was counted so far
pub record Stand : Type 0 where
  pub world : World
  pub counts : Counts

-- where each begins, with these checks of owners
abbrev pub begun : List CheckParts → Stand
begun checks = record { world = first_world checks; counts = no_counts }

-- A part of a script was played: the world is the one behind it, its judgements are counted, all that happened was written, and
-- the answer is why a line was refused, if one was. Or memory ran out, or a write failed, and a front was written. The bytes are
-- what there is to write of the part.
pub record PlaysAs {K C : Type 0} (bytes : Course C → List ℕ) (faults : K → ℕ) (wrote : K → List ℕ → Type 0) (old new : K) (before after : Stand) (p : Course C) (result : Result (Option C) Fault) : Type 0 where
  pub refused : IfOk result (λ cause. cause ≡ p.refused)
  pub stands : OnOk result (after ≡ record { world = p.world; counts = counted_from before.counts p.said })
  pub written : WritesUpTo faults wrote old new (bytes p) result

-- the same, where that is what happened
abbrev pub PlaysPart : {K C : Type 0} → (K → ℕ) → (K → List ℕ → Type 0) → K → K → Stand → Stand → Course C → Result (Option C) Fault → Type 0
PlaysPart faults wrote old new before after p result = PlaysAs (λ q. told q.said) faults wrote old new before after p result

-- The same of what follows from what checks say that tell nothing of themselves, for some of it: of a line, or of lines up to the
-- first that is refused.
pub record PlaysSome {K S C : Type 0} (faults : K → ℕ) (wrote : K → List ℕ → Type 0) (old new : K) (before after : Stand) (p : S → Course C) (result : Result (Option C) Fault) : Type 0 where
  pub says : S
  pub plays : PlaysPart faults wrote old new before after (p says) result

-- what is answered where a world does not take what it is told: want of memory is none of its refusals
abbrev pub refused_by : WorldFault → Result (Option Cause) Fault
refused_by world_fault.Memory = Err fault.Memory
refused_by why = Ok (Some (Untaken why))

-- ---- lines

-- what the line with this number is read as; behind the last that there may be, none is read
abbrev pub line_read : ℕ → List ℕ → Result (Option Line) Reason
line_read number text = if nat_lt most_lines number then Err reason.Limit else read_of text

-- the bytes that are written of the line that was refused, if one was
abbrev pub refusal_told : Option (ℕ × Cause) → List ℕ
refusal_told refusal = concat (refused_lines refusal)

-- lines were played, up to the first that is refused, and that was told too
pub record PlaysAll {K S : Type 0} (faults : K → ℕ) (wrote : K → List ℕ → Type 0) (old new : K) (before after : Stand) (run : S → Run) (result : Result (Option (ℕ × Cause)) Fault) : Type 0 where
  pub says : S
  pub plays : PlaysAs text_of_run faults wrote old new before after (run says) result

-- ---- a script

-- what a script came to: the world behind it, what was counted, and which line was refused and why, if one was
pub record Played : Type 0 where
  pub world : World
  pub counts : Counts
  pub refused : Option (ℕ × Cause)

-- what a run comes to
abbrev pub played_of : Run → Played
played_of r = record { world = r.world; counts = counted_from no_counts r.said; refused = r.refused }
