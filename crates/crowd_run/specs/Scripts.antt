-- A script with bursts: its lines are those of a script, and between the lines `burst` and `end` stand the deliveries of a burst, which
-- its parties take in some orders once the line `end` comes.
use Rattle.std.specs.Prelude.{ℕ, ◌+◌, Bool, true, false, List, [], ◌∷◌, ◌++◌, Option, Some, None, Result, Ok, Err}
use Rattle.ar_lines.specs.Lines.{lines_of}
use Rattle.ar_lines.specs.declared.refusal.Reason.{Reason}
use Rattle.script_play.specs.ar_nodes.Parties.{CheckParts}
use Rattle.script_play.specs.ar_nodes.declared.fault.WorldFault.{WorldFault}
use Rattle.script_play.specs.ar_nodes.declared.fault.WorldFault.TheVariants.{Order}
use Rattle.script_play.specs.ar_world.Finding.{Effect}
use Rattle.script_play.specs.ar_world.Run.{Progress, Run, at_line, progress_of, refusing, taken_as, then_on, unmoved}
use Rattle.script_play.specs.ar_world.State.{World, first_world, silent}
use Rattle.script_play.specs.ar_world.Step.{step}
use Rattle.script_play.specs.ar_world.declared.cause.Cause.TheVariants.{Unread, Untaken}
use Rattle.burst_run.specs.Bursts.{AreOrders, Sequence, burst_made, may_join}
use Rattle.burst_run.specs.Stations.{Deliveries}
use Rattle.owner_check.specs.declared.answer.Outcome.{Outcome}
use Rattle.script_play.specs.Playing.{line_read}
use Rattle.script_text.specs.declared.line.EventLine.TheVariants as event
use Rattle.script_text.specs.declared.line.Line.{Line}
use Rattle.script_text.specs.declared.line.Line.TheVariants as line

-- what a line is read as: nothing where it is skipped
abbrev pub LineRead : Type 0
LineRead = Result (Option Line) Reason

-- a line is read as `burst`
abbrev pub is_burst : LineRead → Bool
is_burst (Ok (Some line.Burst)) = true
is_burst _ = false

-- ---- the burst that is open

-- the deliveries of the burst that is open, where one is
abbrev pub OpenBurst : Type 0
OpenBurst = Option Deliveries

-- what is open behind a line that came where no burst was
abbrev pub opened_by : Line → OpenBurst
opened_by line.Burst = Some []
opened_by _ = None

-- behind one that came in a burst
abbrev pub kept_by : Deliveries → Line → OpenBurst
kept_by deliveries (line.Event (event.Deliver message party)) = Some (deliveries ++ (message, party) ∷ [])
kept_by deliveries line.End = None
kept_by deliveries _ = Some deliveries

abbrev pub open_behind_line : OpenBurst → Line → OpenBurst
open_behind_line None l = opened_by l
open_behind_line (Some deliveries) l = kept_by deliveries l

-- behind what a line is read as, where it is not refused
abbrev pub open_behind : OpenBurst → LineRead → OpenBurst
open_behind burst (Ok (Some l)) = open_behind_line burst l
open_behind burst (Ok None) = burst
open_behind burst (Err why) = burst

-- ---- a line

-- a delivery joins the burst: the world stays as it is
abbrev pub joins_burst : World → Result (Unit {0}) WorldFault → Effect
joins_burst w (Ok free) = Ok (silent w)
joins_burst w (Err why) = Err why

-- A line where no burst is open. `burst` may come where a `flush` may, and makes of the world what that does, without its
-- deliveries.
abbrev pub passed_outside : (ℕ → Outcome) → World → LineRead → Progress
passed_outside says w (Ok (Some line.Burst)) = progress_of w (step (says 0) w (line.Event event.Flush))
passed_outside says w read = taken_as says w read

-- a line of an open burst: a delivery joins it, `end` ends it, and then its parties take their deliveries in these orders; no other
-- line may come
abbrev pub passed_inside : List Sequence → World → Deliveries → Line → Progress
passed_inside orders w deliveries (line.Event (event.Deliver message party)) = progress_of w (joins_burst w (may_join w deliveries message party))
passed_inside orders w deliveries line.End = progress_of w (Ok (burst_made deliveries w orders))
passed_inside orders w deliveries _ = refusing w (Untaken Order)

abbrev pub read_inside : List Sequence → World → Deliveries → LineRead → Progress
read_inside orders w deliveries (Ok (Some l)) = passed_inside orders w deliveries l
read_inside orders w deliveries (Ok None) = unmoved w
read_inside orders w deliveries (Err why) = refusing w (Unread why)

-- a line, by whether a burst is open
abbrev pub passed_by : (ℕ → Outcome) → List Sequence → World → OpenBurst → LineRead → Progress
passed_by says orders w None read = passed_outside says w read
passed_by says orders w (Some deliveries) read = read_inside orders w deliveries read

-- ---- what is open to choice

-- orders are those of the burst that a line ends, of so many workers; where it ends none, there is nothing to say
abbrev pub EndsSo : ℕ → OpenBurst → LineRead → List Sequence → Type 0
EndsSo workers (Some deliveries) (Ok (Some line.End)) orders = AreOrders workers deliveries orders
EndsSo workers burst read orders = Unit {0}

-- How a line is passed: what checks say that tell nothing of themselves, in its delivery with each number; and the orders of the burst
-- that it ends.
pub record Way (workers : ℕ) (burst : OpenBurst) (read : LineRead) : Type 0 where
  pub says : ℕ → Outcome
  pub orders : List Sequence
  pub ordered : EndsSo workers burst read orders

-- what a line comes to in this way
abbrev pub passed_so : (workers : ℕ) (w : World) (burst : OpenBurst) (read : LineRead) → Way workers burst read → Progress
passed_so workers w burst read way = passed_by way.says way.orders w burst read

-- a way for each of these lines, the first of which has this number
abbrev pub AllWays : ℕ → ℕ → World → OpenBurst → List (List ℕ) → Type 0
AllWays workers number w burst [] = Unit {0}
AllWays workers number w burst (text ∷ texts) =
    (way : Way workers burst (line_read number text))
    × AllWays workers (number + 1) (passed_so workers w burst (line_read number text) way).world (open_behind burst (line_read number text)) texts

-- ---- a script

-- the end of a script, whose next line would have this number: no burst may be open
abbrev pub script_end : ℕ → World → OpenBurst → Run
script_end number w None = unmoved w
script_end number w (Some deliveries) = at_line number (refusing w (Untaken Order))

-- these lines in these ways, the first of which has this number, up to the first that is refused
unfoldable pub crowd_from : (workers number : ℕ) (w : World) (burst : OpenBurst) (texts : List (List ℕ)) → AllWays workers number w burst texts → Run
crowd_from workers number w burst [] ways = script_end number w burst
crowd_from workers number w burst (text ∷ texts) ways =
    let read = line_read number text in
    let made = passed_so workers w burst read ways.0 in
    then_on (at_line number made) (λ later. crowd_from workers (number + 1) made.world (open_behind burst read) texts ways.1)

-- the ways of an input, for so many workers and with these checks of owners
abbrev pub InputWays : ℕ → List CheckParts → List ℕ → Type 0
InputWays workers checks input = AllWays workers 1 (first_world checks) None (lines_of input)

-- the run of an input in each of its ways
abbrev pub crowd_with : (workers : ℕ) (checks : List CheckParts) (input : List ℕ) → InputWays workers checks input → Run
crowd_with workers checks input ways = crowd_from workers 1 (first_world checks) None (lines_of input) ways
