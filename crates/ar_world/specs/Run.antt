-- A whole script: the lines of an input, each taken by the world that those before it leave, until one is refused, and all that
-- is written of it.
use Rattle.std.specs.Prelude.{◌*◌, ℕ, zero, suc, ◌+◌, nat_lt, if◌then◌else◌, List, [], ◌∷◌, ◌++◌, codes, map, Option, Some, None, Result, Ok, Err}
use Rattle.std.specs.Option.{option_map}
use Rattle.std.specs.Fmt.{decimal}
use Rattle.std.specs.List.{concat}
use Rattle.ar_lines.specs.Lines.{lines_of}
use Rattle.ar_lines.specs.Refusals.{reason_text, refused_as}
use Rattle.ar_lines.specs.declared.refusal.Reason.{Reason}
use Rattle.ar_lines.specs.declared.refusal.Reason.TheVariants as reason
use Rattle.ar_statement.specs.declared.party.Party.{Party}
use Rattle.owner_check.specs.declared.answer.Outcome.{Outcome}
use Rattle.report_text.specs.Lines.{line_of}
use Rattle.report_text.specs.declared.happening.Happening.{Happening}
use Rattle.script_text.specs.Rows.{read_of}
use Rattle.script_text.specs.declared.line.EventLine.TheVariants as event
use Rattle.script_text.specs.declared.line.Line.{Line}
use Rattle.script_text.specs.declared.line.Line.TheVariants as line
use Rattle.ar_world.specs.Delivering.{deliver_line, next_due}
use Rattle.ar_world.specs.Finding.{Effect}
use Rattle.ar_nodes.specs.Pool.{most_messages}
use Rattle.ar_nodes.specs.Parties.{CheckParts}
use Rattle.ar_world.specs.State.{World, first_world}
use Rattle.ar_world.specs.Step.{step}
use Rattle.ar_world.specs.declared.cause.Cause.{Cause}
use Rattle.ar_world.specs.declared.cause.Cause.TheVariants.{Unread, Untaken}
use Rattle.ar_nodes.specs.declared.fault.WorldFault.{WorldFault}
use Rattle.ar_nodes.specs.declared.fault.WorldFault.TheVariants as fault

-- What checks say that tell nothing of themselves: in the line with this number, in its delivery with this number, from 0. A
-- line that is no `flush` has one delivery at most, and each asks one check, at most once.
abbrev pub Saying : Type 0
Saying = ℕ → ℕ → Outcome

-- ---- what lines come to

-- the world behind some lines, what was printed, and why the last was refused, if it was
pub record Course (C : Type 0) : Type 0 where
  pub world : World
  pub said : List Happening
  pub refused : Option C

-- that of one line: why it was refused
abbrev pub Progress : Type 0
Progress = Course Cause

-- that of a script: the number of the line that was refused, and why
abbrev pub Run : Type 0
Run = Course (ℕ × Cause)

-- nothing happened
abbrev pub unmoved : {C : Type 0} → World → Course C
unmoved w = record { world = w; said = []; refused = None }

-- a line is refused, and does nothing
abbrev pub refusing : World → Cause → Progress
refusing w cause = record { world = w; said = []; refused = Some cause }

-- what a line came to
abbrev pub progress_of : World → Effect → Progress
progress_of w (Ok made) = record { world = made.0; said = made.1; refused = None }
progress_of w (Err why) = refusing w (Untaken why)

-- what was printed before
abbrev pub printed_before : {C : Type 0} → List Happening → Course C → Course C
printed_before said p = record p { said = said ++ p.said }

-- one after the other, unless the first was refused
abbrev pub then_if : {C : Type 0} → Option C → Course C → (World → Course C) → Course C
then_if None p next = printed_before p.said (next p.world)
then_if (Some cause) p next = p

abbrev pub then_on : {C : Type 0} → Course C → (World → Course C) → Course C
then_on p next = then_if p.refused p next

-- ---- `flush`

-- the delivery that is due, where one is, and what follows
abbrev pub delivering : Outcome → World → Option (ℕ × Party) → (World → Progress) → Progress
delivering says w None next = unmoved w
delivering says w (Some due) next = then_on (progress_of w (deliver_line says w due.0 due.1)) next

-- all deliveries that are due, one after the other, and those that come to be due by them; at most so many, the first of which
-- has this number
unfoldable pub flushed : ℕ → (ℕ → Outcome) → ℕ → World → Progress
flushed zero says number w = unmoved w
flushed (suc more) says number w = delivering (says number) w (next_due w) (flushed more says (number + 1))

-- More deliveries than there can be: each message is due to at most 16 parties once, and no step that begins with room in the
-- pool sends so many as are added here.
abbrev pub most_deliveries : ℕ
most_deliveries = 16 * (most_messages + 64)

-- what follows a line: behind a `flush` the deliveries
abbrev pub deliveries_behind : (ℕ → Outcome) → Line → World → Progress
deliveries_behind says (line.Event event.Flush) w = flushed most_deliveries says 0 w
deliveries_behind says _ w = unmoved w

-- ---- lines

-- a line, with what follows it
abbrev pub taken : (ℕ → Outcome) → World → Line → Progress
taken says w l = then_on (progress_of w (step (says 0) w l)) (deliveries_behind says l)

-- what a line is read as; one that is skipped does nothing
abbrev pub taken_as : (ℕ → Outcome) → World → Result (Option Line) Reason → Progress
taken_as says w (Ok (Some l)) = taken says w l
taken_as says w (Ok None) = unmoved w
taken_as says w (Err why) = refusing w (Unread why)

-- the most lines of a script
abbrev pub most_lines : ℕ
most_lines = 20000

-- the line with this number
unfoldable pub line_taken : (ℕ → Outcome) → ℕ → World → List ℕ → Progress
line_taken says number w text =
    if nat_lt most_lines number then refusing w (Unread reason.Limit) else taken_as says w (read_of text)

-- ---- a script

-- what the line with this number came to
abbrev pub at_line : ℕ → Progress → Run
at_line number p = record { world = p.world; said = p.said; refused = option_map (λ cause. (number, cause)) p.refused }

-- these lines, the first of which has this number
unfoldable pub run_from : Saying → ℕ → World → List (List ℕ) → Run
run_from saying number w [] = unmoved w
run_from saying number w (text ∷ texts) =
    then_on (at_line number (line_taken (saying number) number w text)) (λ later. run_from saying (number + 1) later texts)

-- the run of an input, with these checks of owners
abbrev pub run : Saying → List CheckParts → List ℕ → Run
run saying checks input = run_from saying 1 (first_world checks) (lines_of input)

-- ---- what is written

-- why a world does not take a line, as it is written; want of memory is never written
abbrev pub fault_text : WorldFault → List ℕ
fault_text fault.Order = codes "order"
fault_text (fault.Absent word) = codes "none " ++ decimal word
fault_text fault.Limit = codes "limit"
fault_text fault.Memory = []

abbrev pub cause_text : Cause → List ℕ
cause_text (Unread why) = reason_text why
cause_text (Untaken why) = fault_text why

-- the line that tells which line is refused, and why
abbrev pub refused_text : ℕ × Cause → List ℕ
refused_text refusal = refused_as refusal.0 (cause_text refusal.1 ++ codes "\n")

abbrev pub refused_lines : Option (ℕ × Cause) → List (List ℕ)
refused_lines None = []
refused_lines (Some refusal) = refused_text refusal ∷ []

-- all lines that are written of a run, each with its newline
abbrev pub lines_of_run : Run → List (List ℕ)
lines_of_run r = map line_of r.said ++ refused_lines r.refused

-- all that is written of a run
abbrev pub text_of_run : Run → List ℕ
text_of_run r = concat (lines_of_run r)
