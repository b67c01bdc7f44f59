-- The worlds through which a run goes, and its deliveries: those of the lines `deliver`, and those of each `flush`.
use Rattle.std.specs.Prelude.{◌≡◌, ℕ, ◌+◌, ◌<◌, ◌≤◌, ◌⊎◌, List, ◌∷◌, ◌++◌, length, Some, None, Ok}
use Rattle.ar_lines.specs.Lines.{lines_of}
use Rattle.ar_world.specs.ar_nodes.Parties.{CheckParts}
use Rattle.ar_statement.specs.declared.party.Party.{Party}
use Rattle.ar_world.specs.Delivering.{deliver_line, next_due}
use Rattle.ar_world.specs.Run.{Progress, Saying, flushed, most_deliveries, most_lines, progress_of, run_from, then_on}
use Rattle.ar_world.specs.State.{Moved, World, first_world}
use Rattle.ar_world.specs.Step.{step}
use Rattle.owner_check.specs.declared.answer.Outcome.{Outcome}
use Rattle.script_text.specs.Rows.{read_of}
use Rattle.script_text.specs.declared.line.EventLine.TheVariants.{Deliver, Flush}
use Rattle.script_text.specs.declared.line.Line.{Line}
use Rattle.script_text.specs.declared.line.Line.TheVariants.{Event}

-- ---- worlds

-- the world stands behind a front of the lines
pub record IsBehindLines (saying : Saying) (checks : List CheckParts) (input : List ℕ) (w : World) : Type 0 where
  pub front : List (List ℕ)
  pub rest : List (List ℕ)
  pub lines : lines_of input ≡ front ++ rest
  pub is : (run_from saying 1 (first_world checks) front).world ≡ w

-- In this world comes the line with this number, which is read so; none before it was refused.
pub record ComesTo (saying : Saying) (checks : List CheckParts) (input : List ℕ) (number : ℕ) (l : Line) (w : World) : Type 0 where
  pub front : List (List ℕ)
  pub text : List ℕ
  pub rest : List (List ℕ)
  pub lines : lines_of input ≡ front ++ text ∷ rest
  pub place : number ≡ 1 + length front
  pub few : number ≤ most_lines
  pub reads : read_of text ≡ Ok (Some l)
  pub none : (run_from saying 1 (first_world checks) front).refused ≡ None
  pub is : (run_from saying 1 (first_world checks) front).world ≡ w

-- what a `flush` comes to in a world with so many deliveries, or fewer where no more are due
abbrev pub flush_with : ℕ → (ℕ → Outcome) → World → Progress
flush_with most says w = then_on (progress_of w (step (says 0) w (Event Flush))) (flushed most says 0)

-- the world stands behind so many deliveries of the `flush` with this number, none of which was refused
pub record IsInFlush (saying : Saying) (checks : List CheckParts) (input : List ℕ) (number before : ℕ) (w : World) : Type 0 where
  pub from : World
  pub line : ComesTo saying checks input number (Event Flush) from
  pub few : before ≤ most_deliveries
  pub none : (flush_with before (saying number) from).refused ≡ None
  pub is : (flush_with before (saying number) from).world ≡ w

-- a run goes through the world: it stands behind a front of the lines, or behind some deliveries of a `flush`
abbrev pub GoesThrough : Saying → List CheckParts → List ℕ → World → Type 0
GoesThrough saying checks input w =
    IsBehindLines saying checks input w ⊎ ((number : ℕ) × ((before : ℕ) × IsInFlush saying checks input number before w))

-- ---- deliveries

-- the line `deliver` takes this message to this party in this world, and makes this of it
pub record DeliversByLine (saying : Saying) (checks : List CheckParts) (input : List ℕ) (w : World) (message : ℕ) (who : Party) (made : Moved) : Type 0 where
  pub number : ℕ
  pub line : ComesTo saying checks input number (Event (Deliver message who)) w
  pub makes : step (saying number 0) w (Event (Deliver message who)) ≡ Ok made

-- a `flush` does, by the delivery that is due then
pub record DeliversInFlush (saying : Saying) (checks : List CheckParts) (input : List ℕ) (w : World) (message : ℕ) (who : Party) (made : Moved) : Type 0 where
  pub number : ℕ
  pub before : ℕ
  pub flush : IsInFlush saying checks input number before w
  pub more : before < most_deliveries
  pub due : next_due w ≡ Some (message, who)
  pub makes : deliver_line (saying number before) w message who ≡ Ok made

-- In this world of a run the message is delivered to the party, and this is made of it.
abbrev pub Delivers : Saying → List CheckParts → List ℕ → World → ℕ → Party → Moved → Type 0
Delivers saying checks input w message who made =
    DeliversByLine saying checks input w message who made ⊎ DeliversInFlush saying checks input w message who made
