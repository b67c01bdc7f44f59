-- What holds of each step and each delivery holds of a whole script; and what it prints of messages is its pool.
use Rattle.std.proofs.Common.{◌≡◌, ℕ, zero, suc, ◌+◌, List, [], ◌∷◌, ◌++◌, refl, sym, ◌∙◌, Bool, true, false, nat_lt, Option, Some, None, IfOk}
use Rattle.std.specs.Prelude.{if◌then◌else◌, Result, Ok, Err}
use Rattle.ar_base.specs.Chaining.{◌>>=◌, need}
use Rattle.ar_lines.specs.Lines.{lines_of}
use Rattle.ar_lines.specs.declared.refusal.Reason.{Reason}
use Rattle.ar_lines.specs.declared.refusal.Reason.TheVariants as reason
use Rattle.ar_statement.specs.declared.party.Party.{Party}
use Rattle.owner_check.specs.declared.answer.Outcome.{Outcome}
use Rattle.report_text.specs.declared.happening.Happening.{Happening}
use Rattle.script_text.specs.Rows.{read_of}
use Rattle.script_text.specs.declared.line.EventLine.{EventLine}
use Rattle.script_text.specs.declared.line.EventLine.TheVariants as event
use Rattle.script_text.specs.declared.line.Line.{Line}
use Rattle.script_text.specs.declared.line.Line.TheVariants as line
use Rattle.script_text.specs.declared.line.SetupLine.{SetupLine}
use Rattle.ar_world.specs.Delivering.{Taker, can_deliver, deliver_line, delivery, next_due, taker_at}
use Rattle.ar_world.specs.Finding.{Effect, message_at, room}
use Rattle.ar_world.specs.Founding.{in_order, led_to, may_come}
use Rattle.ar_nodes.specs.Parties.{CheckParts}
use Rattle.ar_nodes.specs.Pool.{Pooled, entries_from}
use Rattle.ar_world.specs.Printed.{TellsMoved, TellsPool, entries_in}
use Rattle.ar_world.specs.Run.{Course, Progress, Saying, at_line, delivering, flushed, deliveries_behind, line_taken, most_deliveries, most_lines, progress_of, refusing, run, run_from, taken_as, then_if}
use Rattle.ar_world.specs.State.{Moved, World, first_world}
use Rattle.ar_world.specs.Step.{event_effect, leads_to, setup_effect, step}
use Rattle.ar_world.specs.declared.cause.Cause.TheVariants.{Unread}
use Rattle.ar_nodes.specs.declared.fault.WorldFault.TheVariants.{Order}
use Rattle.ar_world.specs.declared.phase.Phase.{Phase}
use Rattle.ar_world.specs.declared.phase.Phase.TheVariants as phase
use Rattle.ar_world.proofs.Deliveries.{can-take}
use Rattle.ar_world.proofs.Lines.{delivery-tells, event-tells, quiet, setup-tells}
use Rattle.ar_world.proofs.Pools.{entries-alike, tells-both}
use Rattle.ar_base.proofs.Shown.{if-chained}

-- ---- a step

-- what holds of what a line makes that may come, in the phase to which it leads, holds of the line
in_order-holds : (P : Moved → Type 0) (w : World) (next : Phase) (made : Effect)
    → (may_come w.phase next ≡ true → IfOk made (λ m. P (record m.0 { phase = next }, m.1))) → IfOk (in_order w next made) P
in_order-holds P w next made holds = by (may_come w.phase next) refl
  where
    led : (made : Effect) → IfOk made (λ m. P (record m.0 { phase = next }, m.1)) → IfOk (led_to next made) P
    led (Ok m) holds = holds
    led (Err why) holds = tt

    by : (b : Bool) → may_come w.phase next ≡ b → IfOk (need b Order >>= λ comes. led_to next made) P
    by true comes = led made (holds comes)
    by false comes = tt

-- so of each step, where it holds of what each line makes that may come
pub step-holds : (P : Moved → Type 0) (says : Outcome) (w : World)
    → ((l : SetupLine) → may_come w.phase (leads_to l) ≡ true → IfOk (setup_effect w l) (λ m. P (record m.0 { phase = leads_to l }, m.1)))
    → ((l : EventLine) → may_come w.phase phase.Running ≡ true → IfOk (event_effect says w l) (λ m. P (record m.0 { phase = phase.Running }, m.1)))
    → (l : Line) → IfOk (step says w l) P
step-holds P says w sets does (line.Setup l) = in_order-holds P w (leads_to l) (setup_effect w l) (sets l)
step-holds P says w sets does (line.Event l) = in_order-holds P w phase.Running (event_effect says w l) (does l)
step-holds P says w sets does line.Burst = tt
step-holds P says w sets does line.End = tt

pub step-tells : (says : Outcome) (w : World) (l : Line) → IfOk (step says w l) (TellsMoved w.pool)
step-tells says w = step-holds (TellsMoved w.pool) says w (λ l comes. setup-tells w l) (λ l comes. event-tells says w l)

-- ---- what holds of a run

-- What holds of a world, a later one and what is printed between them: where nothing happens, of one thing behind another, of
-- each step, and of each delivery of a message of the pool, whatever room there is.
pub record HoldsOfSteps (R : World → World → List Happening → Type 0) : Type 0 where
  pub still : (w : World) → R w w []
  pub both : (u v w : World) (said later : List Happening) → R u v said → R v w later → R u w (said ++ later)
  pub steps : (says : Outcome) (w : World) (l : Line) → IfOk (step says w l) (λ made. R w made.0 made.1)
  pub delivers : (says : Outcome) (w : World) (message : ℕ) (p : Pooled) (who : Party) (taker : Taker) → message_at w message ≡ Some p → taker_at w who ≡ Some taker
      → R w (delivery says w message who.number taker).0 (delivery says w message who.number taker).1

-- so of each line `deliver`
pub deliver-goes : (R : World → World → List Happening → Type 0) → HoldsOfSteps R → (says : Outcome) (w : World) (message : ℕ) (who : Party)
    → IfOk (deliver_line says w message who) (λ made. R w made.0 made.1)
deliver-goes R holds says w message who =
    if-chained (can_deliver w message who) _ (λ made. R w made.0 made.1) (λ taker same.
    let can = can-take (message_at w message) (taker_at w who) (room w) taker same in
    holds.delivers says w message can.0.0 who taker can.0.1 can.1)

-- it holds of what some lines came to
abbrev pub Goes : {C : Type 0} → (World → World → List Happening → Type 0) → World → Course C → Type 0
Goes R w p = R w p.world p.said

effect-goes : (R : World → World → List Happening → Type 0) → HoldsOfSteps R → (w : World) (made : Effect) → IfOk made (λ made. R w made.0 made.1) → Goes R w (progress_of w made)
effect-goes R holds w (Ok m) made = made
effect-goes R holds w (Err why) made = holds.still w

if-goes : {C : Type 0} (R : World → World → List Happening → Type 0) → HoldsOfSteps R → (w : World) (cause : Option C) (p : Course C) (next : World → Course C)
    → Goes R w p → ((v : World) → Goes R v (next v)) → Goes R w (then_if cause p next)
if-goes R holds w None p next first rest = holds.both w p.world (next p.world).world p.said (next p.world).said first (rest p.world)
if-goes R holds w (Some cause) p next first rest = first

delivering-goes : (R : World → World → List Happening → Type 0) → HoldsOfSteps R → (says : Outcome) (w : World) (due : Option (ℕ × Party)) (next : World → Progress)
    → ((v : World) → Goes R v (next v)) → Goes R w (delivering says w due next)
delivering-goes R holds says w None next rest = holds.still w
delivering-goes R holds says w (Some due) next rest =
    let p = progress_of w (deliver_line says w due.0 due.1)
    in if-goes R holds w p.refused p next (effect-goes R holds w (deliver_line says w due.0 due.1) (deliver-goes R holds says w due.0 due.1)) rest

flushed-goes : (R : World → World → List Happening → Type 0) → HoldsOfSteps R → (most : ℕ) (says : ℕ → Outcome) (number : ℕ) (w : World) → Goes R w (flushed most says number w)
unfolding flushed
flushed-goes R holds zero says number w = holds.still w
flushed-goes R holds (suc more) says number w =
    delivering-goes R holds (says number) w (next_due w) (flushed more says (number + 1)) (flushed-goes R holds more says (number + 1))

follows-goes : (R : World → World → List Happening → Type 0) → HoldsOfSteps R → (says : ℕ → Outcome) (l : Line) (w : World) → Goes R w (deliveries_behind says l w)
follows-goes R holds says (line.Event event.Flush) w = flushed-goes R holds most_deliveries says 0 w
follows-goes R holds says _ w = holds.still w

taken-goes : (R : World → World → List Happening → Type 0) → HoldsOfSteps R → (says : ℕ → Outcome) (w : World) (read : Result (Option Line) Reason) → Goes R w (taken_as says w read)
taken-goes R holds says w (Ok (Some l)) =
    let p = progress_of w (step (says 0) w l)
    in if-goes R holds w p.refused p (deliveries_behind says l) (effect-goes R holds w (step (says 0) w l) (holds.steps (says 0) w l)) (follows-goes R holds says l)
taken-goes R holds says w (Ok None) = holds.still w
taken-goes R holds says w (Err why) = holds.still w

-- so it holds of the line with a number
pub line-goes : (R : World → World → List Happening → Type 0) → HoldsOfSteps R → (says : ℕ → Outcome) (number : ℕ) (w : World) (text : List ℕ) → Goes R w (line_taken says number w text)
unfolding line_taken
line-goes R holds says number w text = by (nat_lt most_lines number)
  where
    by : (b : Bool) → Goes R w (if b then refusing w (Unread reason.Limit) else taken_as says w (read_of text))
    by true = holds.still w
    by false = taken-goes R holds says w (read_of text)

from-goes : (R : World → World → List Happening → Type 0) → HoldsOfSteps R → (saying : Saying) (number : ℕ) (w : World) (texts : List (List ℕ))
    → Goes R w (run_from saying number w texts)
unfolding run_from
from-goes R holds saying number w [] = holds.still w
from-goes R holds saying number w (text ∷ texts) =
    let p = at_line number (line_taken (saying number) number w text)
    in if-goes R holds w p.refused p (λ later. run_from saying (number + 1) later texts) (line-goes R holds (saying number) number w text)
    (λ later. from-goes R holds saying (number + 1) later texts)

-- so it holds of each run
pub run-holds : (R : World → World → List Happening → Type 0) → HoldsOfSteps R → (saying : Saying) (checks : List CheckParts) (input : List ℕ)
    → R (first_world checks) (run saying checks input).world (run saying checks input).said
run-holds R holds saying checks input = from-goes R holds saying 1 (first_world checks) (lines_of input)

-- ---- what is printed of a run

-- what was printed since tells what the pool has more
tells-of-steps : HoldsOfSteps (λ w v said. TellsPool w.pool v.pool said)
tells-of-steps = record {
  still = λ w. quiet w.pool [] refl;
  both = λ u v w said later. tells-both u.pool v.pool w.pool said later;
  steps = step-tells;
  delivers = λ says w message p who taker has takes. delivery-tells says w message who.number taker;
}

-- the printed messages are those of the pool, numbered from 1
pub run-tells : (saying : Saying) (checks : List CheckParts) (input : List ℕ)
    → entries_in (run saying checks input).said ≡ entries_from 1 (run saying checks input).world.pool
run-tells saying checks input =
    let tells = run-holds (λ w v said. TellsPool w.pool v.pool said) tells-of-steps saying checks input
    in tells.told ∙ sym (entries-alike 1 (run saying checks input).world.pool tells.more tells.grown)
