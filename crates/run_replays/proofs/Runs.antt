-- In each world through which a run goes each honest log is what its inputs make of a new one.
use Rattle.std.proofs.Common.{◌≡◌, ◌∙◌, inl, inr, ℕ, zero, suc, ◌+◌, List, [], ◌∷◌, refl, sym, ap, subst, Bool, true, false, Option, Some, None, Ok, Err, IfOk}
use Rattle.std.specs.Prelude.{nat_le}
use Rattle.std.proofs.lemmas.Result.{IfOk-weaker}
use Rattle.ar_lines.specs.Lines.{lines_of}
use Rattle.run_safety.specs.ar_nodes.Finding.{honest_in}
use Rattle.run_safety.specs.ar_nodes.Parties.{CheckParts, LogNode}
use Rattle.run_safety.specs.ar_nodes.Pool.{Pooled}
use Rattle.ar_statement.specs.declared.party.Party.{Party}
use Rattle.run_safety.proofs.ar_world.Lines.{delivery-tells}
use Rattle.run_safety.proofs.ar_world.Runs.{HoldsOfSteps, deliver-goes, line-goes, step-holds, step-tells}
use Rattle.run_safety.specs.ar_world.Delivering.{Taker, deliver_line, delivery, next_due, taker_at}
use Rattle.run_safety.specs.ar_world.Finding.{Effect, log_at, message_at}
use Rattle.run_safety.specs.ar_world.Founding.{may_come, place_of}
use Rattle.run_safety.specs.ar_world.Printed.{TellsMoved}
use Rattle.run_safety.specs.ar_world.Records.{HasParties}
use Rattle.run_safety.specs.ar_world.Run.{Course, Progress, Saying, at_line, delivering, flushed, line_taken, progress_of, run, run_from, then_if}
use Rattle.run_safety.specs.ar_world.State.{Moved, World, first_world}
use Rattle.run_safety.specs.ar_world.Step.{event_effect, leads_to, setup_effect, step}
use Rattle.run_safety.specs.ar_world.declared.phase.Phase.{Phase}
use Rattle.run_safety.specs.ar_world.declared.phase.Phase.TheVariants as phase
use Rattle.owner_check.specs.declared.answer.Outcome.{Outcome}
use Rattle.script_text.specs.declared.line.EventLine.TheVariants as event
use Rattle.script_text.specs.declared.line.Line.{Line}
use Rattle.script_text.specs.declared.line.Line.TheVariants as line
use Rattle.run_replays.proofs.Becoming.{first-stays}
use Rattle.run_replays.proofs.Lines.{Founds, Leads, by_founding, by_notes, by_preparing, delivery-notes, event-notes, setup-leads}
use Rattle.run_replays.proofs.Made.{IsMade, KeepsBytes, did-made, fresh-made, grown-keeps, later-made, made-newest}
use Rattle.run_replays.proofs.Notes.{CameBy, Notes}
use Rattle.run_replays.proofs.Texts.{as-texts, whole-inputs}
use Rattle.run_replays.specs.Inputs.{first_key_of, inputs_of}
use Rattle.run_replays.specs.Replayed.{IsReplayed, first_standing, standing_in}
use Rattle.run_safety.proofs.KeptLines.{same-phase}
use Rattle.run_safety.proofs.Runs.{stays-early}
use Rattle.run_safety.proofs.Shown.{IsEarly}
use Rattle.run_safety.specs.Passing.{GoesThrough, flush_with}

-- ---- what is kept

-- each honest log is what its inputs make of a new one, and before the line `authorities` there is none
pub record Made (w : World) : Type 0 where
  pub each : (number : ℕ) (node : LogNode) → log_at w number ≡ Some node → IsMade w.setup w.genesis w.pool number node
  pub bare : IsEarly w → (number : ℕ) → log_at w number ≡ None

first-made : (checks : List CheckParts) → Made (first_world checks)
first-made checks = record { each = λ number node is. absurd cc; bare = λ early number. refl }

-- ---- a step

-- none is there in a world in which each came from one in which none was
no-logs : (w v : World) → ((number : ℕ) (new : LogNode) → log_at v number ≡ Some new → CameBy w number new) → ((number : ℕ) → log_at w number ≡ None)
    → (number : ℕ) → log_at v number ≡ None
no-logs w v came none number = by (log_at v number) refl
  where
    by : (o : Option LogNode) → log_at v number ≡ o → o ≡ None
    by None is = refl
    by (Some new) is = let c = came number new is in let e : None ≡ Some c.old = sym (none number) ∙ c.there in absurd cc

notes-made : (w v : World) → (IsEarly v → IsEarly w) → KeepsBytes w.pool v.pool → Notes w v → Made w → Made v
notes-made w v stays keeps n made = record {
  each = λ number new is.
      let came = n.logs number new is in
      let was : IsMade w.setup w.genesis w.pool number new = did-made w.setup w.genesis w.pool number came.old new (made.each number came.old came.there) came.did in
      subst (λ s. IsMade s v.genesis v.pool number new) (sym n.setup)
      (subst (λ g. IsMade w.setup g v.pool number new) (sym n.genesis)
      (later-made w.setup w.genesis w.pool v.pool number new keeps was));
  bare = λ early. no-logs w v n.logs (made.bare (stays early));
}

founds-made : (w v : World) → HasParties v → Founds w v → Made v
founds-made w v late f = record {
  each = λ number node is. subst (IsMade v.setup v.genesis v.pool number) (sym (f.logs number node is)) (fresh-made v.setup v.genesis v.pool number);
  bare = λ early. let e : true ≡ false = sym late ∙ early in absurd cc;
}

before-made : (w v : World) → IsEarly w → v.logs ≡ w.logs → Made w → Made v
before-made w v early same made = record {
  each = λ number node is. let e : None ≡ Some node = sym (none number) ∙ is in absurd cc;
  bare = λ still. none;
}
  where
    none : (number : ℕ) → log_at v number ≡ None
    none number = ap (λ xs. honest_in xs number) same ∙ made.bare early number

led-made : (w m : World) (next : Phase) → may_come w.phase next ≡ true → KeepsBytes w.pool m.pool → Leads next w m → Made w → Made (record m { phase = next })
led-made w m next comes keeps (by_notes n) made =
    notes-made w (record m { phase = next }) (stays-early w.phase next comes) keeps (record { setup = n.setup; genesis = n.genesis; logs = n.logs }) made
led-made w m next comes keeps (by_founding is f) made =
    founds-made w (record m { phase = next }) (subst (λ (p : Phase). nat_le 4 (place_of p) ≡ true) (sym is) refl) (record { logs = f.logs })
led-made w m next comes keeps (by_preparing early same) made = before-made w (record m { phase = next }) (stays-early w.phase next comes early) same made

-- what a line makes keeps the pool's bytes
tells-keeps : (pool : List Pooled) (made : Moved) → TellsMoved pool made → KeepsBytes pool made.0.pool
tells-keeps pool made tells = grown-keeps pool made.0.pool tells.more tells.grown

-- a line that tells what the pool has more
abbrev Steps : World → Moved → Type 0
Steps w made = TellsMoved w.pool made → Made w → Made made.0

step-leads : (says : Outcome) (w : World) (l : Line) → IfOk (step says w l) (Steps w)
step-leads says w =
    step-holds (Steps w) says w
    (λ l comes. IfOk-weaker (setup_effect w l) (λ m. Leads (leads_to l) w m.0) _
    (λ m leads tells. led-made w m.0 (leads_to l) comes (tells-keeps w.pool (record m.0 { phase = leads_to l }, m.1) tells) leads) (setup-leads w l))
    (λ l comes. IfOk-weaker (event_effect says w l) (λ m. Notes w m.0) _
    (λ m notes tells. led-made w m.0 phase.Running comes (tells-keeps w.pool (record m.0 { phase = phase.Running }, m.1) tells) (by_notes notes)) (event-notes says w l))

told : (w : World) (made : Effect) → IfOk made (TellsMoved w.pool) → IfOk made (Steps w) → IfOk made (λ m. Made w → Made m.0)
told w (Ok m) tells steps = steps tells
told w (Err why) tells steps = tt

step-made : (says : Outcome) (w : World) (l : Line) → IfOk (step says w l) (λ made. Made w → Made made.0)
step-made says w l = told w (step says w l) (step-tells says w l) (step-leads says w l)

delivered-made : (says : Outcome) (w : World) (message : ℕ) (p : Pooled) (who : Party) (taker : Taker) → message_at w message ≡ Some p → taker_at w who ≡ Some taker
    → Made w → Made (delivery says w message who.number taker).0
delivered-made says w message p who taker has takes =
    let made = delivery says w message who.number taker in
    notes-made w made.0 (λ early. ap (λ (p : Phase). nat_le 4 (place_of p)) (sym (same-phase says w message who taker takes)) ∙ early)
    (tells-keeps w.pool made (delivery-tells says w message who.number taker)) (delivery-notes says w message p who.role who.number taker has takes)

-- what was done since keeps it
made-of-steps : HoldsOfSteps (λ w v said. Made w → Made v)
made-of-steps = record {
  still = λ w made. made;
  both = λ u v w said later first second made. second (first made);
  steps = step-made;
  delivers = λ says w message p who taker has takes. delivered-made says w message p who taker has takes;
}

-- ---- where a run goes

if-made : {C : Type 0} (cause : Option C) (p : Course C) (next : World → Course C) → Made p.world → ((v : World) → Made v → Made (next v).world) → Made (then_if cause p next).world
if-made None p next made rest = rest p.world made
if-made (Some cause) p next made rest = made

from-made : (saying : Saying) (number : ℕ) (w : World) (texts : List (List ℕ)) → Made w → Made (run_from saying number w texts).world
unfolding run_from
from-made saying number w [] made = made
from-made saying number w (text ∷ texts) made =
    let p = at_line number (line_taken (saying number) number w text) in
    if-made p.refused p (λ later. run_from saying (number + 1) later texts) (line-goes (λ w v said. Made w → Made v) made-of-steps (saying number) number w text made)
    (λ later. from-made saying (number + 1) later texts)

effect-made : (w : World) (made : Effect) → IfOk made (λ m. Made w → Made m.0) → Made w → Made (progress_of w made).world
effect-made w (Ok m) goes made = goes made
effect-made w (Err why) goes made = made

delivering-made : (says : Outcome) (w : World) (due : Option (ℕ × Party)) (next : World → Progress) → Made w → ((v : World) → Made v → Made (next v).world)
    → Made (delivering says w due next).world
delivering-made says w None next made rest = made
delivering-made says w (Some due) next made rest =
    let e = deliver_line says w due.0 due.1 in
    let p = progress_of w e in
    if-made p.refused p next (effect-made w e (deliver-goes (λ w v said. Made w → Made v) made-of-steps says w due.0 due.1) made) rest

flushed-made : (most : ℕ) (says : ℕ → Outcome) (number : ℕ) (w : World) → Made w → Made (flushed most says number w).world
unfolding flushed
flushed-made zero says number w made = made
flushed-made (suc more) says number w made =
    delivering-made (says number) w (next_due w) (flushed more says (number + 1)) made (flushed-made more says (number + 1))

with-made : (before : ℕ) (says : ℕ → Outcome) (w : World) → Made w → Made (flush_with before says w).world
with-made before says w made =
    let e = step (says 0) w (line.Event event.Flush) in
    let p = progress_of w e in
    if-made p.refused p (flushed before says 0) (effect-made w e (step-made (says 0) w (line.Event event.Flush)) made) (flushed-made before says 0)

passing-made : (saying : Saying) (checks : List CheckParts) (input : List ℕ) (w : World) → GoesThrough saying checks input w → Made w
passing-made saying checks input w (inl behind) = subst Made behind.is (from-made saying 1 (first_world checks) behind.front (first-made checks))
passing-made saying checks input w (inr f) =
    let flush = f.1.1 in
    let comes = flush.line in
    subst Made flush.is
    (with-made f.1.0 (saying f.0) flush.from (subst Made comes.is (from-made saying 1 (first_world checks) comes.front (first-made checks))))

-- ---- an honest log

late-there : (w : World) (number : ℕ) (node : LogNode) → Made w → log_at w number ≡ Some node → HasParties w
late-there w number node made is = by (nat_le 4 (place_of w.phase)) refl
  where
    by : (b : Bool) → nat_le 4 (place_of w.phase) ≡ b → b ≡ true
    by true early = refl
    by false early = let e : None ≡ Some node = sym (made.bare early number) ∙ is in absurd cc

replayed : (w : World) (number : ℕ) (node : LogNode) → Made w → log_at w number ≡ Some node → IsReplayed w number node
replayed w number node made is =
    let key = first_key_of w number in
    let inputs = inputs_of w number node in
    let becomes = (made.each number node is).becomes in
    record {
      becomes = becomes;
      replays = as-texts (first_standing w number) (standing_in node) inputs (whole-inputs w.pool key node.taken) becomes;
      first = first-stays (first_standing w number) (standing_in node) inputs key becomes refl;
      newest = made-newest w.setup w.genesis w.pool number node.taken (standing_in node) becomes;
      late = late-there w number node made is;
    }

pub passing-replayed : (saying : Saying) (checks : List CheckParts) (input : List ℕ) (w : World) (number : ℕ) (node : LogNode) → GoesThrough saying checks input w
    → log_at w number ≡ Some node → IsReplayed w number node
passing-replayed saying checks input w number node goes is = replayed w number node (passing-made saying checks input w goes) is

pub ended-replayed : (saying : Saying) (checks : List CheckParts) (input : List ℕ) (number : ℕ) (node : LogNode)
    → log_at (run saying checks input).world number ≡ Some node → IsReplayed (run saying checks input).world number node
ended-replayed saying checks input number node is =
    let w = (run saying checks input).world in
    replayed w number node (from-made saying 1 (first_world checks) (lines_of input) (first-made checks)) is
