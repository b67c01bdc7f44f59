-- What is there behind some lines of a run lasts to its end.
use Rattle.std.proofs.Common.{◌≡◌, ◌∙◌, ℕ, zero, suc, ◌+◌, inl, inr, List, [], ◌∷◌, ◌++◌, sym, subst, Bool, true, false, nat_lt, Option, Some, None, IfOk}
use Rattle.std.specs.Prelude.{if◌then◌else◌, Result, Ok, Err}
use Rattle.ar_lines.specs.Lines.{lines_of}
use Rattle.ar_lines.specs.declared.refusal.Reason.{Reason}
use Rattle.ar_lines.specs.declared.refusal.Reason.TheVariants as reason
use Rattle.ar_world.specs.ar_nodes.Parties.{CheckParts}
use Rattle.ar_statement.specs.declared.party.Party.{Party}
use Rattle.ar_world.specs.Delivering.{deliver_line, next_due}
use Rattle.ar_world.specs.Finding.{Effect}
use Rattle.ar_world.specs.Run.{Course, Progress, Saying, at_line, delivering, flushed, deliveries_behind, line_taken, most_deliveries, most_lines, progress_of, refusing, run, run_from, taken_as, then_if}
use Rattle.ar_world.specs.State.{World, first_world}
use Rattle.ar_world.specs.Step.{step}
use Rattle.ar_world.specs.declared.cause.Cause.{Cause}
use Rattle.ar_world.specs.declared.cause.Cause.TheVariants.{Unread}
use Rattle.owner_check.specs.declared.answer.Outcome.{Outcome}
use Rattle.script_text.specs.Rows.{read_of}
use Rattle.script_text.specs.declared.line.EventLine.TheVariants as event
use Rattle.script_text.specs.declared.line.Line.{Line}
use Rattle.script_text.specs.declared.line.Line.TheVariants as line
use Rattle.ar_world.proofs.Runs.{deliver-goes}
use Rattle.run_safety.specs.Lasting.{Lasts}
use Rattle.run_safety.proofs.Lasting.{Goes, Holds, Later, first-holds, goes-of-steps, later-itself, later-on}

-- ---- what some lines come to

-- what holds of a world goes on to hold in what some lines come to
abbrev pub Leads : {C : Type 0} → World → Course C → Type 0
Leads w p = Holds w → Goes w p.world

pub still : (w : World) → Holds w → Goes w w
still w h = record { held = h; later = later-itself w; seen = λ s. s; real = λ f final on r. r }

pub join : (u v w : World) → Goes u v → Goes v w → Goes u w
join u v w a b = record { held = b.held; later = later-on u v w a.later b.later; seen = λ s. b.seen (a.seen s); real = λ f final on r. b.real f final on (a.real f final (later-on v w f b.later on) r) }

pub effect-leads : (w : World) (made : Effect) → IfOk made (λ m. Holds w → Goes w m.0) → Leads w (progress_of w made)
effect-leads w (Ok m) goes = goes
effect-leads w (Err why) goes = still w

pub if-leads : {C : Type 0} (w : World) (cause : Option C) (p : Course C) (next : World → Course C) → Leads w p → ((v : World) → Leads v (next v)) → Leads w (then_if cause p next)
if-leads w None p next first rest h = let a = first h in join w p.world (next p.world).world a (rest p.world a.held)
if-leads w (Some cause) p next first rest h = first h

delivering-leads : (says : Outcome) (w : World) (due : Option (ℕ × Party)) (next : World → Progress) → ((v : World) → Leads v (next v)) → Leads w (delivering says w due next)
delivering-leads says w None next rest = still w
delivering-leads says w (Some due) next rest =
    let p = progress_of w (deliver_line says w due.0 due.1)
    in if-leads w p.refused p next (effect-leads w (deliver_line says w due.0 due.1) (deliver-goes (λ w v said. Holds w → Goes w v) goes-of-steps says w due.0 due.1)) rest

pub flushed-leads : (most : ℕ) (says : ℕ → Outcome) (number : ℕ) (w : World) → Leads w (flushed most says number w)
unfolding flushed
flushed-leads zero says number w = still w
flushed-leads (suc more) says number w =
    delivering-leads (says number) w (next_due w) (flushed more says (number + 1)) (flushed-leads more says (number + 1))

follows-leads : (says : ℕ → Outcome) (l : Line) (w : World) → Leads w (deliveries_behind says l w)
follows-leads says (line.Event event.Flush) w = flushed-leads most_deliveries says 0 w
follows-leads says _ w = still w

taken-leads : (says : ℕ → Outcome) (w : World) (read : Result (Option Line) Reason) → Leads w (taken_as says w read)
taken-leads says w (Ok (Some l)) =
    let p = progress_of w (step (says 0) w l)
    in if-leads w p.refused p (deliveries_behind says l) (effect-leads w (step (says 0) w l) (goes-of-steps.steps (says 0) w l)) (follows-leads says l)
taken-leads says w (Ok None) = still w
taken-leads says w (Err why) = still w

line-leads : (says : ℕ → Outcome) (number : ℕ) (w : World) (text : List ℕ) → Leads w (line_taken says number w text)
unfolding line_taken
line-leads says number w text = by (nat_lt most_lines number)
  where
    by : (b : Bool) → Leads w (if b then refusing w (Unread reason.Limit) else taken_as says w (read_of text))
    by true = still w
    by false = taken-leads says w (read_of text)

pub from-leads : (saying : Saying) (number : ℕ) (w : World) (texts : List (List ℕ)) → Leads w (run_from saying number w texts)
unfolding run_from
from-leads saying number w [] = still w
from-leads saying number w (text ∷ texts) =
    let p = at_line number (line_taken (saying number) number w text)
    in if-leads w p.refused p (λ later. run_from saying (number + 1) later texts) (line-leads (saying number) number w text)
    (λ later. from-leads saying (number + 1) later texts)

-- ---- a front of the lines

front-leads : (saying : Saying) (number : ℕ) (w : World) (front rest : List (List ℕ)) → Holds w
    → Goes (run_from saying number w front).world (run_from saying number w (front ++ rest)).world
unfolding run_from
front-leads saying number w [] rest h = from-leads saying number w rest h
front-leads saying number w (text ∷ front) rest h =
    by (at_line number (line_taken (saying number) number w text)).refused
    (front-leads saying (number + 1) (line_taken (saying number) number w text).world front rest (line-leads (saying number) number w text h).held)
  where
    p : Course (ℕ × Cause)
    p = at_line number (line_taken (saying number) number w text)

    by : (cause : Option (ℕ × Cause)) → Goes (run_from saying (number + 1) p.world front).world (run_from saying (number + 1) p.world (front ++ rest)).world
        → Goes (then_if cause p (λ later. run_from saying (number + 1) later front)).world (then_if cause p (λ later. run_from saying (number + 1) later (front ++ rest))).world
    by None goes = goes
    by (Some cause) goes = still p.world (line-leads (saying number) number w text h).held

pub lasts-of : (w v : World) → Later w v → Lasts w v
lasts-of w v later = record {
  messages = later.messages;
  late = later.late;
  genesis = later.genesis;
  parties = λ late who new is. elim (later.parties who.role who.number new is) [
    | inl was ↦ record { old = was.old; there = was.there; grows = was.grows }
    | inr before ↦ let e : true ≡ false = sym late ∙ before in absurd cc
  ];
}

pub fronts-last : (saying : Saying) (checks : List CheckParts) (input : List ℕ) (front rest : List (List ℕ)) → lines_of input ≡ front ++ rest
    → Lasts (run_from saying 1 (first_world checks) front).world (run saying checks input).world
fronts-last saying checks input front rest is =
    subst (λ (texts : List (List ℕ)). Lasts (run_from saying 1 (first_world checks) front).world (run_from saying 1 (first_world checks) texts).world) (sym is)
    (lasts-of _ _ (front-leads saying 1 (first_world checks) front rest (first-holds checks)).later)
