-- Where a run goes: what holds in the worlds through which it goes, and what a delivery leaves until its end.
use Rattle.std.proofs.Common.{◌≡◌, ◌∙◌, inl, inr, ℕ, zero, suc, ◌+◌, ◌<◌, ◌≤◌, List, [], ◌∷◌, ◌++◌, append-nil, length, refl, sym, ap, subst, arith, Bool, Option, Some, None, Ok, IfOk}
use Rattle.std.specs.Prelude.{if◌then◌else◌, Result}
use Rattle.std.proofs.lemmas.Bool.{le-ltb}
use Rattle.ar_lines.specs.Lines.{lines_of}
use Rattle.ar_lines.specs.declared.refusal.Reason.{Reason}
use Rattle.ar_lines.specs.declared.refusal.Reason.TheVariants as reason
use Rattle.ar_world.specs.ar_nodes.Parties.{CheckParts}
use Rattle.ar_statement.specs.declared.party.Party.{Party}
use Rattle.ar_world.proofs.Runs.{deliver-goes}
use Rattle.ar_world.specs.Delivering.{deliver_line, next_due}
use Rattle.ar_world.specs.Finding.{Effect}
use Rattle.ar_world.specs.Run.{Course, Progress, Saying, at_line, delivering, flushed, deliveries_behind, line_taken, most_deliveries, most_lines, progress_of, refusing, run, run_from, taken, taken_as, then_if, then_on}
use Rattle.ar_world.specs.State.{Moved, World, first_world}
use Rattle.ar_world.specs.Step.{step}
use Rattle.ar_world.specs.declared.cause.Cause.{Cause}
use Rattle.ar_world.specs.declared.cause.Cause.TheVariants.{Unread}
use Rattle.owner_check.specs.declared.answer.Outcome.{Outcome}
use Rattle.script_text.specs.Rows.{read_of}
use Rattle.script_text.specs.declared.line.EventLine.TheVariants as event
use Rattle.script_text.specs.declared.line.Line.{Line}
use Rattle.script_text.specs.declared.line.Line.TheVariants as line
use Rattle.run_safety.specs.Passing.{ComesTo, Delivers, DeliversByLine, DeliversInFlush, GoesThrough, IsInFlush, flush_with}
use Rattle.run_safety.proofs.Fronts.{Leads, effect-leads, flushed-leads, from-leads, if-leads, still}
use Rattle.run_safety.proofs.Lasting.{Goes, Holds, first-holds, goes-of-steps}

-- ---- lines one after the other

-- where none of some lines is refused, those behind them go on from the world that they leave
lines-on : (saying : Saying) (number : ℕ) (u : World) (front more : List (List ℕ)) → (run_from saying number u front).refused ≡ None
    → (run_from saying number u (front ++ more)).world ≡ (run_from saying (number + length front) (run_from saying number u front).world more).world
unfolding run_from
lines-on saying number u [] more none =
    let same : number ≡ number + 0 = omega arith in ap (λ n. (run_from saying n u more).world) same
lines-on saying number u (text ∷ front) more none = by p.refused refl (lines-on saying (number + 1) p.world front more) none
  where
    p : Course (ℕ × Cause)
    p = at_line number (line_taken (saying number) number u text)

    On : Type 0
    On =
        (run_from saying (number + 1) p.world front).refused ≡ None
        → (run_from saying (number + 1) p.world (front ++ more)).world ≡ (run_from saying ((number + 1) + length front) (run_from saying (number + 1) p.world front).world more).world

    by : (cause : Option (ℕ × Cause)) → p.refused ≡ cause → On → (then_if cause p (λ later. run_from saying (number + 1) later front)).refused ≡ None
        → (then_if cause p (λ later. run_from saying (number + 1) later (front ++ more))).world
        ≡ (run_from saying (number + length (text ∷ front)) (then_if cause p (λ later. run_from saying (number + 1) later front)).world more).world
    by None is on free =
        let same : (number + 1) + length front ≡ number + length (text ∷ front) = omega arith in
        on free
        ∙ ap (λ n. (run_from saying n (run_from saying (number + 1) p.world front).world more).world) same
    by (Some cause) is on free = let e : ◌≡◌ {A = Option (ℕ × Cause)} (Some cause) None = sym is ∙ free in absurd cc

-- a line that is read, and is not one too many
line-is : (says : ℕ → Outcome) (number : ℕ) (w : World) (text : List ℕ) (l : Line) → number ≤ most_lines → read_of text ≡ Ok (Some l)
    → line_taken says number w text ≡ taken says w l
unfolding line_taken
line-is says number w text l few reads =
    ap (λ (b : Bool). if b then refusing w (Unread reason.Limit) else taken_as says w (read_of text)) (le-ltb most_lines number few)
    ∙ ap (λ (r : Result (Option Line) Reason). taken_as says w r) reads

-- what leads to the world behind a line leads to the one behind all that follow it
rest-leads : (saying : Saying) (number : ℕ) (w : World) (text : List ℕ) (rest : List (List ℕ)) (u : World) → Leads u (line_taken (saying number) number w text)
    → Leads u (run_from saying number w (text ∷ rest))
unfolding run_from
rest-leads saying number w text rest u leads =
    let p = at_line number (line_taken (saying number) number w text) in
    if-leads u p.refused p (λ later. run_from saying (number + 1) later rest) leads (λ later. from-leads saying (number + 1) later rest)

-- ---- deliveries one after the other

-- the sum, so that it computes
abbrev plus : ℕ → ℕ → ℕ
plus zero more = more
plus (suc before) more = suc (plus before more)

split-most : (before most : ℕ) → before < most → (more : ℕ) × (most ≡ plus before (suc more))
split-most zero zero less = absurd (omega (arith, less))
split-most zero (suc most) less = (most, refl)
split-most (suc before) zero less = absurd (omega (arith, less))
split-most (suc before) (suc most) less = let s = split-most before most (omega (arith, less)) in (s.0, ap suc s.1)

-- where nothing is due, nothing more is delivered
idle : (says : ℕ → Outcome) (more number : ℕ) (w : World) → next_due w ≡ None → (flushed more says number w).world ≡ w
unfolding flushed
idle says zero number w none = refl
idle says (suc more) number w none =
    ap (λ (due : Option (ℕ × Party)). (delivering (says number) w due (flushed more says (number + 1))).world) none

deliveries-on : (says : ℕ → Outcome) (before more number : ℕ) (u : World) → (flushed before says number u).refused ≡ None
    → (flushed (plus before more) says number u).world ≡ (flushed more says (number + before) (flushed before says number u).world).world
unfolding flushed
deliveries-on says zero more number u none =
    let same : number ≡ number + 0 = omega arith in ap (λ n. (flushed more says n u).world) same
deliveries-on says (suc before) more number u none = due-or-not (deliveries-on says before more (number + 1)) (next_due u) refl none
  where
    one-more : (number + 1) + before ≡ number + suc before
    one-more = omega arith

    On : Type 0
    On =
        (v : World) → (flushed before says (number + 1) v).refused ≡ None
        → (flushed (plus before more) says (number + 1) v).world ≡ (flushed more says ((number + 1) + before) (flushed before says (number + 1) v).world).world

    by : On → (p : Progress) (cause : Option Cause) → p.refused ≡ cause → (then_if cause p (flushed before says (number + 1))).refused ≡ None
        → (then_if cause p (flushed (plus before more) says (number + 1))).world
        ≡ (flushed more says (number + suc before) (then_if cause p (flushed before says (number + 1))).world).world
    by on p None is free =
        on p.world free
        ∙ ap (λ n. (flushed more says n (flushed before says (number + 1) p.world).world).world) one-more
    by on p (Some cause) is free = let e : ◌≡◌ {A = Option Cause} (Some cause) None = sym is ∙ free in absurd cc

    due-or-not : On → (due : Option (ℕ × Party)) → next_due u ≡ due → (delivering (says number) u due (flushed before says (number + 1))).refused ≡ None
        → (delivering (says number) u due (flushed (plus before more) says (number + 1))).world
        ≡ (flushed more says (number + suc before) (delivering (says number) u due (flushed before says (number + 1))).world).world
    due-or-not on None is free = sym (idle says more (number + suc before) u is)
    due-or-not on (Some due) is free =
        let p = progress_of u (deliver_line (says number) u due.0 due.1) in by on p p.refused refl free

-- ---- what holds where a run goes

-- what follows a `flush` with so many deliveries
with-leads : (before : ℕ) (says : ℕ → Outcome) (w : World) → Leads w (flush_with before says w)
with-leads before says w =
    let p = progress_of w (step (says 0) w (line.Event event.Flush)) in
    if-leads w p.refused p (flushed before says 0) (effect-leads w (step (says 0) w (line.Event event.Flush)) (goes-of-steps.steps (says 0) w (line.Event event.Flush))) (flushed-leads before says 0)

front-holds : (saying : Saying) (checks : List CheckParts) (front : List (List ℕ)) → Holds (run_from saying 1 (first_world checks) front).world
front-holds saying checks front = (from-leads saying 1 (first_world checks) front (first-holds checks)).held

line-holds : (saying : Saying) (checks : List CheckParts) (input : List ℕ) (number : ℕ) (l : Line) (w : World) → ComesTo saying checks input number l w → Holds w
line-holds saying checks input number l w comes = subst Holds comes.is (front-holds saying checks comes.front)

flush-holds : (saying : Saying) (checks : List CheckParts) (input : List ℕ) (number before : ℕ) (w : World) → IsInFlush saying checks input number before w → Holds w
flush-holds saying checks input number before w f =
    subst Holds f.is (with-leads before (saying number) f.from (line-holds saying checks input number (line.Event event.Flush) f.from f.line)).held

-- all that a run keeps holds in each world through which it goes
pub passing-holds : (saying : Saying) (checks : List CheckParts) (input : List ℕ) (w : World) → GoesThrough saying checks input w → Holds w
passing-holds saying checks input w (inl behind) = subst Holds behind.is (front-holds saying checks behind.front)
passing-holds saying checks input w (inr f) = flush-holds saying checks input f.0 f.1.0 w f.1.1

-- a run goes through the world in which it ends
pub passes-end : (saying : Saying) (checks : List CheckParts) (input : List ℕ) → GoesThrough saying checks input (run saying checks input).world
passes-end saying checks input = inl (record { front = lines_of input; rest = []; lines = sym (append-nil (lines_of input)); is = refl })

-- and through each in which it delivers
pub delivers-passing : (saying : Saying) (checks : List CheckParts) (input : List ℕ) (w : World) (message : ℕ) (who : Party) (made : Moved)
    → Delivers saying checks input w message who made → GoesThrough saying checks input w
delivers-passing saying checks input w message who made (inl d) =
    inl (record { front = d.line.front; rest = d.line.text ∷ d.line.rest; lines = d.line.lines; is = d.line.is })
delivers-passing saying checks input w message who made (inr d) = inr (d.number, (d.before, d.flush))

-- ---- to the end

-- the end of a run, from the world in which a line comes
end-is : (saying : Saying) (checks : List CheckParts) (input : List ℕ) (number : ℕ) (l : Line) (w : World) (comes : ComesTo saying checks input number l w)
    → (run saying checks input).world ≡ (run_from saying number w (comes.text ∷ comes.rest)).world
end-is saying checks input number l w comes =
    ap (λ (texts : List (List ℕ)). (run_from saying 1 (first_world checks) texts).world) comes.lines
    ∙ lines-on saying 1 (first_world checks) comes.front (comes.text ∷ comes.rest) comes.none
    ∙ ap (λ n. (run_from saying n (run_from saying 1 (first_world checks) comes.front).world (comes.text ∷ comes.rest)).world) (sym comes.place)
    ∙ ap (λ (v : World). (run_from saying number v (comes.text ∷ comes.rest)).world) comes.is

-- what leads to the world behind a line leads to the end
line-ends : (saying : Saying) (checks : List CheckParts) (input : List ℕ) (number : ℕ) (l : Line) (w u : World) → ComesTo saying checks input number l w
    → Leads u (taken (saying number) w l) → Holds u → Goes u (run saying checks input).world
line-ends saying checks input number l w u comes leads h =
    subst (Goes u) (sym (end-is saying checks input number l w comes))
    (rest-leads saying number w comes.text comes.rest u
    (subst (λ (p : Progress). Leads u p) (sym (line-is (saying number) number w comes.text l comes.few comes.reads)) leads) h)

-- what a step or a delivery makes
made-holds : (w : World) (step_made : Effect) (made : Moved) → step_made ≡ Ok made → IfOk step_made (λ m. Holds w → Goes w m.0) → Holds w → Holds made.0
made-holds w step_made made is goes h =
    let to : Holds w → Goes w made.0 = subst (λ (e : Effect). IfOk e (λ m. Holds w → Goes w m.0)) is goes in (to h).held

by-line : (saying : Saying) (checks : List CheckParts) (input : List ℕ) (w : World) (message : ℕ) (who : Party) (made : Moved)
    → DeliversByLine saying checks input w message who made → Goes made.0 (run saying checks input).world
by-line saying checks input w message who made d =
    let says = saying d.number in
    let l : Line = line.Event (event.Deliver message who) in
    line-ends saying checks input d.number l w made.0 d.line
    (subst (λ (e : Effect). Leads made.0 (then_on (progress_of w e) (deliveries_behind says l))) (sym d.makes) (still made.0))
    (made-holds w (step (says 0) w l) made d.makes (goes-of-steps.steps (says 0) w l) (line-holds saying checks input d.number l w d.line))

-- what the delivery that is due makes leads to the end of the deliveries
due-leads : (says : ℕ → Outcome) (more number before : ℕ) (w : World) (message : ℕ) (who : Party) (made : Moved) → before ≡ number → next_due w ≡ Some (message, who)
    → deliver_line (says before) w message who ≡ Ok made → Leads made.0 (flushed (suc more) says number w)
unfolding flushed
due-leads says more number before w message who made same due makes =
    subst (λ n. Leads made.0 (delivering (says n) w (next_due w) (flushed more says (n + 1)))) same
    (subst (λ (o : Option (ℕ × Party)). Leads made.0 (delivering (says before) w o (flushed more says (before + 1)))) (sym due)
    (subst (λ (e : Effect). Leads made.0 (then_on (progress_of w e) (flushed more says (before + 1)))) (sym makes)
    (flushed-leads more says (before + 1) made.0)))

-- what a delivery in a `flush` makes leads to its end
flush-goes : (says : ℕ → Outcome) (before : ℕ) (w : World) (message : ℕ) (who : Party) (made : Moved) (p : Progress) → before < most_deliveries
    → (then_on p (flushed before says 0)).refused ≡ None → (then_on p (flushed before says 0)).world ≡ w
    → next_due w ≡ Some (message, who) → deliver_line (says before) w message who ≡ Ok made → Leads made.0 (then_on p (flushed most_deliveries says 0))
flush-goes says before w message who made p less none is due makes = by p.refused refl none is
  where
    split : (more : ℕ) × (most_deliveries ≡ plus before (suc more))
    split = split-most before most_deliveries less

    by : (cause : Option Cause) → p.refused ≡ cause → (then_if cause p (flushed before says 0)).refused ≡ None → (then_if cause p (flushed before says 0)).world ≡ w
        → Leads made.0 (then_if cause p (flushed most_deliveries says 0))
    by None at free same h =
        let on : (flushed most_deliveries says 0 p.world).world ≡ (flushed (suc split.0) says (0 + before) w).world =
        ap (λ n. (flushed n says 0 p.world).world) split.1 ∙ deliveries-on says before (suc split.0) 0 p.world free
        ∙ ap (λ (v : World). (flushed (suc split.0) says (0 + before) v).world) same in
        subst (Goes made.0) (sym on) (due-leads says split.0 (0 + before) before w message who made (omega arith) due makes h)
    by (Some cause) at free same h = let e : ◌≡◌ {A = Option Cause} (Some cause) None = sym at ∙ free in absurd cc

in-flush : (saying : Saying) (checks : List CheckParts) (input : List ℕ) (w : World) (message : ℕ) (who : Party) (made : Moved)
    → DeliversInFlush saying checks input w message who made → Goes made.0 (run saying checks input).world
in-flush saying checks input w message who made d =
    let f = d.flush in
    let says = saying d.number in
    line-ends saying checks input d.number (line.Event event.Flush) f.from made.0 f.line
    (flush-goes says d.before w message who made (progress_of f.from (step (says 0) f.from (line.Event event.Flush))) d.more f.none f.is d.due d.makes)
    (made-holds w (deliver_line (says d.before) w message who) made d.makes (deliver-goes (λ w v said. Holds w → Goes w v) goes-of-steps (says d.before) w message who)
    (flush-holds saying checks input d.number d.before w f))

-- what a delivery makes goes on to the end of the run
pub delivered-goes-on : (saying : Saying) (checks : List CheckParts) (input : List ℕ) (w : World) (message : ℕ) (who : Party) (made : Moved)
    → Delivers saying checks input w message who made → Goes made.0 (run saying checks input).world
delivered-goes-on saying checks input w message who made (inl d) = by-line saying checks input w message who made d
delivered-goes-on saying checks input w message who made (inr d) = in-flush saying checks input w message who made d
