-- What holds of each step and of each delivery holds of a script with bursts: so it is safe.
use Rattle.std.proofs.Common.{◌≡◌, ℕ, ◌+◌, List, [], ◌∷◌, refl, subst, Option, Some, None, Result, Ok, Err, IfOk}
use Rattle.std.specs.Prelude.{slice_get}
use Rattle.ar_lines.specs.Lines.{lines_of}
use Rattle.script_play.specs.ar_nodes.Parties.{CheckParts}
use Rattle.script_play.specs.ar_nodes.Pool.{Pooled}
use Rattle.script_play.specs.ar_nodes.declared.fault.WorldFault.{WorldFault}
use Rattle.ar_statement.specs.declared.party.Party.{Party}
use Rattle.ar_statement.specs.declared.party.Role.{Role}
use Rattle.ar_statement.specs.declared.party.Role.TheVariants as role
use Rattle.script_play.specs.ar_world.Delivering.{Taker, delivery, taker_at, taker_in}
use Rattle.script_play.specs.ar_world.Finding.{Effect, message_at}
use Rattle.script_play.specs.ar_world.Run.{Progress, Run, at_line, progress_of, taken_as, then_if}
use Rattle.script_play.specs.ar_world.State.{Moved, World, first_world, printing}
use Rattle.script_play.specs.ar_world.Step.{step}
use Rattle.run_safety.proofs.ar_world.Runs.{Goes, HoldsOfSteps, line-goes}
use Rattle.owner_check.specs.declared.answer.Outcome.{Outcome}
use Rattle.report_text.specs.declared.happening.Happening.{Happening}
use Rattle.report_text.specs.declared.happening.Happening.TheVariants.{Order}
use Rattle.script_play.specs.Playing.{line_read}
use Rattle.script_play.proofs.Taking.{taken-as-read}
use Rattle.script_play.specs.ar_world.declared.cause.Cause.{Cause}
use Rattle.script_text.specs.declared.line.EventLine.TheVariants as event
use Rattle.script_text.specs.declared.line.Line.{Line}
use Rattle.script_text.specs.declared.line.Line.TheVariants as line
use Rattle.burst_run.specs.Bursts.{Sequence, Turn, delivery_if, burst_made, may_join, turn_numbers, station_at, station_in, turn_taken, turns_taken}
use Rattle.burst_run.specs.Stations.{Deliveries}
use Rattle.run_safety.specs.Headline.{IsSafeRun}
use Rattle.run_safety.proofs.Lasting as lasting
use Rattle.run_safety.proofs.Lasting.{Holds, first-holds, goes-of-steps}
use Rattle.run_safety.proofs.Parts.{Keeps, part_of, still}
use Rattle.run_safety.proofs.Runs.{keeps-of-steps}
use Rattle.run_safety.proofs.Safe.{safe-of}
use Rattle.crowd_run.specs.Scripts.{InputWays, OpenBurst, LineRead, Way, AllWays, crowd_from, crowd_with, script_end, joins_burst, open_behind, passed_inside, passed_outside, passed_so, read_inside}

-- it holds of a line that tells an order, which nothing else does
abbrev pub HoldsOfOrders : (World → World → List Happening → Type 0) → Type 0
HoldsOfOrders R = (w : World) (who : Party) (order : List ℕ) → R w w (Order who order ∷ [])

module _ (R : World → World → List Happening → Type 0) (holds : HoldsOfSteps R) (orders : HoldsOfOrders R) where
  -- it holds of what something made
  abbrev Moves : World → Moved → Type 0
  Moves w made = R w made.0 made.1

  -- one thing behind another
  printing_moves : (w : World) (said : List Happening) (v : World) (made : Moved) → R w v said → Moves v made → Moves w (printing said made)
  printing_moves w said v made first later = holds.both w v made.0 said made.1 first later

  -- ---- a burst

  -- who takes deliveries in a burst takes deliveries
  station_takes : (w : World) (who : Party) (taker : Taker) → station_at w who ≡ Some taker → taker_at w who ≡ Some taker
  station_takes w who taker is = by who.role who.number is
    where
      by : (r : Role) (number : ℕ) → station_in w r number ≡ Some taker → taker_in w r number ≡ Some taker
      by role.LogServer number is = is
      by role.Authority number is = is
      by role.Owner number is = absurd cc
      by role.Client number is = absurd cc

  brought_moves : (says : Outcome) (w : World) (message : ℕ) (who : Party) (p : Option Pooled) (taker : Option Taker) → message_at w message ≡ p → station_at w who ≡ taker
      → Moves w (delivery_if says w message who.number p taker)
  brought_moves says w message who None taker is stands = holds.still w
  brought_moves says w message who (Some p) None is stands = holds.still w
  brought_moves says w message who (Some p) (Some taker) is stands = holds.delivers says w message p who taker is (station_takes w who taker stands)

  turn_moves : (w : World) (who : Party) (says : Outcome) (d : Option (ℕ × Party)) → Moves w (turn_taken w who says d)
  turn_moves w who says None = holds.still w
  turn_moves w who says (Some d) = brought_moves says w d.0 who (message_at w d.0) (station_at w who) refl refl

  turns_move : (deliveries : Deliveries) (who : Party) (w : World) (turns : List Turn) → Moves w (turns_taken deliveries who w turns)
  turns_move deliveries who w [] = holds.still w
  turns_move deliveries who w (turn ∷ turns) =
      let made = turn_taken w who turn.says (slice_get deliveries turn.number) in
      printing_moves w made.1 made.0 (turns_taken deliveries who made.0 turns) (turn_moves w who turn.says (slice_get deliveries turn.number)) (turns_move deliveries who made.0 turns)

  burst_moves : (deliveries : Deliveries) (w : World) (all : List Sequence) → Moves w (burst_made deliveries w all)
  burst_moves deliveries w [] = holds.still w
  burst_moves deliveries w (o ∷ all) =
      let made = turns_taken deliveries o.party w o.turns in
      let first = holds.both w w made.0 (Order o.party (turn_numbers o.turns) ∷ []) made.1 (orders w o.party (turn_numbers o.turns)) (turns_move deliveries o.party w o.turns) in
      printing_moves w (Order o.party (turn_numbers o.turns) ∷ made.1) made.0 (burst_made deliveries made.0 all) first (burst_moves deliveries made.0 all)

  -- ---- a line

  joined_goes : (w : World) (may : Result (Unit {0}) WorldFault) → Goes R w (progress_of w (joins_burst w may))
  joined_goes w (Ok free) = holds.still w
  joined_goes w (Err why) = holds.still w

  inside_goes : (all : List Sequence) (w : World) (deliveries : Deliveries) (l : Line) → Goes R w (passed_inside all w deliveries l)
  inside_goes all w deliveries (line.Event (event.Deliver message party)) = joined_goes w (may_join w deliveries message party)
  inside_goes all w deliveries line.End = burst_moves deliveries w all
  inside_goes all w deliveries _ = holds.still w

  read_goes : (all : List Sequence) (w : World) (deliveries : Deliveries) (read : LineRead) → Goes R w (read_inside all w deliveries read)
  read_goes all w deliveries (Ok (Some l)) = inside_goes all w deliveries l
  read_goes all w deliveries (Ok None) = holds.still w
  read_goes all w deliveries (Err why) = holds.still w

  effect_goes : (w : World) (made : Effect) → IfOk made (λ made. R w made.0 made.1) → Goes R w (progress_of w made)
  effect_goes w (Ok m) made = made
  effect_goes w (Err why) made = holds.still w

  outside_goes : (says : ℕ → Outcome) (w : World) (read : LineRead) → Goes R w (taken_as says w read) → Goes R w (passed_outside says w read)
  outside_goes says w (Ok (Some line.Burst)) plain = effect_goes w (step (says 0) w (line.Event event.Flush)) (holds.steps (says 0) w (line.Event event.Flush))
  outside_goes says w (Ok (Some (line.Setup l))) plain = plain
  outside_goes says w (Ok (Some (line.Event l))) plain = plain
  outside_goes says w (Ok (Some line.End)) plain = plain
  outside_goes says w (Ok None) plain = plain
  outside_goes says w (Err why) plain = plain

  passed_goes : (workers number : ℕ) (w : World) (burst : OpenBurst) (text : List ℕ) (way : Way workers burst (line_read number text))
      → Goes R w (passed_so workers w burst (line_read number text) way)
  passed_goes workers number w None text way =
      outside_goes way.says w (line_read number text) (subst (λ (p : Progress). Goes R w p) (taken-as-read way.says number w text) (line-goes R holds way.says number w text))
  passed_goes workers number w (Some deliveries) text way = read_goes way.orders w deliveries (line_read number text)

  -- ---- a script

  ended_goes : (number : ℕ) (w : World) (burst : OpenBurst) → Goes R w (script_end number w burst)
  ended_goes number w None = holds.still w
  ended_goes number w (Some deliveries) = holds.still w

  rest_goes : (w : World) (cause : Option (ℕ × Cause)) (p rest : Run) → Goes R w p → Goes R p.world rest → Goes R w (then_if cause p (λ later. rest))
  rest_goes w None p rest first later = holds.both w p.world rest.world p.said rest.said first later
  rest_goes w (Some cause) p rest first later = first

  from_goes : (workers number : ℕ) (w : World) (burst : OpenBurst) (texts : List (List ℕ)) (ways : AllWays workers number w burst texts) → Goes R w (crowd_from workers number w burst texts ways)
  unfolding crowd_from
  from_goes workers number w burst [] ways = ended_goes number w burst
  from_goes workers number w burst (text ∷ texts) ways =
      let read = line_read number text in
      let made = passed_so workers w burst read ways.0 in
      let rest = crowd_from workers (number + 1) made.world (open_behind burst read) texts ways.1 in
      rest_goes w (at_line number made).refused (at_line number made) rest (passed_goes workers number w burst text ways.0)
      (from_goes workers (number + 1) made.world (open_behind burst read) texts ways.1)

  pub crowd_holds : (workers : ℕ) (checks : List CheckParts) (input : List ℕ) (ways : InputWays workers checks input)
      → R (first_world checks) (crowd_with workers checks input ways).world (crowd_with workers checks input ways).said
  crowd_holds workers checks input ways = from_goes workers 1 (first_world checks) None (lines_of input) ways

-- ---- safety

pub crowd_safe : (workers : ℕ) (checks : List CheckParts) (input : List ℕ) (ways : InputWays workers checks input) → IsSafeRun (crowd_with workers checks input ways)
crowd_safe workers checks input ways =
    safe-of checks (crowd_with workers checks input ways)
    (crowd_holds (λ w v said. Keeps (part_of w) (part_of v) said) keeps-of-steps (λ w who order. (still (part_of w) (part_of w) (Order who order ∷ []) refl refl).keeps) workers checks input ways)
    (crowd_holds (λ w v said. Holds w → lasting.Goes w v) goes-of-steps (λ w who order. goes-of-steps.still w) workers checks input ways (first-holds checks))
