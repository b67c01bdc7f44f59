-- There is a way for each line, whatever comes.
use Rattle.std.proofs.Common.{ℕ, ◌+◌, ◌<◌, List, [], ◌∷◌, Some, None, Ok, Err}
use Rattle.ar_lines.specs.Lines.{lines_of}
use Rattle.script_play.specs.ar_nodes.Parties.{CheckParts}
use Rattle.script_play.specs.ar_world.State.{World, first_world}
use Rattle.burst_run.proofs.SomeOrders.{some_orders}
use Rattle.burst_run.specs.Stations.{Deliveries}
use Rattle.owner_check.specs.declared.answer.Outcome.TheVariants.{Failed}
use Rattle.script_play.specs.Playing.{line_read}
use Rattle.script_text.specs.declared.line.Line.{Line}
use Rattle.script_text.specs.declared.line.Line.TheVariants as line
use Rattle.crowd_run.specs.Scripts.{InputWays, OpenBurst, LineRead, Way, AllWays, open_behind, passed_so}

line_way : (workers : ℕ) → 0 < workers → (deliveries : Deliveries) (l : Line) → Way workers (Some deliveries) (Ok (Some l))
line_way workers some deliveries (line.Setup l) = record { says = λ _. Failed; orders = []; ordered = tt }
line_way workers some deliveries (line.Event l) = record { says = λ _. Failed; orders = []; ordered = tt }
line_way workers some deliveries line.Burst = record { says = λ _. Failed; orders = []; ordered = tt }
line_way workers some deliveries line.End =
    let all = some_orders workers some deliveries in
    record { says = λ _. Failed; orders = all.0; ordered = all.1 }

pub some_way : (workers : ℕ) → 0 < workers → (burst : OpenBurst) (read : LineRead) → Way workers burst read
some_way workers some None read = record { says = λ _. Failed; orders = []; ordered = tt }
some_way workers some (Some deliveries) (Ok (Some l)) = line_way workers some deliveries l
some_way workers some (Some deliveries) (Ok None) = record { says = λ _. Failed; orders = []; ordered = tt }
some_way workers some (Some deliveries) (Err why) = record { says = λ _. Failed; orders = []; ordered = tt }

pub some_ways : (workers : ℕ) → 0 < workers → (number : ℕ) (w : World) (burst : OpenBurst) (texts : List (List ℕ)) → AllWays workers number w burst texts
some_ways workers some number w burst [] = tt
some_ways workers some number w burst (text ∷ texts) =
    let read = line_read number text in
    let way = some_way workers some burst read in
    (way, some_ways workers some (number + 1) (passed_so workers w burst read way).world (open_behind burst read) texts)

pub some_input : (workers : ℕ) → 0 < workers → (checks : List CheckParts) (input : List ℕ) → InputWays workers checks input
some_input workers some checks input = some_ways workers some 1 (first_world checks) None (lines_of input)
