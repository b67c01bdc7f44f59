-- The deliveries of an open burst can be made in the world as it stands.
use Rattle.std.proofs.Common.{◌≡◌, ℕ, List, [], ◌∷◌, ◌++◌, refl, sym, subst, Option, Some, None, Result, Ok, Err, true}
use Rattle.std.specs.Prelude.{is_some, length, nat_lt}
use Rattle.std.specs.List.{AllByRecursion}
use Rattle.ar_base.specs.Chaining.{◌>>=◌, need}
use Rattle.ar_base.proofs.Lists.{both-lists}
use Rattle.script_play.specs.ar_nodes.Finding.{named}
use Rattle.script_play.specs.ar_nodes.Pool.{Pooled}
use Rattle.script_play.specs.ar_nodes.declared.fault.WorldFault.{WorldFault}
use Rattle.script_play.specs.ar_nodes.declared.fault.WorldFault.TheVariants.{Limit}
use Rattle.ar_statement.specs.declared.party.Party.{Party}
use Rattle.script_play.specs.ar_world.Delivering.{Taker}
use Rattle.script_play.specs.ar_world.Finding.{message_at, room}
use Rattle.script_play.specs.ar_world.State.{World}
use Rattle.burst_run.specs.Bursts.{IsDeliverable, may_join, most_in_burst, station_at}
use Rattle.burst_run.specs.Stations.{Deliveries}
use Rattle.script_text.specs.declared.line.Line.TheVariants as line
use Rattle.crowd_run.specs.Passing.{IsOpenIn}
use Rattle.crowd_run.specs.Scripts.{LineRead, OpenBurst, open_behind}

-- where a message and a party are found, both are there
found_there : (p : Option Pooled) (taker : Option Taker) (rest : Result (Unit {0}) WorldFault) → ((named 1 p) >>= (λ q. (named 2 taker) >>= (λ t. rest))) ≡ Ok tt
    → (is_some p ≡ true) × (is_some taker ≡ true)
found_there None taker rest is = absurd (cc)
found_there (Some p) None rest is = absurd (cc)
found_there (Some p) (Some taker) rest is = (refl, refl)

-- one more that may join
pub joined_ready : (w : World) (deliveries : Deliveries) (message : ℕ) (who : Party) → may_join w deliveries message who ≡ Ok tt → AllByRecursion (IsDeliverable w) deliveries
    → AllByRecursion (IsDeliverable w) (deliveries ++ (message, who) ∷ [])
joined_ready w deliveries message who may ready =
    let room_left : Result (Unit {0}) WorldFault = (room w) >>= (λ free. need (nat_lt (length deliveries) most_in_burst) Limit) in
    both-lists (IsDeliverable w) deliveries ((message, who) ∷ []) ready (found_there (message_at w message) (station_at w who) room_left may, tt)

-- a burst that a line opens has none
pub opened_ready : (w : World) (burst : OpenBurst) (read : LineRead) → burst ≡ open_behind None read → IsOpenIn w burst
opened_ready w burst read is = subst (λ (b : OpenBurst). IsOpenIn w b) (sym is) (by read)
  where
    by : (read : LineRead) → IsOpenIn w (open_behind None read)
    by (Ok (Some line.Burst)) = tt
    by (Ok (Some _)) = tt
    by (Ok None) = tt
    by (Err why) = tt
