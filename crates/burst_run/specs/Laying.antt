-- How a burst is laid out for its workers, and put together again: parties stand apart from their world while workers bring what goes to
-- them, come back to their places, and what they replied is settled.
use Rattle.std.specs.Prelude.{◌≡◌, ℕ, ◌+◌, ◌<◌, Bool, false, true, List, [], ◌∷◌, length, map, slice_set, unwrap_or, is_some, Option, Some, None}
use Rattle.std.specs.List.{position_or_len}
use Rattle.ar_nodes.specs.Acting.{Reply, bytes_of}
use Rattle.ar_nodes.specs.Finding.{honest_in}
use Rattle.ar_nodes.specs.Parties.{AuthorityNode, LogNode}
use Rattle.ar_nodes.specs.declared.event.LogEvent.{LogEvent}
use Rattle.ar_statement.specs.Claims.{authority_party, is_party, log_party}
use Rattle.ar_statement.specs.declared.party.Party.{Party}
use Rattle.ar_statement.specs.declared.party.Role.{Role}
use Rattle.ar_statement.specs.declared.party.Role.TheVariants as role
use Rattle.ar_world.specs.Finding.{message_at}
use Rattle.ar_world.specs.Settling.{settled}
use Rattle.ar_world.specs.State.{Moved, World, printing, silent}
use Rattle.ar_world.specs.declared.parties.Parties.{Parties}
use Rattle.lms_tree.specs.KeyParts.{KeyParts}
use Rattle.node_crowd.specs.declared.errand.Errand.{Errand}
use Rattle.owner_check.specs.declared.answer.Outcome.{Outcome}
use Rattle.owner_check.specs.declared.answer.Outcome.TheVariants.{No}
use Rattle.report_text.specs.declared.happening.Happening.TheVariants.{Order}
use Rattle.station.specs.Station.{StationState, a_log, an_authority}
use Rattle.station.specs.declared.delivery.Delivery.{Delivery}
use Rattle.burst_run.specs.Bursts.{Turn}
use Rattle.burst_run.specs.Stations.{Deliveries}
use Rattle.burst_run.specs.declared.signer.Signer.{Signer}

-- ---- errands

-- what a worker brings for the delivery with this number, of a message
abbrev pub brought_for : World → ℕ → ℕ → Delivery
brought_for w number message = record { j = number; message = message; bytes = bytes_of (message_at w message) }

-- a delivery goes to the place of its party among the stations
abbrev pub errand_for : World → List Party → ℕ → ℕ × Party → Errand Delivery
errand_for w stations number d =
    record { number = number; place = position_or_len (is_party d.1) stations; input = brought_for w number d.0 }

-- deliveries, the first of which has this number
abbrev pub errands_from : World → List Party → ℕ → Deliveries → List (Errand Delivery)
errands_from w stations number [] = []
errands_from w stations number (d ∷ deliveries) = errand_for w stations number d ∷ errands_from w stations (number + 1) deliveries

-- ---- parties that stand apart

-- All logs and authorities, each in its place, while some may be away.
pub record Homes : Type 0 where
  pub logs : List (Option LogNode)
  pub authorities : List (Option AuthorityNode)

-- the places in a program
abbrev pub homes_in : {C : Type 0} → Parties C → Homes
homes_in parties = record { logs = parties.logs.items; authorities = parties.authorities.items }

-- a log or an authority that may stand apart: as a station, with its keys, and with what it did, where it is a log
pub record Away : Type 0 where
  pub party : Party
  pub state : StationState
  pub keys : List KeyParts
  pub taken : List LogEvent

abbrev pub log_alone : ℕ → LogNode → Away
log_alone number node = record { party = log_party number; state = a_log node.core; keys = node.keys; taken = node.taken }

abbrev pub authority_alone : ℕ → AuthorityNode → Away
authority_alone number node = record { party = authority_party number; state = an_authority node.state node.check; keys = node.keys; taken = [] }

-- a party of a role that is honest and in its place stands apart so
abbrev pub StandsIn : Homes → Role → ℕ → Away → Type 0
StandsIn places role.LogServer number apart = (node : LogNode) × (honest_in places.logs number ≡ Some node) × (apart ≡ log_alone number node)
StandsIn places role.Authority number apart =
    (node : AuthorityNode) × (honest_in places.authorities number ≡ Some node) × (apart ≡ authority_alone number node)
StandsIn places role.Owner number apart = ⊥
StandsIn places role.Client number apart = ⊥

abbrev pub StandsSo : Homes → Party → Away → Type 0
StandsSo places who apart = StandsIn places who.role who.number apart

-- a party of a role is honest and in its place
abbrev pub is_in : Homes → Role → ℕ → Bool
is_in places role.LogServer number = is_some (honest_in places.logs number)
is_in places role.Authority number = is_some (honest_in places.authorities number)
is_in places role.Owner number = false
is_in places role.Client number = false

-- the places that a party leaves
abbrev pub left_in : Homes → Role → ℕ → Homes
left_in places role.LogServer number = record places { logs = slice_set places.logs number None }
left_in places role.Authority number = record places { authorities = slice_set places.authorities number None }
left_in places role.Owner number = places
left_in places role.Client number = places

abbrev pub left_by : Homes → Party → Homes
left_by places who = left_in places who.role who.number

abbrev pub left_by_all : Homes → List Party → Homes
left_by_all places [] = places
left_by_all places (who ∷ parties) = left_by_all (left_by places who) parties

-- each of these is in its place when its turn comes to leave it
abbrev pub CanLeave : Homes → List Party → Type 0
CanLeave places [] = Unit {0}
CanLeave places (who ∷ parties) = (is_in places who.role who.number ≡ true) × CanLeave (left_by places who) parties

-- and then it stands apart so
abbrev pub AreAway : Homes → List Party → List Away → Type 0
AreAway places [] all = all ≡ []
AreAway places (who ∷ parties) [] = ⊥
AreAway places (who ∷ parties) (apart ∷ all) = StandsSo places who apart × AreAway (left_by places who) parties all

-- the places to which a party comes back as a station stands then
abbrev pub back_as : Homes → Away → StationState → Homes
back_as places apart (a_log core) =
    record places { logs = slice_set places.logs apart.party.number (Some (record { core = core; keys = apart.keys; taken = apart.taken })) }
back_as places apart (an_authority state check) =
    record places { authorities = slice_set places.authorities apart.party.number (Some (record { state = state; keys = apart.keys; check = check })) }

abbrev pub back_in : Homes → Away → Homes
back_in places apart = back_as places apart apart.state

-- it has such a place
abbrev pub HasPlace : Homes → ℕ → StationState → Type 0
HasPlace places number (a_log core) = number < length places.logs
HasPlace places number (an_authority state check) = number < length places.authorities

abbrev pub all_back_in : Homes → List Away → Homes
all_back_in places [] = places
all_back_in places (apart ∷ parties) = all_back_in (back_in places apart) parties

-- what stays of a party, with a station as it stands
abbrev pub apart_with : Signer → StationState → Away
apart_with signer state = record { party = signer.party; state = state; keys = signer.ring.keys; taken = signer.taken.items }

-- ---- replies that are settled

-- the turn of a call: what a check said is the note
abbrev pub turn_for : Delivery × Option Outcome → Turn
turn_for call = record { number = call.0.j; says = unwrap_or call.1 No }

-- what was brought to a party, in the order in which it took it, and its reply to each
pub record VisitParts : Type 0 where
  pub party : Party
  pub history : List (Delivery × Option Outcome)
  pub replies : List Reply

-- messages that a party replied to so are settled, one after the other
abbrev pub each_settled : World → Party → List (Delivery × Option Outcome) → List Reply → Moved
each_settled w who [] replies = silent w
each_settled w who (call ∷ calls) [] = silent w
each_settled w who (call ∷ calls) (reply ∷ replies) =
    let made = settled w call.0.message who reply
    in printing made.1 (each_settled made.0 who calls replies)

-- the order of each party is printed, and then what happens
abbrev pub visits_settled : World → List VisitParts → Moved
visits_settled w [] = silent w
visits_settled w (v ∷ visits) =
    let made = each_settled w v.party v.history v.replies
    in printing (Order v.party (map (λ call. call.0.j) v.history) ∷ made.1) (visits_settled made.0 visits)
