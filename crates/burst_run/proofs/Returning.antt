-- Parties that left their places come back to them: each has its place, and what the places are then does not show that they left.
use Rattle.std.proofs.Common.{◌≡◌, ◌≢◌, ◌∙◌, ℕ, suc, ◌<◌, List, [], ◌∷◌, length, Option, Some, None, refl, sym, ap, subst}
use Rattle.std.specs.Prelude.{slice_get, slice_set}
use Rattle.std.specs.List.{AllByRecursion}
use Rattle.std.proofs.lemmas.List.{length-set, set-set, set_comm}
use Rattle.ar_nodes.specs.Parties.{AuthorityNode, LogNode}
use Rattle.ar_nodes.proofs.Spots.{honest-below}
use Rattle.ar_statement.specs.Claims.{authority_party, log_party, party}
use Rattle.ar_statement.specs.declared.party.Party.{Party}
use Rattle.ar_statement.specs.declared.party.Role.{Role}
use Rattle.ar_statement.specs.declared.party.Role.TheVariants as role
use Rattle.ar_world.specs.State.{World}
use Rattle.node_crowd.specs.Along.{Abreast}
use Rattle.station.specs.Station.{StationState, a_log, an_authority}
use Rattle.burst_run.specs.Laying.{AreAway, Away, HasPlace, Homes, StandsIn, StandsSo, VisitParts, all_back_in, back_as, back_in, left_by, left_by_all, left_in}
use Rattle.burst_run.specs.Stations.{Deliveries}
use Rattle.burst_run.specs.Visiting.{IsVisit, stand_now}
use Rattle.burst_run.proofs.Dealt.{IsOnceEach}
use Rattle.burst_run.proofs.Visits.{IsAuthoritys, IsLogs, authority_before, back_left, left_before, log_before}

-- ---- as many places as before

pub record AsMany (old new : Homes) : Type 0 where
  pub logs : length new.logs ≡ length old.logs
  pub authorities : length new.authorities ≡ length old.authorities

pub as_many : (places : Homes) → AsMany places places
as_many places = record { logs = refl; authorities = refl }

pub as_many_on : (one two three : Homes) → AsMany one two → AsMany two three → AsMany one three
as_many_on one two three first second = record { logs = second.logs ∙ first.logs; authorities = second.authorities ∙ first.authorities }

many_left : (places : Homes) (r : Role) (n : ℕ) → AsMany places (left_in places r n)
many_left places role.LogServer n = record { logs = length-set places.logs n None; authorities = refl }
many_left places role.Authority n = record { logs = refl; authorities = length-set places.authorities n None }
many_left places role.Owner n = as_many places
many_left places role.Client n = as_many places

pub many_left_all : (places : Homes) (stations : List Party) → AsMany places (left_by_all places stations)
many_left_all places [] = as_many places
many_left_all places (who ∷ stations) =
    as_many_on places (left_by places who) (left_by_all (left_by places who) stations) (many_left places who.role who.number) (many_left_all (left_by places who) stations)

many_as : (places : Homes) (apart : Away) (now : StationState) → AsMany places (back_as places apart now)
many_as places apart (a_log core) = record { logs = length-set places.logs apart.party.number (Some (record { core = core; keys = apart.keys; taken = apart.taken })); authorities = refl }
many_as places apart (an_authority state check) =
    record { logs = refl; authorities = length-set places.authorities apart.party.number (Some (record { state = state; keys = apart.keys; check = check })) }

pub many_back : (places : Homes) (apart : Away) → AsMany places (back_in places apart)
many_back places apart = many_as places apart apart.state

pub many_back_all : (places : Homes) (all : List Away) → AsMany places (all_back_in places all)
many_back_all places [] = as_many places
many_back_all places (apart ∷ all) =
    as_many_on places (back_in places apart) (all_back_in (back_in places apart) all) (many_back places apart) (many_back_all (back_in places apart) all)

pub place_kept : (old new : Homes) (number : ℕ) (state : StationState) → AsMany old new → HasPlace old number state → HasPlace new number state
place_kept old new number (a_log core) many place = subst (λ k. number < k) (sym many.logs) place
place_kept old new number (an_authority state check) many place = subst (λ k. number < k) (sym many.authorities) place

-- ---- each has its place

-- a station is of the kind that it was of
pub record SameKind (now state : StationState) : Type 0 where
  pub logs : IsLogs now → IsLogs state
  pub authorities : IsAuthoritys now → IsAuthoritys state

pub visited_kind : (w : World) (workers : ℕ) (deliveries : Deliveries) (apart : Away) (now : StationState) (visit : VisitParts) → IsVisit w workers deliveries apart now visit
    → SameKind now apart.state
visited_kind w workers deliveries apart now visit is = record {
  logs = log_before apart.state visit.history now is.replays.state;
  authorities = authority_before apart.state visit.history now is.replays.state;
}

pub own_place : (places : Homes) (r : Role) (n : ℕ) (apart : Away) (now : StationState) → StandsIn places r n apart → SameKind now apart.state → HasPlace places apart.party.number now
own_place places role.LogServer n apart (a_log core) stands kind =
    subst (λ (a : Away). a.party.number < length places.logs) (sym stands.2) (honest-below places.logs n stands.0 stands.1)
own_place places role.LogServer n apart (an_authority state check) stands kind = absurd (subst (λ (a : Away). IsAuthoritys a.state) stands.2 (kind.authorities tt))
own_place places role.Authority n apart (an_authority state check) stands kind =
    subst (λ (a : Away). a.party.number < length places.authorities) (sym stands.2) (honest-below places.authorities n stands.0 stands.1)
own_place places role.Authority n apart (a_log core) stands kind = absurd (subst (λ (a : Away). IsLogs a.state) stands.2 (kind.logs tt))
own_place places role.Owner n apart now stands kind = absurd stands
own_place places role.Client n apart now stands kind = absurd stands

-- parties that have places, as their stations stand
abbrev pub HavePlaces : Homes → List Away → Type 0
HavePlaces places all = AllByRecursion (λ apart. HasPlace places apart.party.number apart.state) all

pub places_kept : (old new : Homes) (all : List Away) → AsMany old new → HavePlaces old all → HavePlaces new all
places_kept old new [] many have = tt
places_kept old new (apart ∷ all) many have = (place_kept old new apart.party.number apart.state many have.0, places_kept old new all many have.1)

pub all_placed : (w : World) (workers : ℕ) (deliveries : Deliveries) (places : Homes) (stations : List Party) (all : List Away) (now : List StationState) (visits : List VisitParts)
    → AreAway places stations all → Abreast (IsVisit w workers deliveries) all now visits → HavePlaces places (stand_now all now)
all_placed w workers deliveries places stations [] now visits stand each = tt
all_placed w workers deliveries places stations (a ∷ all) [] visits stand each = tt
all_placed w workers deliveries places [] (a ∷ all) (s ∷ now) visits stand each = absurd cc
all_placed w workers deliveries places (who ∷ stations) (a ∷ all) (s ∷ now) [] stand each = absurd each
all_placed w workers deliveries places (who ∷ stations) (a ∷ all) (s ∷ now) (visit ∷ visits) stand each = (
  own_place places who.role who.number a s stand.0 (visited_kind w workers deliveries a s visit each.0),
  places_kept (left_by places who) places (stand_now all now)
      (let many = many_left places who.role who.number in record { logs = sym many.logs; authorities = sym many.authorities })
      (all_placed w workers deliveries (left_by places who) stations all now visits stand.1 each.1),
)

-- ---- that one left is not seen when it is back

-- a station that comes back to the place with this number comes not to that of another party
abbrev pub NotThere : StationState → ℕ → Role → ℕ → Type 0
NotThere (a_log core) number role.LogServer k = number ≢ k
NotThere (a_log core) number role.Authority k = Unit {0}
NotThere (a_log core) number role.Owner k = Unit {0}
NotThere (a_log core) number role.Client k = Unit {0}
NotThere (an_authority state check) number role.LogServer k = Unit {0}
NotThere (an_authority state check) number role.Authority k = number ≢ k
NotThere (an_authority state check) number role.Owner k = Unit {0}
NotThere (an_authority state check) number role.Client k = Unit {0}

-- one comes back and another leaves, in either order
back_beside : (places : Homes) (r : Role) (k : ℕ) (apart : Away) (now : StationState) → NotThere now apart.party.number r k
    → back_as (left_in places r k) apart now ≡ left_in (back_as places apart now) r k
back_beside places role.LogServer k apart (a_log core) other =
    ap (λ (ls : List (Option LogNode)). record places { logs = ls })
    (set_comm places.logs k apart.party.number None (Some (record { core = core; keys = apart.keys; taken = apart.taken })) (λ same. other (sym same)))
back_beside places role.Authority k apart (a_log core) other = refl
back_beside places role.Owner k apart (a_log core) other = refl
back_beside places role.Client k apart (a_log core) other = refl
back_beside places role.LogServer k apart (an_authority state check) other = refl
back_beside places role.Authority k apart (an_authority state check) other =
    ap (λ (l : List (Option AuthorityNode)). record places { authorities = l })
    (set_comm places.authorities k apart.party.number None (Some (record { state = state; keys = apart.keys; check = check })) (λ same. other (sym same)))
back_beside places role.Owner k apart (an_authority state check) other = refl
back_beside places role.Client k apart (an_authority state check) other = refl

-- several leave
abbrev pub NoneThere : StationState → ℕ → List Party → Type 0
NoneThere now number stations = AllByRecursion (λ s. NotThere now number s.role s.number) stations

back_behind : (places : Homes) (stations : List Party) (apart : Away) (now : StationState) → NoneThere now apart.party.number stations
    → back_as (left_by_all places stations) apart now ≡ left_by_all (back_as places apart now) stations
back_behind places [] apart now none = refl
back_behind places (s ∷ stations) apart now none =
    back_behind (left_by places s) stations apart now none.1 ∙ ap (λ (p : Homes). left_by_all p stations) (back_beside places s.role s.number apart now none.0)

-- it comes back to its own place
back_own : (places : Homes) (r : Role) (n : ℕ) (apart : Away) (now : StationState) → StandsIn places r n apart → SameKind now apart.state
    → back_in (left_in places r n) (record apart { state = now }) ≡ back_in places (record apart { state = now })
back_own places role.LogServer n apart (a_log core) stands kind =
    let own : apart.party.number ≡ n = ap (λ (a : Away). a.party.number) stands.2 in
    let node : LogNode = record { core = core; keys = apart.keys; taken = apart.taken } in
    subst (λ m. record places { logs = slice_set (slice_set places.logs n None) m (Some node) } ≡ record places { logs = slice_set places.logs m (Some node) })
    (sym own) (ap (λ (ls : List (Option LogNode)). record places { logs = ls }) (set-set places.logs n None (Some node)))
back_own places role.LogServer n apart (an_authority state check) stands kind = absurd (subst (λ (a : Away). IsAuthoritys a.state) stands.2 (kind.authorities tt))
back_own places role.Authority n apart (an_authority state check) stands kind =
    let own : apart.party.number ≡ n = ap (λ (a : Away). a.party.number) stands.2 in
    let node : AuthorityNode = record { state = state; keys = apart.keys; check = check } in
    subst (λ m. record places { authorities = slice_set (slice_set places.authorities n None) m (Some node) } ≡ record places { authorities = slice_set places.authorities m (Some node) })
    (sym own) (ap (λ (l : List (Option AuthorityNode)). record places { authorities = l }) (set-set places.authorities n None (Some node)))
back_own places role.Authority n apart (a_log core) stands kind = absurd (subst (λ (a : Away). IsLogs a.state) stands.2 (kind.logs tt))
back_own places role.Owner n apart now stands kind = absurd stands
back_own places role.Client n apart now stands kind = absurd stands

other_there : (places : Homes) (r : Role) (n : ℕ) (apart : Away) (now : StationState) (s : Role) (k : ℕ) → StandsIn places r n apart → SameKind now apart.state → (party s k ≡ party r n → ⊥)
    → NotThere now apart.party.number s k
other_there places role.LogServer n apart (a_log core) role.LogServer k stands kind other =
    let own : apart.party.number ≡ n = ap (λ (a : Away). a.party.number) stands.2 in
    λ same. other (ap log_party (sym same ∙ own))
other_there places role.Authority n apart (a_log core) role.LogServer k stands kind other = absurd (subst (λ (a : Away). IsLogs a.state) stands.2 (kind.logs tt))
other_there places role.Owner n apart (a_log core) role.LogServer k stands kind other = absurd stands
other_there places role.Client n apart (a_log core) role.LogServer k stands kind other = absurd stands
other_there places r n apart (a_log core) role.Authority k stands kind other = tt
other_there places r n apart (a_log core) role.Owner k stands kind other = tt
other_there places r n apart (a_log core) role.Client k stands kind other = tt
other_there places role.Authority n apart (an_authority state check) role.Authority k stands kind other =
    let own : apart.party.number ≡ n = ap (λ (a : Away). a.party.number) stands.2 in
    λ same. other (ap authority_party (sym same ∙ own))
other_there places role.LogServer n apart (an_authority state check) role.Authority k stands kind other = absurd (subst (λ (a : Away). IsAuthoritys a.state) stands.2 (kind.authorities tt))
other_there places role.Owner n apart (an_authority state check) role.Authority k stands kind other = absurd stands
other_there places role.Client n apart (an_authority state check) role.Authority k stands kind other = absurd stands
other_there places r n apart (an_authority state check) role.LogServer k stands kind other = tt
other_there places r n apart (an_authority state check) role.Owner k stands kind other = tt
other_there places r n apart (an_authority state check) role.Client k stands kind other = tt

none_there : (places : Homes) (who : Party) (apart : Away) (now : StationState) (stations : List Party) → StandsSo places who apart → SameKind now apart.state
    → ((j : ℕ) → slice_get stations j ≡ Some who → ⊥) → NoneThere now apart.party.number stations
none_there places who apart now [] stands kind once = tt
none_there places who apart now (s ∷ stations) stands kind once = (
  other_there places who.role who.number apart now s.role s.number stands kind (λ same. once 0 (ap Some same)),
  none_there places who apart now stations stands kind (λ j is. once (suc j) is),
)

-- the places to which all are back are those to which they would be back if none had left
pub back_again : (w : World) (workers : ℕ) (deliveries : Deliveries) (places : Homes) (stations : List Party) (all : List Away) (now : List StationState) (visits : List VisitParts)
    → IsOnceEach stations → AreAway places stations all → Abreast (IsVisit w workers deliveries) all now visits
    → all_back_in (left_by_all places stations) (stand_now all now) ≡ all_back_in places (stand_now all now)
back_again w workers deliveries places [] [] now visits once stand each = refl
back_again w workers deliveries places [] (a ∷ all) now visits once stand each = absurd cc
back_again w workers deliveries places (who ∷ stations) [] now visits once stand each = absurd stand
back_again w workers deliveries places (who ∷ stations) (a ∷ all) [] visits once stand each = absurd each
back_again w workers deliveries places (who ∷ stations) (a ∷ all) (s ∷ now) [] once stand each = absurd each
back_again w workers deliveries places (who ∷ stations) (a ∷ all) (s ∷ now) (visit ∷ visits) once stand each =
    let kind = visited_kind w workers deliveries a s visit each.0 in
    let now_so : Away = record a { state = s } in
    let next : Homes = back_in places now_so in
    let behind : back_in (left_by_all (left_by places who) stations) now_so ≡ left_by_all next stations =
    back_behind (left_by places who) stations now_so s (none_there places who a s stations stand.0 kind once.0)
    ∙ ap (λ (p : Homes). left_by_all p stations) (back_own places who.role who.number a s stand.0 kind) in
    let left : left_by next who ≡ left_by places who = back_left places who.role who.number a s stand.0 kind.logs kind.authorities in
    let later : AreAway next stations all = left_before next who stations all (subst (λ (p : Homes). AreAway p stations all) (sym left) stand.1) in
    ap (λ (p : Homes). all_back_in p (stand_now all now)) behind
    ∙ back_again w workers deliveries next stations all now visits once.1 later each.1
