-- The visits of several parties: what they replied makes of the world, in which all stand as they do behind their visits, what the
-- deliveries make of it in the orders in which the parties took them.
use Rattle.std.proofs.Common.{◌≡◌, ◌≢◌, ◌∙◌, ℕ, zero, suc, List, [], ◌∷◌, map, Option, Some, None, Ok, Err, refl, sym, ap, subst}
use Rattle.std.specs.Prelude.{slice_get, slice_set, unwrap_or}
use Rattle.std.proofs.lemmas.List.{set-set, set_comm}
use mathlib.Core.Logic.{dite}
use native.Mathlib.Decide.{ℕ_discrete}
use Rattle.ar_nodes.specs.Acting.{Reply, logs_behind, logs_with, settled_in, with_taken}
use Rattle.ar_message.specs.Messages.{message_in}
use Rattle.ar_nodes.specs.Authorities.{authority_reply, check_after}
use Rattle.ar_nodes.specs.Finding.{honest_in}
use Rattle.ar_nodes.specs.Parties.{AuthorityNode, CheckParts, LogNode}
use Rattle.ar_nodes.proofs.Spots.{put-beside}
use Rattle.ar_statement.specs.Claims.{authority_party, log_party}
use Rattle.ar_statement.specs.declared.party.Party.{Party}
use Rattle.ar_statement.specs.declared.party.Role.{Role}
use Rattle.ar_statement.specs.declared.party.Role.TheVariants as role
use Rattle.ar_nodes.specs.Pool.{Pooled}
use Rattle.ar_world.specs.Delivering.{Taker, delivery}
use Rattle.ar_world.specs.Finding.{message_at}
use Rattle.ar_world.specs.Settling.{settled, with_parties}
use Rattle.ar_world.proofs.Lines.{delivery-tells}
use Rattle.node_crowd.specs.Along.{Abreast}
use Rattle.ar_world.specs.State.{Moved, World, printing}
use Rattle.authority_core.specs.State as authority
use Rattle.log_core.specs.Row.{row}
use Rattle.log_core.specs.State as log
use Rattle.node_core.specs.History.{state_after}
use Rattle.owner_check.specs.declared.answer.Outcome.{Outcome}
use Rattle.owner_check.specs.declared.answer.Outcome.TheVariants.{No}
use Rattle.report_text.specs.declared.happening.Happening.TheVariants.{Order}
use Rattle.station.specs.Station.{StationState, a_log, an_authority, authority_replied, log_replied, replied_at}
use Rattle.station.specs.declared.delivery.Delivery.{Delivery}
use Rattle.burst_run.specs.Bursts.{Turn, delivery_if, burst_made, turn_numbers, station_at, turn_taken, turns_taken}
use Rattle.burst_run.specs.Laying.{Away, Homes, AreAway, StandsIn, StandsSo, VisitParts, all_back_in, authority_alone, back_in, each_settled, left_by, left_in, log_alone, turn_for, visits_settled}
use Rattle.burst_run.specs.Stations.{Deliveries}
use Rattle.burst_run.specs.Visiting.{IsVisit, orders_of, stand_now}
use Rattle.burst_run.proofs.Turns.{HasAll, authority_turns, has_itself, has_on, has_told, log_turns}

-- the places of a world, and a world with others
abbrev pub places_of : World → Homes
places_of w = record { logs = w.logs; authorities = w.authorities }

abbrev pub with_homes : World → Homes → World
with_homes w places = with_parties w places.logs places.authorities

-- ---- a reply that is settled beside a party that is put into its place

-- somebody else's delivery is settled, so that this party's place is not looked at
abbrev pub IsBeside : Party → ℕ → StationState → Type 0
IsBeside who number (a_log core) = who.role ≡ role.LogServer → who.number ≢ number
IsBeside who number (an_authority state check) = Unit {0}

-- where a log that is put beside stands, what another notes is noted all the same
noted_beside : (logs : List (Option LogNode)) (message k n : ℕ) (x : Option LogNode) (o : Option LogNode) → k ≢ n → honest_in logs k ≡ o
    → logs_with (slice_set logs n x) message k (honest_in (slice_set logs n x) k) ≡ slice_set (logs_with logs message k o) n x
noted_beside logs message k n x None other is =
    ap (logs_with (slice_set logs n x) message k) (put-beside logs n k x other ∙ is)
noted_beside logs message k n x (Some node) other is =
    ap (logs_with (slice_set logs n x) message k) (put-beside logs n k x other ∙ is)
    ∙ set_comm logs n k x (Some (with_taken message node)) (λ same. other (sym same))

logs_beside : (logs : List (Option LogNode)) (message : ℕ) (r : Role) (k n : ℕ) (x : Option LogNode) (reply : Reply) → (r ≡ role.LogServer → k ≢ n)
    → logs_behind (slice_set logs n x) message (record { role = r; number = k }) reply ≡ slice_set (logs_behind logs message (record { role = r; number = k }) reply) n x
logs_beside logs message role.LogServer k n x (Ok sent) other = noted_beside logs message k n x (honest_in logs k) (other refl) refl
logs_beside logs message role.Authority k n x (Ok sent) other = refl
logs_beside logs message role.Owner k n x (Ok sent) other = refl
logs_beside logs message role.Client k n x (Ok sent) other = refl
logs_beside logs message r k n x (Err code) other = refl

settled_beside : (w : World) (message : ℕ) (who : Party) (reply : Reply) (apart : Away) (state : StationState) → IsBeside who apart.party.number state
    → settled (with_homes w (back_in (places_of w) (record apart { state = state }))) message who reply
    ≡ (with_homes (settled w message who reply).0 (back_in (places_of (settled w message who reply).0) (record apart { state = state })), (settled w message who reply).1)
settled_beside w message who reply apart (a_log core) other =
    let made = settled_in w.pool message who reply in
    ap (λ (ls : List (Option LogNode)). (record w { logs = ls; pool = made.0 }, made.1))
    (logs_beside w.logs message who.role who.number apart.party.number (Some (record { core = core; keys = apart.keys; taken = apart.taken })) reply other)
settled_beside w message who reply apart (an_authority state check) other = refl

each_beside : (w : World) (who : Party) (calls : List (Delivery × Option Outcome)) (replies : List Reply) (apart : Away) (state : StationState) → IsBeside who apart.party.number state
    → each_settled (with_homes w (back_in (places_of w) (record apart { state = state }))) who calls replies
    ≡ (with_homes (each_settled w who calls replies).0 (back_in (places_of (each_settled w who calls replies).0) (record apart { state = state })), (each_settled w who calls replies).1)
each_beside w who [] replies apart state other = refl
each_beside w who (call ∷ calls) [] apart state other = refl
each_beside w who (call ∷ calls) (reply ∷ replies) apart state other =
    let made = settled w call.0.message who reply in
    ap (λ (m : Moved). printing m.1 (each_settled m.0 who calls replies)) (settled_beside w call.0.message who reply apart state other)
    ∙ ap (printing made.1) (each_beside made.0 who calls replies apart state other)

-- several parties that are put beside
abbrev pub AllBeside : Party → List Away → List StationState → Type 0
AllBeside who [] now = Unit {0}
AllBeside who (apart ∷ all) [] = Unit {0}
AllBeside who (apart ∷ all) (state ∷ now) = IsBeside who apart.party.number state × AllBeside who all now

all_beside : (w : World) (who : Party) (calls : List (Delivery × Option Outcome)) (replies : List Reply) (all : List Away) (now : List StationState) → AllBeside who all now
    → each_settled (with_homes w (all_back_in (places_of w) (stand_now all now))) who calls replies
    ≡ (with_homes (each_settled w who calls replies).0 (all_back_in (places_of (each_settled w who calls replies).0) (stand_now all now)), (each_settled w who calls replies).1)
all_beside w who calls replies [] now beside = refl
all_beside w who calls replies (apart ∷ all) [] beside = refl
all_beside w who calls replies (apart ∷ all) (state ∷ now) beside =
    let next = with_homes w (back_in (places_of w) (record apart { state = state })) in
    all_beside next who calls replies all now beside.1
    ∙ ap (λ (m : Moved). (with_homes m.0 (all_back_in (places_of m.0) (stand_now all now)), m.1)) (each_beside w who calls replies apart state beside.0)

-- ---- a station stays of its kind

abbrev pub IsLogs : StationState → Type 0
IsLogs (a_log core) = Unit {0}
IsLogs (an_authority state check) = ⊥

log_replied_stays : (core : log.CoreState) (answer : log.LogAnswer) → IsLogs (log_replied core answer).1
log_replied_stays core (Ok reply) = tt
log_replied_stays core (Err refusal) = tt

logs_stay : (state : StationState) (history : List (Delivery × Option Outcome)) → IsLogs state → IsLogs (state_after replied_at state history)
logs_stay state [] is = is
logs_stay (a_log core) (call ∷ history) is =
    logs_stay (log_replied core (row core (log.takes call.0.bytes))).1 history (log_replied_stays core (row core (log.takes call.0.bytes)))
logs_stay (an_authority state check) (call ∷ history) is = absurd is

abbrev pub IsAuthoritys : StationState → Type 0
IsAuthoritys (a_log core) = ⊥
IsAuthoritys (an_authority state check) = Unit {0}

authority_replied_stays : (s : authority.AuthorityState) (check : Option CheckParts) (answer : authority.AuthorityAnswer) → IsAuthoritys (authority_replied s check answer).1
authority_replied_stays s check (Ok made) = tt
authority_replied_stays s check (Err refusal) = tt

authorities_stay : (state : StationState) (history : List (Delivery × Option Outcome)) → IsAuthoritys state → IsAuthoritys (state_after replied_at state history)
authorities_stay state [] is = is
authorities_stay (a_log core) (call ∷ history) is = absurd is
authorities_stay (an_authority s check) (call ∷ history) is =
    let read = message_in call.0.bytes in
    let answer = authority_reply (unwrap_or call.1 No) s check read in
    authorities_stay (authority_replied s (check_after check read answer) answer).1 history (authority_replied_stays s (check_after check read answer) answer)

-- ---- one party of several

-- the turns of a party, whose station stands as it does behind them
one_visited : (deliveries : Deliveries) (w v : World) (workers : ℕ) (who : Party) (apart : Away) (now : StationState) (visit : VisitParts)
    → HasAll w.pool v.pool → StandsSo (places_of v) who apart → IsVisit w workers deliveries apart now visit
    → turns_taken deliveries visit.party v (map turn_for visit.history)
    ≡ each_settled (with_homes v (back_in (places_of v) (record apart { state = now }))) visit.party visit.history visit.replies
one_visited deliveries w v workers who apart now visit has stands is = by who.role who.number apart stands now visit is
  where
    by_log : (number : ℕ) (node : LogNode) (now : StationState) (visit : VisitParts) → honest_in v.logs number ≡ Some node → IsVisit w workers deliveries (log_alone number node) now visit
        → turns_taken deliveries visit.party v (map turn_for visit.history)
        ≡ each_settled (with_homes v (back_in (places_of v) (record (log_alone number node) { state = now }))) visit.party visit.history visit.replies
    by_log number node (a_log core) visit there is =
        ap (λ (p : Party). turns_taken deliveries p v (map turn_for visit.history)) is.party
        ∙ log_turns deliveries w number visit.history v node core has there is.replays.state is.own
        ∙ ap (each_settled (with_homes v (back_in (places_of v) (record (log_alone number node) { state = a_log core }))) (log_party number) visit.history) (sym is.replied)
        ∙ ap (λ (p : Party). each_settled (with_homes v (back_in (places_of v) (record (log_alone number node) { state = a_log core }))) p visit.history visit.replies) (sym is.party)
    by_log number node (an_authority state check) visit there is =
        absurd (subst IsLogs is.replays.state (logs_stay (a_log node.core) visit.history tt))

    by_authority : (number : ℕ) (node : AuthorityNode) (now : StationState) (visit : VisitParts) → honest_in v.authorities number ≡ Some node
        → IsVisit w workers deliveries (authority_alone number node) now visit
        → turns_taken deliveries visit.party v (map turn_for visit.history)
        ≡ each_settled (with_homes v (back_in (places_of v) (record (authority_alone number node) { state = now }))) visit.party visit.history visit.replies
    by_authority number node (an_authority state check) visit there is =
        ap (λ (p : Party). turns_taken deliveries p v (map turn_for visit.history)) is.party
        ∙ authority_turns deliveries w number visit.history v node state check has there is.replays.state is.own
        ∙ ap (each_settled (with_homes v (back_in (places_of v) (record (authority_alone number node) { state = an_authority state check }))) (authority_party number) visit.history) (sym is.replied)
        ∙ ap (λ (p : Party). each_settled (with_homes v (back_in (places_of v) (record (authority_alone number node) { state = an_authority state check }))) p visit.history visit.replies)
        (sym is.party)
    by_authority number node (a_log core) visit there is =
        absurd (subst IsAuthoritys is.replays.state (authorities_stay (an_authority node.state node.check) visit.history tt))

    by : (r : Role) (number : ℕ) (apart : Away) → StandsIn (places_of v) r number apart → (now : StationState) (visit : VisitParts) → IsVisit w workers deliveries apart now visit
        → turns_taken deliveries visit.party v (map turn_for visit.history)
        ≡ each_settled (with_homes v (back_in (places_of v) (record apart { state = now }))) visit.party visit.history visit.replies
    by role.LogServer number apart stands now visit is =
        subst (λ (a : Away). turns_taken deliveries visit.party v (map turn_for visit.history)
        ≡ each_settled (with_homes v (back_in (places_of v) (record a { state = now }))) visit.party visit.history visit.replies) (sym stands.2)
        (by_log number stands.0 now visit stands.1 (subst (λ (a : Away). IsVisit w workers deliveries a now visit) stands.2 is))
    by role.Authority number apart stands now visit is =
        subst (λ (a : Away). turns_taken deliveries visit.party v (map turn_for visit.history)
        ≡ each_settled (with_homes v (back_in (places_of v) (record a { state = now }))) visit.party visit.history visit.replies) (sym stands.2)
        (by_authority number stands.0 now visit stands.1 (subst (λ (a : Away). IsVisit w workers deliveries a now visit) stands.2 is))
    by role.Owner number apart stands now visit is = absurd stands
    by role.Client number apart stands now visit is = absurd stands

-- ---- parties that left their places

-- who left is not there
gone : {X : Type 0} (parties : List (Option X)) (number : ℕ) → honest_in (slice_set parties number None) number ≡ None
gone [] number = refl
gone (p ∷ more) zero = refl
gone (p ∷ more) (suc number) = gone more number

-- whoever is there when another has left was there before, and is another
there_before : {X : Type 0} (parties : List (Option X)) (n k : ℕ) (node : X) → honest_in (slice_set parties n None) k ≡ Some node → (honest_in parties k ≡ Some node) × (n ≢ k)
there_before {X} parties n k node there = dite (ℕ_discrete n k)
    (λ same.
    let none : honest_in (slice_set parties n None) k ≡ None = subst (λ m. honest_in (slice_set parties n None) m ≡ None) same (gone parties n) in
    let no : Some node ≡ None = sym there ∙ none in
    absurd cc)
    (λ other. (sym (put-beside parties n k None (λ same. other (sym same))) ∙ there, other))

-- one party behind the leaving of another
left_stands : (places : Homes) (r : Role) (n : ℕ) (s : Role) (k : ℕ) (apart : Away) → StandsIn (left_in places r n) s k apart
    → StandsIn places s k apart × IsBeside (record { role = r; number = n }) k apart.state × (apart.party ≡ record { role = s; number = k })
left_stands places role.LogServer n role.LogServer k apart stands =
    let before = there_before places.logs n k stands.0 stands.1 in (
      (stands.0, before.0, stands.2),
      subst (λ (a : Away). IsBeside (record { role = role.LogServer; number = n }) k a.state) (sym stands.2) (λ own. before.1),
      ap (λ (a : Away). a.party) stands.2,
    )
left_stands places role.Authority n role.LogServer k apart stands = (
  stands,
  subst (λ (a : Away). IsBeside (record { role = role.Authority; number = n }) k a.state) (sym stands.2) (λ own. absurd cc),
  ap (λ (a : Away). a.party) stands.2,
)
left_stands places role.Owner n role.LogServer k apart stands = (
  stands,
  subst (λ (a : Away). IsBeside (record { role = role.Owner; number = n }) k a.state) (sym stands.2) (λ own. absurd cc),
  ap (λ (a : Away). a.party) stands.2,
)
left_stands places role.Client n role.LogServer k apart stands = (
  stands,
  subst (λ (a : Away). IsBeside (record { role = role.Client; number = n }) k a.state) (sym stands.2) (λ own. absurd cc),
  ap (λ (a : Away). a.party) stands.2,
)
left_stands places role.Authority n role.Authority k apart stands =
    let before = there_before places.authorities n k stands.0 stands.1 in (
      (stands.0, before.0, stands.2),
      subst (λ (a : Away). IsBeside (record { role = role.Authority; number = n }) k a.state) (sym stands.2) tt,
      ap (λ (a : Away). a.party) stands.2,
    )
left_stands places role.LogServer n role.Authority k apart stands =
    (stands, subst (λ (a : Away). IsBeside (record { role = role.LogServer; number = n }) k a.state) (sym stands.2) tt, ap (λ (a : Away). a.party) stands.2)
left_stands places role.Owner n role.Authority k apart stands =
    (stands, subst (λ (a : Away). IsBeside (record { role = role.Owner; number = n }) k a.state) (sym stands.2) tt, ap (λ (a : Away). a.party) stands.2)
left_stands places role.Client n role.Authority k apart stands =
    (stands, subst (λ (a : Away). IsBeside (record { role = role.Client; number = n }) k a.state) (sym stands.2) tt, ap (λ (a : Away). a.party) stands.2)
left_stands places r n role.Owner k apart stands = absurd stands
left_stands places r n role.Client k apart stands = absurd stands

-- two that leave, in either order
set_none : {X : Type 0} (parties : List (Option X)) (n k : ℕ) → slice_set (slice_set parties n None) k None ≡ slice_set (slice_set parties k None) n None
set_none parties n k = dite (ℕ_discrete n k)
    (λ same. subst (λ m. slice_set (slice_set parties n None) m None ≡ slice_set (slice_set parties m None) n None) same refl)
    (λ other. set_comm parties n k None None other)

left_both : (places : Homes) (r : Role) (n : ℕ) (s : Role) (k : ℕ) → left_in (left_in places r n) s k ≡ left_in (left_in places s k) r n
left_both places role.LogServer n role.LogServer k = ap (λ (ls : List (Option LogNode)). record places { logs = ls }) (set_none places.logs n k)
left_both places role.Authority n role.Authority k = ap (λ (l : List (Option AuthorityNode)). record places { authorities = l }) (set_none places.authorities n k)
left_both places role.LogServer n role.Authority k = refl
left_both places role.LogServer n role.Owner k = refl
left_both places role.LogServer n role.Client k = refl
left_both places role.Authority n role.LogServer k = refl
left_both places role.Authority n role.Owner k = refl
left_both places role.Authority n role.Client k = refl
left_both places role.Owner n role.LogServer k = refl
left_both places role.Owner n role.Authority k = refl
left_both places role.Owner n role.Owner k = refl
left_both places role.Owner n role.Client k = refl
left_both places role.Client n role.LogServer k = refl
left_both places role.Client n role.Authority k = refl
left_both places role.Client n role.Owner k = refl
left_both places role.Client n role.Client k = refl

-- parties that stand apart behind the leaving of another stand apart without it
pub left_before : (places : Homes) (who : Party) (stations : List Party) (all : List Away) → AreAway (left_by places who) stations all → AreAway places stations all
left_before places who [] all stand = stand
left_before places who (s ∷ stations) [] stand = absurd stand
left_before places who (s ∷ stations) (a ∷ all) stand = (
  (left_stands places who.role who.number s.role s.number a stand.0).0,
  left_before (left_by places s) who stations all
      (subst (λ (p : Homes). AreAway p stations all) (left_both places who.role who.number s.role s.number) stand.1),
)

-- what the station of a log was at first
pub log_before : (state : StationState) (history : List (Delivery × Option Outcome)) (now : StationState) → state_after replied_at state history ≡ now → IsLogs now → IsLogs state
log_before (a_log core) history now is logs = tt
log_before (an_authority s check) history (a_log core) is logs = absurd (subst IsAuthoritys is (authorities_stay (an_authority s check) history tt))
log_before (an_authority s check) history (an_authority t other) is logs = absurd logs

beside_now : (who : Party) (number : ℕ) (state now : StationState) → (IsLogs now → IsLogs state) → IsBeside who number state → IsBeside who number now
beside_now who number (a_log core) (a_log next) kind beside = beside
beside_now who number (an_authority s check) (a_log next) kind beside = absurd (kind tt)
beside_now who number state (an_authority t other) kind beside = tt

beside_all : (w : World) (workers : ℕ) (deliveries : Deliveries) (places : Homes) (who : Party) (stations : List Party) (all : List Away) (now : List StationState) (visits : List VisitParts)
    → AreAway (left_by places who) stations all → Abreast (IsVisit w workers deliveries) all now visits → AllBeside who all now
beside_all w workers deliveries places who stations [] now visits stand each = tt
beside_all w workers deliveries places who stations (a ∷ all) [] visits stand each = tt
beside_all w workers deliveries places who [] (a ∷ all) (s ∷ now) visits stand each = absurd cc
beside_all w workers deliveries places who (t ∷ stations) (a ∷ all) (s ∷ now) [] stand each = absurd each
beside_all w workers deliveries places who (t ∷ stations) (a ∷ all) (s ∷ now) (visit ∷ visits) stand each =
    let apart = left_stands places who.role who.number t.role t.number a stand.0 in
    let own : t.number ≡ a.party.number = ap (λ (p : Party). p.number) (sym apart.2) in (
      subst (λ n. IsBeside who n s) own
          (beside_now who t.number a.state s (log_before a.state visit.history s each.0.replays.state) apart.1),
      beside_all w workers deliveries (left_by places t) who stations all now visits
          (subst (λ (p : Homes). AreAway p stations all) (left_both places who.role who.number t.role t.number) stand.1) each.1,
    )

-- ---- what a party's turns leave as it is

-- a reply that is settled is noted in its party's place alone
settled_left : (w : World) (message : ℕ) (r : Role) (n : ℕ) (reply : Reply)
    → left_in (places_of (settled w message (record { role = r; number = n }) reply).0) r n ≡ left_in (places_of w) r n
settled_left w message role.LogServer n (Ok sent) = by (honest_in w.logs n)
  where
    by : (o : Option LogNode) → record (places_of w) { logs = slice_set (logs_with w.logs message n o) n None } ≡ record (places_of w) { logs = slice_set w.logs n None }
    by None = refl
    by (Some node) = ap (λ (ls : List (Option LogNode)). record (places_of w) { logs = ls }) (set-set w.logs n (Some (with_taken message node)) None)
settled_left w message role.Authority n (Ok sent) = refl
settled_left w message role.Owner n (Ok sent) = refl
settled_left w message role.Client n (Ok sent) = refl
settled_left w message r n (Err code) = refl

each_left : (w : World) (who : Party) (calls : List (Delivery × Option Outcome)) (replies : List Reply)
    → left_by (places_of (each_settled w who calls replies).0) who ≡ left_by (places_of w) who
each_left w who [] replies = refl
each_left w who (call ∷ calls) [] = refl
each_left w who (call ∷ calls) (reply ∷ replies) =
    each_left (settled w call.0.message who reply).0 who calls replies ∙ settled_left w call.0.message who.role who.number reply

-- a party that comes back takes no other's place
pub back_left : (places : Homes) (r : Role) (n : ℕ) (apart : Away) (now : StationState) → StandsIn places r n apart → (IsLogs now → IsLogs apart.state) → (IsAuthoritys now → IsAuthoritys apart.state)
    → left_in (back_in places (record apart { state = now })) r n ≡ left_in places r n
back_left places role.LogServer n apart (a_log core) stands logs authorities =
    let own : apart.party.number ≡ n = ap (λ (a : Away). a.party.number) stands.2 in
    subst (λ m. record places { logs = slice_set (slice_set places.logs m (Some (record { core = core; keys = apart.keys; taken = apart.taken }))) n None } ≡ record places { logs = slice_set places.logs n None })
    (sym own) (ap (λ (ls : List (Option LogNode)). record places { logs = ls }) (set-set places.logs n (Some (record { core = core; keys = apart.keys; taken = apart.taken })) None))
back_left places role.LogServer n apart (an_authority state check) stands logs authorities = absurd (subst (λ (a : Away). IsAuthoritys a.state) stands.2 (authorities tt))
back_left places role.Authority n apart (an_authority state check) stands logs authorities =
    let own : apart.party.number ≡ n = ap (λ (a : Away). a.party.number) stands.2 in
    subst (λ m. record places { authorities = slice_set (slice_set places.authorities m (Some (record { state = state; keys = apart.keys; check = check }))) n None }
    ≡ record places { authorities = slice_set places.authorities n None })
    (sym own) (ap (λ (l : List (Option AuthorityNode)). record places { authorities = l }) (set-set places.authorities n (Some (record { state = state; keys = apart.keys; check = check })) None))
back_left places role.Authority n apart (a_log core) stands logs authorities = absurd (subst (λ (a : Away). IsLogs a.state) stands.2 (logs tt))
back_left places role.Owner n apart now stands logs authorities = absurd stands
back_left places role.Client n apart now stands logs authorities = absurd stands

pub authority_before : (state : StationState) (history : List (Delivery × Option Outcome)) (now : StationState) → state_after replied_at state history ≡ now → IsAuthoritys now → IsAuthoritys state
authority_before (an_authority s check) history now is those = tt
authority_before (a_log core) history (an_authority s check) is those = absurd (subst IsLogs is (logs_stay (a_log core) history tt))
authority_before (a_log core) history (a_log other) is those = absurd those

-- ---- messages stay

turn_has : (v : World) (who : Party) (says : Outcome) (d : Option (ℕ × Party)) → HasAll v.pool (turn_taken v who says d).0.pool
turn_has v who says None = has_itself v.pool
turn_has v who says (Some d) = by (message_at v d.0) (station_at v who)
  where
    by : (p : Option Pooled) (taker : Option Taker) → HasAll v.pool (delivery_if says v d.0 who.number p taker).0.pool
    by None taker = has_itself v.pool
    by (Some p) None = has_itself v.pool
    by (Some p) (Some taker) =
        let made = delivery says v d.0 who.number taker in
        has_told v.pool made.0.pool made.1 (delivery-tells says v d.0 who.number taker)

turns_have : (deliveries : Deliveries) (who : Party) (v : World) (turns : List Turn) → HasAll v.pool (turns_taken deliveries who v turns).0.pool
turns_have deliveries who v [] = has_itself v.pool
turns_have deliveries who v (turn ∷ turns) =
    let made = turn_taken v who turn.says (slice_get deliveries turn.number) in
    has_on v.pool made.0.pool (turns_taken deliveries who made.0 turns).0.pool (turn_has v who turn.says (slice_get deliveries turn.number)) (turns_have deliveries who made.0 turns)

-- ---- all parties

-- the numbers of turns are those of the calls
pub their_numbers : (history : List (Delivery × Option Outcome)) → turn_numbers (map turn_for history) ≡ map (λ call. call.0.j) history
their_numbers [] = refl
their_numbers (call ∷ history) = ap (λ l. call.0.j ∷ l) (their_numbers history)

pub own_party : (places : Homes) (r : Role) (n : ℕ) (apart : Away) → StandsIn places r n apart → apart.party ≡ record { role = r; number = n }
own_party places role.LogServer n apart stands = ap (λ (a : Away). a.party) stands.2
own_party places role.Authority n apart stands = ap (λ (a : Away). a.party) stands.2
own_party places role.Owner n apart stands = absurd stands
own_party places role.Client n apart stands = absurd stands

pub all_visited : (deliveries : Deliveries) (w : World) (workers : ℕ) (stations : List Party) (all : List Away) (now : List StationState) (visits : List VisitParts) (v : World)
    → HasAll w.pool v.pool → AreAway (places_of v) stations all → Abreast (IsVisit w workers deliveries) all now visits
    → burst_made deliveries v (orders_of visits) ≡ visits_settled (with_homes v (all_back_in (places_of v) (stand_now all now))) visits
all_visited deliveries w workers stations [] [] [] v has stand each = refl
all_visited deliveries w workers stations [] [] (visit ∷ visits) v has stand each = absurd cc
all_visited deliveries w workers stations [] (s ∷ now) visits v has stand each = absurd cc
all_visited deliveries w workers stations (a ∷ all) [] visits v has stand each = absurd each
all_visited deliveries w workers stations (a ∷ all) (s ∷ now) [] v has stand each = absurd each
all_visited deliveries w workers [] (a ∷ all) (s ∷ now) (visit ∷ visits) v has stand each = absurd cc
all_visited deliveries w workers (who ∷ stations) (a ∷ all) (s ∷ now) (visit ∷ visits) v has stand each =
    let turns = map turn_for visit.history in
    let own : visit.party ≡ who = each.0.party ∙ own_party (places_of v) who.role who.number a stand.0 in
    let first = with_homes v (back_in (places_of v) (record a { state = s })) in
    let settles = each_settled first visit.party visit.history visit.replies in
    let made : turns_taken deliveries visit.party v turns ≡ settles = one_visited deliveries w v workers who a s visit has stand.0 each.0 in
    let later = settles.0 in
    let has_later : HasAll w.pool later.pool =
    has_on w.pool v.pool later.pool has (subst (λ (m : Moved). HasAll v.pool m.0.pool) made (turns_have deliveries visit.party v turns)) in
    let left : left_by (places_of later) who ≡ left_by (places_of v) who =
    subst (λ (p : Party). left_by (places_of settles.0) p ≡ left_by (places_of first) p) own (each_left first visit.party visit.history visit.replies)
    ∙ back_left (places_of v) who.role who.number a s stand.0 (log_before a.state visit.history s each.0.replays.state) (authority_before a.state visit.history s each.0.replays.state) in
    let stand_later : AreAway (places_of later) stations all =
    left_before (places_of later) who stations all (subst (λ (p : Homes). AreAway p stations all) (sym left) stand.1) in
    let rest = all_visited deliveries w workers stations all now visits later has_later stand_later each.1 in
    let beside : AllBeside visit.party all now = subst (λ (p : Party). AllBeside p all now) (sym own) (beside_all w workers deliveries (places_of v) who stations all now visits stand.1 each.1) in
    let together = all_beside first visit.party visit.history visit.replies all now beside in
    ap (λ (m : Moved). printing (Order visit.party (turn_numbers turns) ∷ m.1) (burst_made deliveries m.0 (orders_of visits))) made
    ∙ ap (λ l. printing (Order visit.party l ∷ settles.1) (burst_made deliveries later (orders_of visits))) (their_numbers visit.history)
    ∙ ap (printing (Order visit.party (map (λ call. call.0.j) visit.history) ∷ settles.1)) rest
    ∙ sym (ap (λ (m : Moved). printing (Order visit.party (map (λ call. call.0.j) visit.history) ∷ m.1) (visits_settled m.0 visits)) together)

pub world_visited : (w : World) (workers : ℕ) (deliveries : Deliveries) (stations : List Party) (all : List Away) (now : List StationState) (visits : List VisitParts)
    → AreAway (places_of w) stations all → Abreast (IsVisit w workers deliveries) all now visits
    → burst_made deliveries w (orders_of visits) ≡ visits_settled (with_homes w (all_back_in (places_of w) (stand_now all now))) visits
world_visited w workers deliveries stations all now visits stand each = all_visited deliveries w workers stations all now visits w (has_itself w.pool) stand each
