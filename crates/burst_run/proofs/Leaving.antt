-- The parties that take deliveries are in their places, so that they can leave them, one after another.
use Rattle.std.proofs.Common.{◌≡◌, ◌∙◌, ℕ, suc, ◌+◌, ◌<◌, ◌==◌, Bool, true, false, List, [], ◌∷◌, ◌++◌, map, Some, None, refl, sym, ap, subst, arith}
use Rattle.std.specs.Prelude.{◌&&◌, ◌||◌, is_some, slice_get}
use Rattle.std.specs.List.{AllByRecursion}
use Rattle.std.proofs.lemmas.Bool.{eq-eqb}
use Rattle.ar_base.specs.Counting.{one_if}
use Rattle.ar_council.proofs.Seeing.{one_party}
use Rattle.ar_nodes.proofs.Spots.{put-beside}
use Rattle.ar_seats.specs.Numbers.{times}
use Rattle.ar_statement.proofs.Statements.{is_party-self}
use Rattle.ar_statement.specs.Claims.{authority_party, has_party, is_party, log_party, party, role_number}
use Rattle.ar_statement.specs.declared.party.Party.{Party}
use Rattle.ar_statement.specs.declared.party.Role.{Role}
use Rattle.ar_statement.specs.declared.party.Role.TheVariants as role
use Rattle.burst_run.specs.Laying.{CanLeave, Homes, is_in, left_by, left_in}
use Rattle.burst_run.specs.Stations.{AreStations, Deliveries, is_served, stations_of}
use Rattle.burst_run.proofs.Dealt.{IsOnceEach, stations_once}
use Rattle.burst_run.proofs.StationsLemmas.{are_stations, true_of_one}

-- a party is in its place
abbrev pub InPlace : Homes → Party → Type 0
InPlace places who = is_in places who.role who.number ≡ true

-- each delivery goes to one that is
abbrev pub AllInPlace : Homes → Deliveries → Type 0
AllInPlace places deliveries = AllByRecursion (λ d. InPlace places d.1) deliveries

or_left : (a b : Bool) → a ≡ true → a || b ≡ true
or_left true b is = refl
or_left false b is = absurd cc

or_right : (a b : Bool) → b ≡ true → a || b ≡ true
or_right true b is = refl
or_right false b is = is

both_true : (a b : Bool) → a ≡ true → b ≡ true → a && b ≡ true
both_true true b is too = too
both_true false b is too = absurd cc

-- ---- who takes deliveries is in its place

served_in : (places : Homes) (deliveries : Deliveries) (who : Party) → AllInPlace places deliveries → is_served deliveries who ≡ true → InPlace places who
served_in places [] who all is = absurd cc
served_in places (d ∷ deliveries) who all is = by (is_party who d.1) refl is (served_in places deliveries who all.1)
  where
    by : (b : Bool) → is_party who d.1 ≡ b → b || is_served deliveries who ≡ true → (is_served deliveries who ≡ true → InPlace places who) → InPlace places who
    by true same is rest = subst (InPlace places) (sym (one_party who d.1 same)) all.0
    by false other is rest = rest is

all_times : (Q : ℕ → Type 0) (numbers : List ℕ) → ((n : ℕ) → 0 < times n numbers → Q n) → AllByRecursion Q numbers
all_times Q [] each = tt
all_times Q (m ∷ numbers) each = (each m own, all_times Q numbers (λ n some. each n (later n some)))
  where
    own : 0 < times m (m ∷ numbers)
    own = let one : one_if (m == m) ≡ 1 = rw (eq-eqb m m refl) refl in omega (arith, one)

    later : (n : ℕ) → 0 < times n numbers → 0 < times n (m ∷ numbers)
    later n some = omega (arith, some)

all_parties : (Q : Party → Type 0) (r : Role) (numbers : List ℕ) → AllByRecursion (λ n. Q (party r n)) numbers → AllByRecursion Q (map (party r) numbers)
all_parties Q r [] all = tt
all_parties Q r (n ∷ numbers) all = (all.0, all_parties Q r numbers all.1)

all_both : (Q : Party → Type 0) (ones others : List Party) → AllByRecursion Q ones → AllByRecursion Q others → AllByRecursion Q (ones ++ others)
all_both Q [] others all too = too
all_both Q (who ∷ ones) others all too = (all.0, all_both Q ones others all.1 too)

pub stations_in : (places : Homes) (deliveries : Deliveries) (stations : List Party) → AreStations deliveries stations → AllInPlace places deliveries → AllByRecursion (InPlace places) stations
stations_in places deliveries stations are all =
    subst (λ l. AllByRecursion (InPlace places) l) (sym are.are)
    (all_both (InPlace places) (map log_party are.logs) (map authority_party are.authorities)
    (all_parties (InPlace places) role.LogServer are.logs (all_times (λ n. InPlace places (party role.LogServer n)) are.logs
    (λ n some. served_in places deliveries (party role.LogServer n) all (true_of_one (is_served deliveries (party role.LogServer n)) (subst (λ k. 0 < k) (are.are_logs.each n) some)))))
    (all_parties (InPlace places) role.Authority are.authorities (all_times (λ n. InPlace places (party role.Authority n)) are.authorities
    (λ n some. served_in places deliveries (party role.Authority n) all (true_of_one (is_served deliveries (party role.Authority n)) (subst (λ k. 0 < k) (are.are_authorities.each n) some))))))

-- ---- each delivery goes to one of the stations

has_map : (r : Role) (n : ℕ) (numbers : List ℕ) → 0 < times n numbers → has_party (map (party r) numbers) (party r n) ≡ true
has_map r n [] some = absurd (omega (arith, some))
has_map r n (m ∷ numbers) some = by (n == m) refl some (has_map r n numbers)
  where
    by : (b : Bool) → (n == m) ≡ b → 0 < one_if b + times n numbers → (0 < times n numbers → has_party (map (party r) numbers) (party r n) ≡ true)
        → is_party (party r n) (party r m) || has_party (map (party r) numbers) (party r n) ≡ true
    by true same some rest = or_left (is_party (party r n) (party r m)) (has_party (map (party r) numbers) (party r n))
        (both_true (role_number r == role_number r) (n == m) (eq-eqb (role_number r) (role_number r) refl) same)
    by false other some rest = or_right (is_party (party r n) (party r m)) (has_party (map (party r) numbers) (party r n)) (rest (omega (arith, some)))

has_left : (ones others : List Party) (who : Party) → has_party ones who ≡ true → has_party (ones ++ others) who ≡ true
has_left [] others who is = absurd cc
has_left (p ∷ ones) others who is = by (is_party who p) is (has_left ones others who)
  where
    by : (b : Bool) → b || has_party ones who ≡ true → (has_party ones who ≡ true → has_party (ones ++ others) who ≡ true) → b || has_party (ones ++ others) who ≡ true
    by true is rest = refl
    by false is rest = rest is

has_right : (ones others : List Party) (who : Party) → has_party others who ≡ true → has_party (ones ++ others) who ≡ true
has_right [] others who is = is
has_right (p ∷ ones) others who is = or_right (is_party who p) (has_party (ones ++ others) who) (has_right ones others who is)

some_time : (k : ℕ) (b : Bool) → k ≡ one_if b → b ≡ true → 0 < k
some_time k true is there = omega (arith, is)
some_time k false is there = absurd cc

served_there : (places : Homes) (deliveries : Deliveries) (stations : List Party) → AreStations deliveries stations → (who : Party) → InPlace places who → is_served deliveries who ≡ true
    → has_party stations who ≡ true
served_there places deliveries stations are who place served = subst (λ l. has_party l who ≡ true) (sym are.are) (by who.role who.number place served)
  where
    by : (r : Role) (n : ℕ) → is_in places r n ≡ true → is_served deliveries (party r n) ≡ true → has_party (map log_party are.logs ++ map authority_party are.authorities) (party r n) ≡ true
    by role.LogServer n place served = has_left (map log_party are.logs) (map authority_party are.authorities) (party role.LogServer n)
        (has_map role.LogServer n are.logs (some_time (times n are.logs) (is_served deliveries (party role.LogServer n)) (are.are_logs.each n) served))
    by role.Authority n place served = has_right (map log_party are.logs) (map authority_party are.authorities) (party role.Authority n)
        (has_map role.Authority n are.authorities (some_time (times n are.authorities) (is_served deliveries (party role.Authority n)) (are.are_authorities.each n) served))
    by role.Owner n place served = absurd cc
    by role.Client n place served = absurd cc

each_there : (places : Homes) (stations : List Party) (all rest : Deliveries) → ((who : Party) → InPlace places who → is_served all who ≡ true → has_party stations who ≡ true)
    → ((who : Party) → is_served rest who ≡ true → is_served all who ≡ true) → AllInPlace places rest → AllByRecursion (λ d. has_party stations d.1 ≡ true) rest
each_there places stations all [] has within there = tt
each_there places stations all (d ∷ rest) has within there = (
  has d.1 there.0 (within d.1 (or_left (is_party d.1 d.1) (is_served rest d.1) (is_party-self d.1))),
  each_there places stations all rest has (λ who is. within who (or_right (is_party who d.1) (is_served rest who) is)) there.1,
)

pub deliveries_there : (places : Homes) (deliveries : Deliveries) (stations : List Party) → AreStations deliveries stations → AllInPlace places deliveries
    → AllByRecursion (λ d. has_party stations d.1 ≡ true) deliveries
deliveries_there places deliveries stations are all =
    each_there places stations deliveries deliveries (served_there places deliveries stations are) (λ who is. is) all

-- ---- one leaves after another

others_in : (places : Homes) (r : Role) (n : ℕ) (s : Role) (k : ℕ) → (party r n ≡ party s k → ⊥) → is_in places s k ≡ true → is_in (left_in places r n) s k ≡ true
others_in places role.LogServer n role.LogServer k other is = ap is_some (put-beside places.logs n k None (λ same. other (ap log_party (sym same)))) ∙ is
others_in places role.Authority n role.Authority k other is = ap is_some (put-beside places.authorities n k None (λ same. other (ap authority_party (sym same)))) ∙ is
others_in places role.Authority n role.LogServer k other is = is
others_in places role.Owner n role.LogServer k other is = is
others_in places role.Client n role.LogServer k other is = is
others_in places role.LogServer n role.Authority k other is = is
others_in places role.Owner n role.Authority k other is = is
others_in places role.Client n role.Authority k other is = is
others_in places r n role.Owner k other is = absurd cc
others_in places r n role.Client k other is = absurd cc

others_stay : (places : Homes) (who : Party) (stations : List Party) → ((j : ℕ) → slice_get stations j ≡ Some who → ⊥) → AllByRecursion (InPlace places) stations
    → AllByRecursion (InPlace (left_by places who)) stations
others_stay places who [] once all = tt
others_stay places who (s ∷ stations) once all = (
  others_in places who.role who.number s.role s.number (λ same. once 0 (ap Some (sym same))) all.0,
  others_stay places who stations (λ j is. once (suc j) is) all.1,
)

pub can_leave : (places : Homes) (stations : List Party) → IsOnceEach stations → AllByRecursion (InPlace places) stations → CanLeave places stations
can_leave places [] once all = tt
can_leave places (who ∷ stations) once all = (all.0, can_leave (left_by places who) stations once.1 (others_stay places who stations once.0 all.1))

-- ---- as a program finds the stations

are_found : (deliveries : Deliveries) (stations : List Party) → stations ≡ stations_of deliveries → AreStations deliveries stations
are_found deliveries stations is = subst (AreStations deliveries) (sym is) (are_stations deliveries)

pub found_once : (deliveries : Deliveries) (stations : List Party) → stations ≡ stations_of deliveries → IsOnceEach stations
found_once deliveries stations is = stations_once deliveries stations (are_found deliveries stations is)

pub found_there : (places : Homes) (deliveries : Deliveries) (stations : List Party) → stations ≡ stations_of deliveries → AllInPlace places deliveries
    → AllByRecursion (λ d. has_party stations d.1 ≡ true) deliveries
found_there places deliveries stations is all = deliveries_there places deliveries stations (are_found deliveries stations is) all

pub found_leave : (places : Homes) (deliveries : Deliveries) (stations : List Party) → stations ≡ stations_of deliveries → AllInPlace places deliveries → CanLeave places stations
found_leave places deliveries stations is all =
    can_leave places stations (found_once deliveries stations is) (stations_in places deliveries stations (are_found deliveries stations is) all)
