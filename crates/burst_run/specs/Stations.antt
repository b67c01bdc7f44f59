-- The parties that take the deliveries of a burst, in the order in which they are told of.
use Rattle.std.specs.Prelude.{◌≡◌, ℕ, ◌==◌, Bool, if◌then◌else◌, List, [], ◌∷◌, ◌++◌, map}
use Rattle.std.specs.List.{list_any}
use Rattle.ar_base.specs.Adding.{placed}
use Rattle.ar_base.specs.Counting.{one_if}
use Rattle.ar_seats.specs.Numbers.{IsRising, times}
use Rattle.ar_statement.specs.Claims.{authority_party, is_party, log_party, party, role_number}
use Rattle.ar_statement.specs.declared.party.Party.{Party}
use Rattle.ar_statement.specs.declared.party.Role.{Role}
use Rattle.ar_statement.specs.declared.party.Role.TheVariants.{Authority, LogServer}

-- the deliveries of a burst: the number of each message, and the party to which it goes
abbrev pub Deliveries : Type 0
Deliveries = List (ℕ × Party)

-- one goes to this party
abbrev pub is_served : Deliveries → Party → Bool
is_served deliveries who = list_any (λ d. is_party who d.1) deliveries

-- The numbers of the parties of a role that take deliveries, each once and ascending.
pub record AreNumbersOf (role : Role) (deliveries : Deliveries) (numbers : List ℕ) : Type 0 where
  pub ascending : IsRising numbers
  pub each : (number : ℕ) → times number numbers ≡ one_if (is_served deliveries (party role number))

-- The parties that take deliveries, each once: logs ascending, and then authorities.
pub record AreStations (deliveries : Deliveries) (stations : List Party) : Type 0 where
  pub logs : List ℕ
  pub authorities : List ℕ
  pub are_logs : AreNumbersOf LogServer deliveries logs
  pub are_authorities : AreNumbersOf Authority deliveries authorities
  pub are : stations ≡ map log_party logs ++ map authority_party authorities

-- ---- as a program finds them

-- a number is among these
abbrev pub has_number : List ℕ → ℕ → Bool
has_number numbers number = list_any (λ n. number == n) numbers

-- ascending numbers with one more, unless it is one of them
abbrev pub with_party_number : List ℕ → ℕ → List ℕ
with_party_number numbers number = if has_number numbers number then numbers else placed (λ n. n) number numbers

-- with that of a party, where it is of the role
abbrev pub with_number_for : Role → List ℕ → Party → List ℕ
with_number_for role numbers who = if role_number who.role == role_number role then with_party_number numbers who.number else numbers

-- with those of the parties of these deliveries
abbrev pub with_numbers_for : Role → List ℕ → Deliveries → List ℕ
with_numbers_for role numbers [] = numbers
with_numbers_for role numbers (d ∷ deliveries) = with_numbers_for role (with_number_for role numbers d.1) deliveries

-- the parties that take deliveries
abbrev pub stations_of : Deliveries → List Party
stations_of deliveries = map log_party (with_numbers_for LogServer [] deliveries) ++ map authority_party (with_numbers_for Authority [] deliveries)
