-- Deliveries: the line `deliver`, and which delivery is the next of a `flush`.
use Rattle.std.specs.Prelude.{◌≡◌, ℕ, ◌+◌, Bool, false, not, ◌&&◌, List, [], ◌∷◌, filter, find, drop, length, map, take, is_some, Option, Some, None, Result, Ok}
use Rattle.std.specs.List.{range_with_len}
use Rattle.std.specs.Option.{option_map}
use Rattle.ar_base.specs.Chaining.{◌>>=◌}
use Rattle.ar_statement.specs.Claims.{has_party, is_party, log_party}
use Rattle.ar_statement.specs.declared.party.Party.{Party}
use Rattle.ar_statement.specs.declared.party.Role.{Role}
use Rattle.ar_statement.specs.declared.party.Role.TheVariants as role
use Rattle.owner_check.specs.declared.answer.Outcome.{Outcome}
use Rattle.owner_core.specs.State.{Owner}
use Rattle.report_text.specs.declared.happening.Target.{Target}
use Rattle.report_text.specs.declared.happening.Target.TheVariants.{Logs, Nobody, One}
use Rattle.ar_nodes.specs.Acting.{authority_delivered, log_delivered, owner_delivered}
use Rattle.ar_nodes.specs.Finding.{named}
use Rattle.ar_nodes.specs.Parties.{AuthorityNode, LogNode}
use Rattle.ar_nodes.specs.Pool.{Pooled}
use Rattle.ar_nodes.specs.declared.fault.WorldFault.{WorldFault}
use Rattle.ar_world.specs.Finding.{Effect, authority_at, log_at, message_at, owner_at, room}
use Rattle.ar_world.specs.Sending.{authority_made, log_made, owner_made}
use Rattle.ar_world.specs.State.{Moved, World}

-- ---- who takes deliveries

-- an honest log, an honest authority, or an owner
pub data Taker : Type 0 where
  a_log : (node : LogNode) → Taker
  an_authority : (node : AuthorityNode) → Taker
  an_owner : (me : Owner) → Taker

-- the party of a role that takes deliveries
abbrev pub taker_in : World → Role → ℕ → Option Taker
taker_in w role.LogServer number = option_map a_log (log_at w number)
taker_in w role.Authority number = option_map an_authority (authority_at w number)
taker_in w role.Owner number = option_map an_owner (owner_at w number)
taker_in w role.Client number = None

abbrev pub taker_at : World → Party → Option Taker
taker_at w who = taker_in w who.role who.number

-- ---- a delivery

-- the party takes the message; a check that tells nothing of itself says this
abbrev pub delivery : Outcome → World → ℕ → ℕ → Taker → Moved
delivery says w message number (a_log node) = log_made w number (log_delivered w.pool message number node)
delivery says w message number (an_authority node) = authority_made w number (authority_delivered says w.pool message number node)
delivery says w message number (an_owner me) = owner_made w (owner_delivered w.pool message number me)

-- word 1 names a message, and word 2 a party that takes deliveries; and there is room for what it may send
abbrev pub can_deliver : World → ℕ → Party → Result Taker WorldFault
can_deliver w message who = do
  p ← named 1 (message_at w message)
  taker ← named 2 (taker_at w who)
  free ← room w
  Ok taker

-- whether the line is taken, or why it is refused
abbrev pub deliverable : World → ℕ → Party → Result (Unit {0}) WorldFault
deliverable w message who = do
  taker ← can_deliver w message who
  Ok tt

-- the message goes to the party, whoever it is addressed to, and however often it was delivered
abbrev pub deliver_line : Outcome → World → ℕ → Party → Effect
deliver_line says w message who = do
  taker ← can_deliver w message who
  Ok (delivery says w message who.number taker)

-- ---- what is due

-- the party sent the message
abbrev pub is_sender : Option Party → Party → Bool
is_sender None who = false
is_sender (Some sender) who = is_party sender who

-- the parties that a message is addressed to, of so many logs: all logs are all but the sender, ascending
abbrev pub addressed : ℕ → Option Party → Target → List Party
addressed logs from Nobody = []
addressed logs from Logs = filter (λ who. not (is_sender from who)) (map log_party (range_with_len 0 logs))
addressed logs from (One who) = who ∷ []

-- the party takes deliveries, and the message was never delivered to it
abbrev pub is_due : World → Pooled → Party → Bool
is_due w p who = is_some (taker_at w who) && not (has_party p.delivered who)

-- the first party to which a message is due
abbrev pub due_to : World → Pooled → Option Party
due_to w p = find (is_due w p) (addressed (length w.logs) p.from p.to)

-- the first delivery that is due, of messages the first of which has this number
abbrev pub due_or : ℕ → Option Party → Option (ℕ × Party) → Option (ℕ × Party)
due_or message (Some who) later = Some (message, who)
due_or message None later = later

unfoldable pub due_from : World → ℕ → List Pooled → Option (ℕ × Party)
due_from w message [] = None
due_from w message (p ∷ more) = due_or message (due_to w p) (due_from w (message + 1) more)

-- the next delivery of a `flush`: of the first message that is due to a party it is addressed to, to the first such
abbrev pub next_due : World → Option (ℕ × Party)
next_due w = due_from w 1 w.pool

-- the first delivery that is due of the messages behind so many
abbrev pub next_due_behind : World → ℕ → Option (ℕ × Party)
next_due_behind w front = due_from w (front + 1) (drop front w.pool)

-- nothing is due of so many messages in front
abbrev pub NothingDue : World → ℕ → Type 0
NothingDue w front = due_from w 1 (take front w.pool) ≡ None
