-- The orders to honest logs and authorities: `propose`, `pass` and `roll`.
use Rattle.std.specs.Prelude.{ℕ, Ok, Err}
use Rattle.ar_base.specs.Chaining.{◌>>=◌}
use Rattle.ar_statement.specs.declared.party.Party.{Party}
use Rattle.ar_statement.specs.declared.party.Role.{Role}
use Rattle.ar_statement.specs.declared.party.Role.TheVariants.{LogServer, Authority, Owner, Client}
use Rattle.ar_nodes.specs.log_core.State.{Input, passes, proposes}
use Rattle.report_text.specs.declared.happening.What.{What}
use Rattle.report_text.specs.declared.happening.What.TheVariants as whats
use Rattle.ar_nodes.specs.Acting.{authority_rolled, log_obeyed, log_rolled}
use Rattle.ar_world.specs.Finding.{Effect, authority_at, log_at, room}
use Rattle.ar_nodes.specs.Finding.{named}
use Rattle.ar_nodes.specs.Parties.{next_of}
use Rattle.ar_world.specs.Sending.{authority_made, log_made}
use Rattle.ar_world.specs.State.{World}
use Rattle.ar_nodes.specs.declared.event.LogEvent.{LogEvent}
use Rattle.ar_nodes.specs.declared.event.LogEvent.TheVariants as events
use Rattle.ar_nodes.specs.declared.fault.WorldFault.TheVariants.{Absent}

-- ---- `propose` and `pass`

-- word 1 names an honest log
abbrev pub log_order : World → ℕ → What → LogEvent → Input → Effect
log_order w number what event input = do
  node ← named 1 (log_at w number)
  free ← room w
  Ok (log_made w number (log_obeyed w.pool number what event input node))

abbrev pub propose_line : World → ℕ → Effect
propose_line w number = log_order w number whats.Propose events.Propose proposes

abbrev pub pass_line : World → ℕ → Effect
pass_line w number = log_order w number whats.Pass events.Pass passes

-- ---- `roll`

-- word 1 names an honest log, or an honest authority, retired or not; each has a key
abbrev pub roll_of : World → Role → ℕ → Effect
roll_of w LogServer number = do
  node ← named 1 (log_at w number)
  next ← named 1 (next_of node.keys)
  free ← room w
  Ok (log_made w number (log_rolled w.pool number next node))
roll_of w Authority number = do
  node ← named 1 (authority_at w number)
  next ← named 1 (next_of node.keys)
  free ← room w
  Ok (authority_made w number (authority_rolled w.pool number next node))
roll_of w Owner number = Err (Absent 1)
roll_of w Client number = Err (Absent 1)

abbrev pub roll_line : World → Party → Effect
roll_line w who = roll_of w who.role who.number
