-- What the steps of parties make of a world: the party and the pool come into their places.
use Rattle.std.specs.Prelude.{ℕ, List, map}
use Rattle.ar_message.specs.declared.sent.Sent.{Sent}
use Rattle.ar_nodes.specs.Parties.{AuthorityNode, LogNode}
use Rattle.ar_nodes.specs.Pool.{Pooled, pooled_from}
use Rattle.ar_statement.specs.declared.party.Party.{Party}
use Rattle.owner_core.specs.State.{Owner}
use Rattle.report_text.specs.declared.happening.Happening.{Happening}
use Rattle.ar_world.specs.Finding.{with_owner}
use Rattle.ar_world.specs.State.{Moved, World, with_authority, with_log, with_messages}

-- the world with what became of a log and the pool, and what is printed of it
abbrev pub log_made : World → ℕ → LogNode × (List Pooled × List Happening) → Moved
log_made w number made = (record (with_log w number made.0) { pool = made.1.0 }, made.1.1)

-- of an authority
abbrev pub authority_made : World → ℕ → AuthorityNode × (List Pooled × List Happening) → Moved
authority_made w number made = (record (with_authority w number made.0) { pool = made.1.0 }, made.1.1)

-- of an owner
abbrev pub owner_made : World → Owner × (List Pooled × List Happening) → Moved
owner_made w made = (record (with_owner w made.0) { pool = made.1.0 }, made.1.1)

-- what a party sends enters the pool
abbrev pub posted : World → Party → Sent → Moved
posted w party sent = with_messages w (map (pooled_from party) sent.messages)
