-- Parties apart from their world, and what becomes of it where one of them has replied to a message already.
use Rattle.std.specs.Prelude.{ℕ, List, [], Option}
use Rattle.ar_nodes.specs.Acting.{Reply, authority_took, bytes_of, log_answers, logs_behind, settled_in}
use Rattle.ar_nodes.specs.Parties.{AuthorityNode, LogNode}
use Rattle.ar_statement.specs.Claims.{authority_party, log_party}
use Rattle.ar_statement.specs.declared.party.Party.{Party}
use Rattle.ar_nodes.specs.log_core.Row.{row}
use Rattle.ar_nodes.specs.log_core.State.{takes}
use Rattle.owner_check.specs.declared.answer.Outcome.{Outcome}
use Rattle.ar_world.specs.Finding.{message_at}
use Rattle.ar_world.specs.State.{Moved, World, with_authority, with_log}

-- ---- parties apart from their world

-- the world with these logs and authorities
abbrev pub with_parties : World → List (Option LogNode) → List (Option AuthorityNode) → World
with_parties w logs authorities = record w { logs = logs; authorities = authorities }

-- the world without its logs and authorities
abbrev pub without_parties : World → World
without_parties w = with_parties w [] []

-- what a log makes of a message of the pool, which it has not noted yet, and its reply
abbrev pub log_apart : World → ℕ → LogNode → LogNode × Reply
log_apart w message node = log_answers node (row node.core (takes (bytes_of (message_at w message))))

-- what an authority makes of it; a check that tells nothing of itself says this
abbrev pub authority_apart : Outcome → World → ℕ → AuthorityNode → AuthorityNode × Reply
authority_apart says w message node = authority_took says node (bytes_of (message_at w message))

-- ---- replies that come later

-- A party has replied so to a message of the pool: that the message was delivered is noted, what the party sends is in the
-- pool, and a log that did not refuse notes that it took the message. And what is printed of it.
abbrev pub settled : World → ℕ → Party → Reply → Moved
settled w message who reply =
    let made = settled_in w.pool message who reply
    in (record w { logs = logs_behind w.logs message who reply; pool = made.0 }, made.1)

-- where a log is in its place as it is then
abbrev pub log_settled : World → ℕ → ℕ → LogNode × Reply → Moved
log_settled w message number made = settled (with_log w number made.0) message (log_party number) made.1

-- or an authority
abbrev pub authority_settled : World → ℕ → ℕ → AuthorityNode × Reply → Moved
authority_settled w message number made = settled (with_authority w number made.0) message (authority_party number) made.1
