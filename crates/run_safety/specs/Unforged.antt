-- The premise on forgery, of keys and bytes alone, and what follows from it.
use Rattle.std.specs.Prelude.{◌≡◌, ◌⊎◌, ℕ, List, Contains, flat_map, map, Option, Some, None, Ok}
use Rattle.std.specs.Option.{option_map}
use Rattle.ar_bytes.specs.Reading.{whole}
use Rattle.ar_claims.specs.Claimed.{claimed_in_bytes}
use Rattle.ar_claims.specs.Verified.{IsVerifiedIn}
use Rattle.ar_message.specs.Confirmation.{Confirmation, confirmation_at}
use Rattle.ar_world.specs.ar_nodes.Parties.{AuthorityNode, LogNode}
use Rattle.ar_world.specs.ar_nodes.Pool.{Pooled}
use Rattle.ar_safety.specs.Held.{AcceptedBytes}
use Rattle.ar_safety.specs.Records.{carried}
use Rattle.ar_statement.specs.declared.party.Party.{Party}
use Rattle.ar_statement.specs.declared.party.Role.{Role}
use Rattle.ar_statement.specs.declared.party.Role.TheVariants.{LogServer, Authority, Owner, Client}
use Rattle.ar_statement.specs.declared.text.SeenText.{SeenText}
use Rattle.ar_world.specs.Finding.{authority_at, log_at}
use Rattle.ar_world.specs.State.{World}
use Rattle.party_keys.specs.Signers.{Claimed}
use Rattle.run_safety.specs.Own.{KnowsReal, NoneForged, PartyParts, SawSigned}

-- ---- the honest parties of a world

abbrev pub log_parts : LogNode → PartyParts
log_parts node = record { knows = node.core.keys; saw = node.core.log.past.seen; ring = node.keys; book = node.core.log.past.signed }

abbrev pub authority_parts : AuthorityNode → PartyParts
authority_parts node = record { knows = node.state.keys; saw = node.state.past.seen; ring = node.keys; book = node.state.past.signed }

-- the honest party of a role with a number
abbrev pub parts_in : World → Role → ℕ → Option PartyParts
parts_in w LogServer number = option_map log_parts (log_at w number)
parts_in w Authority number = option_map authority_parts (authority_at w number)
parts_in w Owner number = None
parts_in w Client number = None

abbrev pub parts_of : World → Party → Option PartyParts
parts_of w party = parts_in w party.role party.number

-- ---- what stands in messages

-- the bytes of each message
abbrev pub messages_of : List Pooled → List (List ℕ)
messages_of pool = map (λ p. p.bytes) pool

-- What all messages of a world say was signed: each claim that stands in them, at a place whose signer a log, an authority or
-- a client verifies.
abbrev pub shown : World → List Claimed
shown w = flat_map claimed_in_bytes (messages_of w.pool)

-- ---- what was taken of them

-- each text that a party saw of another one is one of the claims, with a signature that is valid under the keys that it knows
abbrev pub SawShown : Party → List Claimed → PartyParts → Type 0
SawShown party claims p = (t : SeenText) → Contains p.saw t → (t.party ≡ party) ⊎ IsVerifiedIn p.knows claims t

-- Whatever was taken from others is one of the claims of the messages, with a signature that is valid under the keys that its
-- holder knows: what each honest log and authority saw of another party, each Roll from which clients learnt a key, and each
-- statement of a confirmation that they accepted.
pub record AllShown (w : World) : Type 0 where
  pub saw : (party : Party) (p : PartyParts) → parts_of w party ≡ Some p → SawShown party (shown w) p
  pub learned : (t : SeenText) → Contains w.learned t → IsVerifiedIn w.clients (shown w) t
  pub judged : (t : AcceptedBytes) (c : Confirmation) → Contains w.judged t → whole confirmation_at t.bytes ≡ Ok c → (s : SeenText) → Contains (carried c) s → IsVerifiedIn w.clients (shown w) s

-- ---- the premise

-- No signature that is valid under an honest party's own key stands in a message, but on what that party signed.
abbrev pub Unforged : World → Type 0
Unforged w = NoneForged (parts_of w) (shown w)

-- ---- what follows

-- All that is known of honest parties is real: clients, and each honest log and authority, know none but their real keys; and
-- what each of these saw of an honest party, and each Roll of one from which clients learnt a key, stands in that party's book.
pub record AllReal (w : World) : Type 0 where
  pub clients : KnowsReal (parts_of w) w.clients
  pub learned : SawSigned (parts_of w) w.learned
  pub knows : (party : Party) (p : PartyParts) → parts_of w party ≡ Some p → KnowsReal (parts_of w) p.knows
  pub saw : (party : Party) (p : PartyParts) → parts_of w party ≡ Some p → SawSigned (parts_of w) p.saw
