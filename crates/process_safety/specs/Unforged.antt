-- The premise on forgery of a network, of keys and bytes alone, and what follows from it.
use Rattle.std.specs.Prelude.{◌≡◌, ℕ, Bool, if◌then◌else◌, List, [], ◌∷◌, ◌++◌, length, map, flat_map, Option, Some, None}
use Rattle.ar_claims.specs.Claimed.{claimed_in_bytes}
use Rattle.ar_safety.specs.Held.{honest_records}
use Rattle.ar_statement.specs.Claims.{authority_party, log_party}
use Rattle.ar_statement.specs.declared.party.Party.{Party}
use Rattle.ar_statement.specs.declared.party.Role.{Role}
use Rattle.ar_statement.specs.declared.party.Role.TheVariants.{LogServer, Authority, Owner, Client}
use Rattle.authority_keeper.specs.Inputs as authority_inputs
use Rattle.authority_keeper.specs.Keeping.{AuthorityStanding}
use Rattle.log_core.specs.State as log_state
use Rattle.log_journal.specs.Inputs as log_inputs
use Rattle.log_journal.specs.Steps.{LogStanding}
use Rattle.party_keys.specs.Signers.{Claimed}
use Rattle.run_safety.specs.Own.{HonestParties, KnowsReal, NoneForged, PartyParts, SawSigned}
use Rattle.process_safety.specs.Network.{Network, bytes_of_act, clients_in, is_honest_in}

-- ---- the honest parties of a network

abbrev pub log_has : LogStanding → PartyParts
log_has s = record { knows = s.core.keys; saw = s.core.log.past.seen; ring = s.keys; book = s.core.log.past.signed }

abbrev pub authority_has : AuthorityStanding → PartyParts
authority_has s = record { knows = s.state.keys; saw = s.state.past.seen; ring = s.keys; book = s.state.past.signed }

abbrev pub if_honest : Bool → PartyParts → Option PartyParts
if_honest honest p = if honest then Some p else None

-- what is told of the party of a role with a number, where it is honest
abbrev pub honest_at : Network → Role → ℕ → Option PartyParts
honest_at n LogServer number = if_honest (is_honest_in n (log_party number)) (log_has (n.logs number).standing)
honest_at n Authority number = if_honest (is_honest_in n (authority_party number)) (authority_has (n.authorities number).standing)
honest_at n Owner number = None
honest_at n Client number = None

abbrev pub honest_of : Network → HonestParties
honest_of n party = honest_at n party.role party.number

-- ---- what stands in messages

-- the message that a log is asked to take; an order has none
abbrev pub log_bytes : Option log_state.Input → List (List ℕ)
log_bytes None = []
log_bytes (Some (log_state.takes bytes)) = bytes ∷ []
log_bytes (Some log_state.proposes) = []
log_bytes (Some log_state.passes) = []
log_bytes (Some (log_state.rolls key)) = []

-- the same of an authority; a lesson has none
abbrev pub authority_bytes : Option authority_inputs.Input → List (List ℕ)
authority_bytes None = []
authority_bytes (Some (authority_inputs.takes bytes)) = bytes ∷ []
authority_bytes (Some (authority_inputs.rolls key)) = []
authority_bytes (Some (authority_inputs.learns name key)) = []
authority_bytes (Some (authority_inputs.forgets name key)) = []
authority_bytes (Some authority_inputs.retires) = []

-- the messages that stand in a log's journal, and in an authority's
abbrev pub log_messages : List (List ℕ) → List (List ℕ)
log_messages texts = flat_map (λ text. log_bytes (log_inputs.input_in text)) texts

abbrev pub authority_messages : List (List ℕ) → List (List ℕ)
authority_messages texts = flat_map (λ text. authority_bytes (authority_inputs.input_in text)) texts

-- all messages that honest logs and authorities took, and those of which clients learnt, and which they judged
abbrev pub taken_in : Network → List (List ℕ)
taken_in n =
    flat_map log_messages (honest_records log_party n.dishonest (λ number. (n.logs number).texts) (length n.directory.logs))
    ++ (flat_map authority_messages (honest_records authority_party n.dishonest (λ number. (n.authorities number).texts) (length n.directory.authorities))
    ++ map bytes_of_act n.acts)

-- what they say was signed
abbrev pub claims_in : Network → List Claimed
claims_in n = flat_map claimed_in_bytes (taken_in n)

-- ---- the premise

-- No signature that is valid under an honest party's own key stands in a message that was taken, learnt from or judged, but on what
-- that party signed, by its journal.
abbrev pub NoneForgedIn : Network → Type 0
NoneForgedIn n = NoneForged (honest_of n) (claims_in n)

-- ---- what follows

-- All that is known of honest parties is real: clients, and each honest log and authority, know none but their real keys; and
-- what each of these saw of an honest party, and each Roll of one from which clients learnt a key, stands in that party's book.
pub record IsRealIn (n : Network) : Type 0 where
  pub clients : KnowsReal (honest_of n) (clients_in n).directory
  pub learned : SawSigned (honest_of n) (clients_in n).learned
  pub knows : (party : Party) (p : PartyParts) → honest_of n party ≡ Some p → KnowsReal (honest_of n) p.knows
  pub saw : (party : Party) (p : PartyParts) → honest_of n party ≡ Some p → SawSigned (honest_of n) p.saw
