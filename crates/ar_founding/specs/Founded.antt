-- Logs and authorities before they are there: where each begins, and its first key.
use Rattle.std.specs.Prelude.{ℕ, ◌<◌, ◌^◌, List, [], ◌∷◌, drop, length, map, slice_get, Option, Some, Ok, Result}
use Rattle.std.specs.List.{range_with_len}
use Rattle.ar_base.specs.Chaining.{◌>>=◌}
use Rattle.ar_statement.specs.declared.party.Role.TheVariants.{LogServer, Authority}
use Rattle.ar_nodes.specs.authority_core.Keyed as authority
use Rattle.ar_nodes.specs.authority_core.State.{AuthorityState}
use Rattle.key_roll.specs.Ring.{RingParts}
use Rattle.ar_nodes.specs.log_core.Keyed as log
use Rattle.ar_nodes.specs.log_core.State.{CoreState}
use Rattle.party_keys.specs.Directory.{Directory}
use Rattle.report_text.specs.declared.happening.Happening.{Happening}
use Rattle.ar_nodes.specs.Finding.{named}
use Rattle.ar_nodes.specs.Parties.{AuthorityNode, CheckParts, LogNode}
use Rattle.ar_nodes.specs.declared.fault.WorldFault.{WorldFault}
use Rattle.ar_founding.specs.FirstKeys.{first_ring, keys_made, Setup, key_for, keys_for}
use Rattle.ar_founding.specs.Founding.{authority_node, fresh_core, fresh_state, genesis_of, log_node}

-- where all logs begin, and so many authorities
abbrev pub fresh_cores : Setup → Directory → List CoreState
fresh_cores setup genesis = map (λ number. fresh_core genesis number (key_for setup LogServer number)) (range_with_len 0 setup.logs)

abbrev pub fresh_states : Setup → Directory → ℕ → List AuthorityState
fresh_states setup genesis count = map (λ number. fresh_state genesis number (key_for setup Authority number)) (range_with_len 0 count)

-- what the line `authorities` makes: the directory with which all begin, where each log and each authority begins, the rings
-- of the authorities, and what is printed
pub record Founded : Type 0 where
  pub genesis : Directory
  pub cores : List CoreState
  pub states : List AuthorityState
  pub rings : List RingParts
  pub said : List Happening

abbrev pub founded_with : Setup → ℕ → Directory → Founded
founded_with setup count genesis = record {
  genesis = genesis;
  cores = fresh_cores setup genesis;
  states = fresh_states setup genesis count;
  rings = map first_ring (keys_for setup Authority count);
  said = keys_made setup Authority count;
}

abbrev pub founded_of : Setup → ℕ → Result Founded WorldFault
founded_of setup count = do
  genesis ← named 1 (genesis_of setup count)
  Ok (founded_with setup count genesis)

-- ---- the parties of these

-- each log with its ring
abbrev pub logs_of : List CoreState → List RingParts → List (Option LogNode)
logs_of [] rings = []
logs_of (core ∷ cores) [] = []
logs_of (core ∷ cores) (ring ∷ rings) = Some (log_node core ring) ∷ logs_of cores rings

-- the ring is that of the log's book
abbrev pub IsLogRing : CoreState → RingParts → Type 0
IsLogRing core ring = log.IsRingOf core ring.keys

-- each authority with its ring, and the checks in order while there are any
abbrev pub authorities_of : List AuthorityState → List RingParts → List CheckParts → List (Option AuthorityNode)
authorities_of [] rings checks = []
authorities_of (state ∷ states) [] checks = []
authorities_of (state ∷ states) (ring ∷ rings) checks =
    Some (authority_node state ring (slice_get checks 0)) ∷ authorities_of states rings (drop 1 checks)

-- the ring is that of the authority's book
abbrev pub IsAuthorityRing : AuthorityState → RingParts → Type 0
IsAuthorityRing state ring = authority.IsRingOf state ring.keys

-- each of these has its ring
abbrev pub EachHasRing : {X : Type 0} → (X → RingParts → Type 0) → List X → List RingParts → Type 0
EachHasRing own [] rings = Unit {0}
EachHasRing own (x ∷ xs) [] = ⊥
EachHasRing own (x ∷ xs) (ring ∷ rings) = own x ring × EachHasRing own xs rings

-- the rings of the logs, whose keys were made before
abbrev pub log_rings : Setup → List RingParts
log_rings setup = map first_ring (keys_for setup LogServer setup.logs)

-- each has the ring of its book, and each log a number that a party can have
pub record AreOwn (setup : Setup) (founded : Founded) : Type 0 where
  pub logs : EachHasRing IsLogRing founded.cores (log_rings setup)
  pub authorities : EachHasRing IsAuthorityRing founded.states founded.rings
  pub few : length founded.cores < 2 ^ 16
