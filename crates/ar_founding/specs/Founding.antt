-- Logs and authorities that have done nothing yet.
use Rattle.std.specs.Prelude.{ℕ, List, [], map, slice_get, Option, Some}
use Rattle.std.specs.List.{range_with_len}
use Rattle.std.specs.Result.{result_ok}
use Rattle.ar_council.specs.Council.{council_of}
use Rattle.ar_statement.specs.declared.party.Role.TheVariants.{LogServer, Authority}
use Rattle.ar_nodes.specs.authority_core.Calls.{fresh_authority}
use Rattle.ar_nodes.specs.authority_core.State.{AuthorityState}
use Rattle.epoch_log.specs.Calls.{fresh}
use Rattle.key_roll.specs.Ring.{RingParts, ring_signature_len}
use Rattle.lms_tree.specs.Key.{public_of}
use Rattle.lms_tree.specs.KeyParts.{KeyParts}
use Rattle.ar_nodes.specs.log_core.State.{CoreState}
use Rattle.party_keys.specs.Directory.{Directory, directory_of}
use Rattle.ar_nodes.specs.Parties.{AuthorityNode, CheckParts, LogNode}
use Rattle.lms_tree.specs.LmsKind.{leaves_of}
use Rattle.ar_founding.specs.FirstKeys.{Setup, first_ring, key_for, keys_for}

-- the directory of the first keys, with so many authorities, where there may be so many
abbrev pub genesis_of : Setup → ℕ → Option Directory
genesis_of setup count =
    result_ok (directory_of (map public_of (keys_for setup LogServer setup.logs)) (map public_of (keys_for setup Authority count)) setup.quorum)

-- a log that stands here, with its ring
abbrev pub log_node : CoreState → RingParts → LogNode
log_node core ring = record { core = core; keys = ring.keys; taken = [] }

-- an authority that stands here, with its ring and its check
abbrev pub authority_node : AuthorityState → RingParts → Option CheckParts → AuthorityNode
authority_node state ring check = record { state = state; keys = ring.keys; check = check }

-- a log that has done nothing yet
abbrev pub fresh_core : Directory → ℕ → KeyParts → CoreState
fresh_core genesis number key = record {
  log = fresh number (council_of genesis) (leaves_of key.lms);
  keys = genesis;
  queue = [];
  signature_len = ring_signature_len key;
}

abbrev pub fresh_log : Directory → ℕ → KeyParts → LogNode
fresh_log genesis number key = log_node (fresh_core genesis number key) (first_ring key)

-- an authority that has done nothing yet, with its check
abbrev pub fresh_state : Directory → ℕ → KeyParts → AuthorityState
fresh_state genesis number key = record { me = number; keys = genesis; signature_len = ring_signature_len key; past = fresh_authority (leaves_of key.lms) }

abbrev pub founded_authority : Directory → ℕ → KeyParts → Option CheckParts → AuthorityNode
founded_authority genesis number key = authority_node (fresh_state genesis number key) (first_ring key)

-- all logs, and so many authorities, which take the checks in order
abbrev pub fresh_logs : Setup → Directory → List (Option LogNode)
fresh_logs setup genesis = map (λ number. Some (fresh_log genesis number (key_for setup LogServer number))) (range_with_len 0 setup.logs)

abbrev pub new_authorities : Setup → Directory → List CheckParts → ℕ → List (Option AuthorityNode)
new_authorities setup genesis checks count =
    map (λ number. Some (founded_authority genesis number (key_for setup Authority number) (slice_get checks number))) (range_with_len 0 count)
