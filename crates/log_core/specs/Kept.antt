-- What is kept of a log between two steps, beside what is kept of its record and its counts.
use Rattle.std.specs.Prelude.{◌≡◌, ◌^◌, ◌<◌, ◌≤◌, All, length, Ok}
use Rattle.ar_cert.specs.Changes.{Change, IsChange}
use Rattle.party_keys.specs.Directory.{Directory}
use Rattle.ar_council.specs.Council.{council_of}
use Rattle.epoch_log.specs.Right.{SawEndorsements}
use Rattle.epoch_log.specs.State.{IsKeptLog}
use Rattle.log_sending.specs.Checks.{most_queued}
use Rattle.log_sending.specs.Sendable.{CanBeSent}
use Rattle.ar_claims.specs.Lists.{endorsements_in}
use Rattle.log_sending.specs.Signers.{signers}
use Rattle.log_core.specs.State.{CoreState}

-- a change that was queued: it has a text, and its endorsements are valid under the keys that the log knows
pub record WasQueued (keys : Directory) (change : Change) : Type 0 where
  pub is_change : IsChange change
  pub verified : signers keys (endorsements_in change) ≡ Ok tt

-- The sizes of the log's council are those of its directory, what it may have to send fits into messages, and the
-- endorsements of each queued change were seen and are valid.
pub record IsKeptCore (s : CoreState) : Type 0 where
  pub log : IsKeptLog s.log
  pub sendable : CanBeSent s.log
  pub council : s.log.council ≡ council_of s.keys
  pub logs : 0 < s.log.council.logs
  pub endorsed : All (SawEndorsements s.log.past.seen) s.queue
  pub queued : All (WasQueued s.keys) s.queue
  pub few : length s.queue ≤ most_queued
  pub len : s.signature_len < 2 ^ 16
