-- What a log is between two steps, what it is asked, and what a step makes of it.
use Rattle.std.specs.Prelude.{ℕ, List, Result}
use Rattle.lms_tree.specs.declared.public_key.LmsPublic.{LmsPublic}
use Rattle.ar_cert.specs.Changes.{Change}
use Rattle.ar_message.specs.declared.unsigned.Unsigned.{Unsigned}
use Rattle.party_keys.specs.Directory.{Directory}
use Rattle.epoch_log.specs.State.{LogState}
use Rattle.log_sending.specs.declared.refusal.LogRefusal.{LogRefusal}

-- Where the log stands: its record, what it has counted and its newest decision; the keys that it knows; the changes
-- that wait to be proposed, the oldest first; and how many bytes each of its signatures has.
pub record CoreState : Type 0 where
  pub log : LogState
  pub keys : Directory
  pub queue : List Change
  pub signature_len : ℕ

-- what a log is asked
pub data Input : Type 0 where
  -- to take a message
  takes : (bytes : List ℕ) → Input
  -- to propose
  proposes : Input
  -- to state what it did in the epoch
  passes : Input
  -- to go on to this key
  rolls : (key : LmsPublic) → Input

-- what a step sends, where its own signatures are due, and what the log is behind it
pub record LogStep : Type 0 where
  pub unsigned : Unsigned
  pub after : CoreState

-- the answer of a row: a refusal, which leaves the log as it is, or what the step makes
abbrev pub LogAnswer : Type 0
LogAnswer = Result LogStep LogRefusal

-- the most messages that a step sends: a proposal, and the decision where the log's own vote is a quorum
abbrev pub most_sent : ℕ
most_sent = 2
