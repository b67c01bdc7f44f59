-- What becomes of what a log holds where it signs a statement of its own, and where it counts a ballot or a status, and what
-- it needs for that. All else is as before.
use Rattle.std.specs.Prelude.{◌≡◌, ℕ, ◌<◌, List, [], ◌∷◌, Option, Ok, vec_capacity, vec_len}
use Rattle.ar_statement.specs.Claims.{text_of}
use Rattle.key_roll.specs.Due.{DueParts}
use Rattle.key_roll.specs.Entry.{entered}
use Rattle.ar_council.specs.Room.{HasRoom}
use Rattle.vote_quorum.specs.declared.value.Value.{Value}
use Rattle.domain_table.specs.Tables.{Table}
use Rattle.epoch_log.specs.Answers.{first_entered}
use Rattle.epoch_log.specs.Calls.{casting, log_with_ballot, own_status_text, own_vote_text, proposal_texts, propose_claim, proposing, stating, with_report}
use Rattle.epoch_log.specs.Log.{having_tried, moved, parts_of, state_in}
use Rattle.epoch_log.specs.State.{epoch_of}
use Rattle.epoch_log.specs.Told.{value_of}
use Rattle.epoch_log.specs.declared.entries.Voted.{Voted}
use Rattle.epoch_log.specs.declared.parts.Parts.{Parts}

-- ---- the log's own proposal

-- The log can sign a proposal and its vote for it: the vote is of the epoch, both texts have leaves, and there is room.
pub record CanSignProposal (p : Parts) (vote : Voted) : Type 0 where
  pub epoch : vote.epoch ≡ epoch_of (state_in p)
  pub leaves : HasRoom (state_in p).past.signed (proposal_texts (state_in p) (value_of vote))
  pub room : 1 < p.past.signed.room
  pub voted : vec_len p.past.voted < vec_capacity p.past.voted

-- The log signed the proposal, which is due so, and then its vote, of which its record tells, with the table that was tried.
pub record SignsProposal (old new : Parts) (vote : Voted) (tried : Table) (answer : DueParts) : Type 0 where
  pub due : first_entered (state_in old).past.signed (text_of (propose_claim (state_in old) (value_of vote))) (own_vote_text (state_in old) (value_of vote)) ≡ Ok answer
  pub parts : parts_of new ≡ moved (parts_of old) (casting (proposing (state_in old) (value_of vote)) vote)
  pub tables : new.tables ≡ having_tried old.tables tried
  pub seen : new.past.seen ≡ old.past.seen
  pub ended : new.past.ended ≡ old.past.ended
  pub votes : new.votes ≡ old.votes

-- ---- the log's own status

-- The log can sign its status: its text has a leaf, and there is room.
pub record CanSignStatus (p : Parts) : Type 0 where
  pub leaf : HasRoom (state_in p).past.signed (own_status_text (state_in p) ∷ [])
  pub room : 0 < p.past.signed.room
  pub stated : vec_len p.past.stated < vec_capacity p.past.stated

-- The log signed its status, which is due so, and its record tells of it.
pub record SignsStatus (old new : Parts) (answer : DueParts) : Type 0 where
  pub due : entered (state_in old).past.signed (own_status_text (state_in old)) ≡ Ok answer
  pub parts : parts_of new ≡ moved (parts_of old) (stating (state_in old))
  pub tables : new.tables ≡ old.tables
  pub seen : new.past.seen ≡ old.past.seen
  pub ended : new.past.ended ≡ old.past.ended
  pub statuses : new.statuses ≡ old.statuses

-- ---- what is counted

-- there is room for a ballot more
pub record HasRoomForBallot (p : Parts) : Type 0 where
  pub seen : vec_len p.past.seen < vec_capacity p.past.seen
  pub votes : vec_len p.votes < vec_capacity p.votes

-- a log's ballot was seen and counted
pub record CountsBallot (old new : Parts) (log : ℕ) (value : Value) (signature : Option (List ℕ)) : Type 0 where
  pub parts : parts_of new ≡ moved (parts_of old) (log_with_ballot (state_in old) log value signature)
  pub tables : new.tables ≡ old.tables
  pub ended : new.past.ended ≡ old.past.ended

-- there is room for a status more
pub record HasRoomForReport (p : Parts) : Type 0 where
  pub seen : vec_len p.past.seen < vec_capacity p.past.seen
  pub statuses : vec_len p.statuses < vec_capacity p.statuses

-- a log's status was seen and counted
pub record CountsReport (old new : Parts) (log : ℕ) (value : Option Value) (signature : Option (List ℕ)) : Type 0 where
  pub parts : parts_of new ≡ moved (parts_of old) (with_report (state_in old) log value signature)
  pub tables : new.tables ≡ old.tables
  pub ended : new.past.ended ≡ old.past.ended
