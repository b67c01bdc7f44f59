-- What a log holds, where it stands by that, and what is kept between the two.
use Rattle.std.specs.Prelude.{◌≡◌, ℕ, ◌+◌, ◌≤◌, Some, None, vec_capacity, vec_len}
use Rattle.ar_council.specs.Council.{council_of}
use Rattle.party_keys.specs.Directory.{Directory}
use Rattle.domain_table.specs.Sound.{IsSound}
use Rattle.domain_table.specs.Tables.{Table}
use Rattle.epoch_log.specs.Ending.{own_table}
use Rattle.epoch_log.specs.Record.{LogRecord}
use Rattle.epoch_log.specs.State.{IsKeptLog, LogState, table_of}
use Rattle.epoch_log.specs.declared.parts.Parts.{Parts}
use Rattle.epoch_log.specs.declared.parts.Tables.{Tables}
use Rattle.epoch_log.specs.declared.past.Record.{Record}

-- what contracts see of a log: where it stands, and the keys that it knows
pub record LogParts : Type 0 where
  pub state : LogState
  pub keys : Directory

-- the same log where it stands elsewhere
abbrev pub moved : LogParts → LogState → LogParts
moved log state = record { state = state; keys = log.keys }

-- a record as plain data, without the room that its lists keep
abbrev pub record_of : Record → LogRecord
record_of r = record {
  seen = r.seen.items;
  signed = r.signed.book;
  voted = r.voted.items;
  stated = r.stated.items;
  ended = r.ended.items;
  confirmed = r.confirmed.items;
}

-- where a log stands, by what it holds
abbrev pub state_in : Parts → LogState
state_in p = record {
  me = p.number;
  council = council_of p.directory;
  past = record_of p.past;
  votes = p.votes.items;
  statuses = p.statuses.items;
  newest = p.newest;
}

abbrev pub parts_of : Parts → LogParts
parts_of p = record { state = state_in p; keys = p.directory }

-- a table in which an epoch begins, where none is tried yet
abbrev pub untried : Table → Tables
untried base = record { base = base; tried = None }

-- the same table with one that was tried
abbrev pub having_tried : Tables → Table → Tables
having_tried before tried = record { base = before.base; tried = Some tried }

-- the tables of a log that stands so: the base of the current epoch, and where the changes of the own vote lead
abbrev pub standing_tables : LogState → Tables
standing_tables s = record { base = table_of s; tried = own_table s }

-- What a log keeps: its record is honest with all that belongs to it, and its tables are those of where it stands.
pub record IsLog (p : Parts) : Type 0 where
  pub kept : IsKeptLog (state_in p)
  pub tables : p.tables ≡ standing_tables (state_in p)
  pub sound : IsSound p.tables.base

-- there is room in the lists of a record: for so many texts seen and statements signed, and for one entry more of each other
pub record HasRoomIn (seen signed : ℕ) (r : Record) : Type 0 where
  pub seen_room : vec_len r.seen + seen ≤ vec_capacity r.seen
  pub signed_room : signed ≤ r.signed.room
  pub voted_room : vec_len r.voted + 1 ≤ vec_capacity r.voted
  pub stated_room : vec_len r.stated + 1 ≤ vec_capacity r.stated
  pub ended_room : vec_len r.ended + 1 ≤ vec_capacity r.ended
  pub confirmed_room : vec_len r.confirmed + 1 ≤ vec_capacity r.confirmed

-- the same, and for one ballot and one status more
pub record HasRoomFor (seen signed : ℕ) (p : Parts) : Type 0 where
  pub past_room : HasRoomIn seen signed p.past
  pub votes_room : vec_len p.votes + 1 ≤ vec_capacity p.votes
  pub statuses_room : vec_len p.statuses + 1 ≤ vec_capacity p.statuses
