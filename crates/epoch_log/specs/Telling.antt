-- What another log tells of the end of an epoch, as calls take it.
use Rattle.std.specs.Prelude.{ℕ, List, map, Option, Vec, if◌then◌else◌}
use Rattle.std.specs.declared.alloc.Global.{Global}
use Rattle.vote_quorum.specs.declared.value.Value.{Value}
use Rattle.domain_table.specs.Tables.{Table}
use Rattle.domain_table.specs.Tree.{root_of}
use Rattle.epoch_log.specs.Calls.{SignedStatus}
use Rattle.epoch_log.specs.Ending.{may_end}
use Rattle.epoch_log.specs.Log.{untried}
use Rattle.epoch_log.specs.State.{LogState, table_of}
use Rattle.epoch_log.specs.declared.parts.Tables.{Tables}

-- statuses of logs with their signatures
abbrev pub statuses_in : List (ℕ × Option Value × Vec ℕ Global) → List SignedStatus
statuses_in statuses = map (λ s. (s.0, s.1, s.2.items)) statuses

-- votes of logs with their signatures
abbrev pub votes_in : List (ℕ × Vec ℕ Global) → List (ℕ × List ℕ)
votes_in votes = map (λ v. (v.0, v.1.items)) votes

-- a decision for this root, over the base of the current epoch
abbrev pub to_root : LogState → List ℕ → Value
to_root s root = record { base = root_of (table_of s); root = root }

-- the tables of the epoch that begins in this one, or those before it, where the epoch is the last and does not end
abbrev pub tables_if : LogState → Tables → Table → Tables
tables_if s before after = if may_end s.past then untried after else before
