-- What a log remembers, as plain data, and the table at the end of each epoch that follows from it.
use Rattle.std.specs.Prelude.{ℕ, zero, suc, ◌+◌, ◌==◌, List, find, length, Option, Some, None, unwrap_or}
use Rattle.std.specs.Option.{option_map}
use Rattle.ar_statement.specs.declared.text.SeenText.{SeenText}
use Rattle.key_roll.specs.Book.{RollBook}
use Rattle.domain_table.specs.Applying.{apply}
use Rattle.domain_table.specs.Tables.{Table, no_table}
use Rattle.epoch_log.specs.declared.entries.Confirmed.{Confirmed}
use Rattle.epoch_log.specs.declared.entries.Ended.{Ended}
use Rattle.epoch_log.specs.declared.entries.How.{How}
use Rattle.epoch_log.specs.declared.entries.How.TheVariants.{Decided, Skipped}
use Rattle.epoch_log.specs.declared.entries.Stated.{Stated}
use Rattle.epoch_log.specs.declared.entries.Voted.{Voted}

-- The record of a log: whose statements it saw, what it signed and with which keys, its votes, what it stated of
-- epochs, how its epochs ended, and what it confirmed.
pub record LogRecord : Type 0 where
  pub seen : List SeenText
  pub signed : RollBook
  pub voted : List Voted
  pub stated : List Stated
  pub ended : List Ended
  pub confirmed : List Confirmed

-- the current epoch: the one behind those that ended
abbrev pub current : List Ended → ℕ
current ended = length ended + 1

-- how an epoch ended, where it did
unfoldable pub ending : List Ended → ℕ → Option How
ending ended epoch = option_map (λ x. x.how) (find (λ x. x.epoch == epoch) ended)

-- The table behind an epoch, by the one before it and how the epoch ended: a decided epoch applies its changes, and
-- a skipped one leaves the table as it is, also what waits in it.
abbrev pub after_ending : ℕ → Option How → Table → Table
after_ending epoch None table = table
after_ending epoch (Some (Skipped statuses)) table = table
after_ending epoch (Some (Decided changes root)) table = unwrap_or (apply table epoch changes) table

-- the base of an epoch: the table in which it begins, by how the epochs before it ended; at first it is empty
unfoldable pub base_of : List Ended → ℕ → Table
base_of ended zero = no_table
base_of ended (suc epoch) = after_ending epoch (ending ended epoch) (base_of ended epoch)
