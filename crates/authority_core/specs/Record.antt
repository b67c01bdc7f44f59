-- What an authority remembers, as plain data.
use Rattle.std.specs.Prelude.{List}
use Rattle.ar_statement.specs.declared.text.SeenText.{SeenText}
use Rattle.key_roll.specs.Book.{RollBook}
use Rattle.authority_core.specs.declared.entries.Approved.{Approved}
use Rattle.authority_core.specs.declared.entries.Kept.{Kept}

-- whose statements it saw, what it signed and with which keys, what its check said yes to, and what it keeps of logs'
-- confirmations
pub record AuthorityRecord : Type 0 where
  pub seen : List SeenText
  pub signed : RollBook
  pub asked : List Approved
  pub kept : List Kept
