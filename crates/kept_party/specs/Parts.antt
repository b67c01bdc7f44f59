-- What contracts see of a party that is kept: where it stands, and its journal.
use Rattle.kept_journal.specs.Settled.{JournalParts}

pub record WithJournal (P K : Type 0) : Type 0 where
  pub party : P
  pub journal : JournalParts K
