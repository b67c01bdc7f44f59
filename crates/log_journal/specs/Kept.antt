-- What contracts see of a log with its journal.
use Rattle.std.specs.Prelude.{◌≡◌}
use Rattle.kept_journal.specs.Settled.{JournalParts}
use Rattle.log_core.specs.Keyed.{KeyedLogParts}

pub record KeptParts (K : Type 0) : Type 0 where
  pub log : KeyedLogParts
  pub journal : JournalParts K

-- all is as it was; of the room for more keys nothing is said
pub record IsAsItWas {K : Type 0} (old new : KeptParts K) : Type 0 where
  pub core : new.log.core ≡ old.log.core
  pub keys : new.log.ring.keys ≡ old.log.ring.keys
  pub journal : new.journal ≡ old.journal
