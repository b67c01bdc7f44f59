-- What a log's record becomes: it only grows.
use Rattle.ar_base.specs.Prefixes.{BeginsWith}
use Rattle.key_roll.specs.Later.{IsLaterBook}
use Rattle.epoch_log.specs.Record.{LogRecord}

-- A later record of the same log: what it saw, signed, voted, stated, how its epochs ended and what it confirmed stands in
-- the later one as it was, and what is new stands behind it.
pub record LogGrows (r later : LogRecord) : Type 0 where
  pub seen : BeginsWith later.seen r.seen
  pub signed : IsLaterBook r.signed later.signed
  pub voted : BeginsWith later.voted r.voted
  pub stated : BeginsWith later.stated r.stated
  pub ended : BeginsWith later.ended r.ended
  pub confirmed : BeginsWith later.confirmed r.confirmed
