-- What an authority's record becomes: it only grows.
use Rattle.ar_base.specs.Prefixes.{BeginsWith}
use Rattle.key_roll.specs.Later.{IsLaterBook}
use Rattle.authority_core.specs.Record.{AuthorityRecord}

-- A later record of the same authority: what it saw, signed, what its check said yes to, and what it keeps of logs'
-- confirmations stands in the later one as it was, and what is new stands behind it.
pub record AuthorityGrows (r later : AuthorityRecord) : Type 0 where
  pub seen : BeginsWith later.seen r.seen
  pub signed : IsLaterBook r.signed later.signed
  pub asked : BeginsWith later.asked r.asked
  pub kept : BeginsWith later.kept r.kept
