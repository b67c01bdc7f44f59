-- That an owner signs on: what its leaves served they serve.
use Rattle.std.specs.Prelude.{◌≡◌}
use Rattle.ar_base.specs.Prefixes.{BeginsWith}
use Rattle.owner_core.specs.State.{Owner}

-- an owner as it is later: it has the same key, with as many leaves, and its book begins with the statements that it had, so that each
-- leaf which served one serves it
pub record SignsOn (me later : Owner) : Type 0 where
  pub key : later.key ≡ me.key
  pub leaves : later.book.leaves ≡ me.book.leaves
  pub texts : BeginsWith later.book.texts me.book.texts
