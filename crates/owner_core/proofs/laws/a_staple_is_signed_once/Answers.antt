use Rattle.ar_statement.specs.Claims.{answer}
use Rattle.owner_core.proofs.Again.{handed}
use Rattle.owner_core.proofs.laws.a_staple_is_signed_once.Goals as goal

pub returns : goal.returns
returns c = λ me later after more name digest challenge bytes sound key e grown.
    handed c.a_statement_keeps_its_leaf.ensures me later after more (answer name digest challenge) bytes sound key e grown
