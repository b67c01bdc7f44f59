use Rattle.ar_statement.specs.Claims.{handover}
use Rattle.owner_core.proofs.Again.{handed}
use Rattle.owner_core.proofs.laws.a_handover_is_signed_once.Goals as goal

pub returns : goal.returns
returns c = λ me later after more digest bytes sound key e grown.
    handed c.a_statement_keeps_its_leaf.ensures me later after more (handover digest) bytes sound key e grown
