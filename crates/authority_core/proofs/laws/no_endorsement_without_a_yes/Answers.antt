use Rattle.std.proofs.Common.{refl}
use Rattle.authority_core.proofs.Rows.{said-yes}
use Rattle.authority_core.proofs.laws.no_endorsement_without_a_yes.Goals as goal

pub returns : goal.returns
returns c = record { said = said-yes; retired = λ s owner cert said. refl }
