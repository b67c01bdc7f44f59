use Rattle.bound_challenge.proofs.Parts.{apart_kinds}
use Rattle.bound_challenge.proofs.laws.no_staple_is_live.Goals as goal

pub returns : goal.returns
returns c = apart_kinds
