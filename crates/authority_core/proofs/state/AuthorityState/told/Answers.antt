use Rattle.std.proofs.Common.{subst}
use Rattle.authority_core.specs.State.{IsAuthority}
use Rattle.authority_core.proofs.state.AuthorityState.told.Goals as goal

pub returns : goal.returns
returns c = subst IsAuthority c.self.view_is c.self.invariant
