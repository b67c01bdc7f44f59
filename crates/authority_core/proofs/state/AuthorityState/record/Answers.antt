use Rattle.std.proofs.Common.{subst}
use Rattle.authority_core.specs.State.{IsAuthority}
use Rattle.authority_core.proofs.state.AuthorityState.record.Goals as goal

pub returns-clause-honest : goal.returns-clause-honest
returns-clause-honest c = (subst IsAuthority c.self.view_is c.self.invariant).honest
