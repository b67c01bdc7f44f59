-- What is kept of the core is kept of what clauses see of it.
use Rattle.std.proofs.Common.{subst}
use Rattle.log_core.specs.Kept.{IsKeptCore}
use Rattle.log_core.proofs.log_core.LogCore.told.Goals as goal

pub returns : goal.returns
returns c = subst IsKeptCore c.self.view_is c.self.invariant
