use Rattle.domain_table.proofs.Applied.{ripe_follows, applied}
use Rattle.domain_table.proofs.Steps.{unit_holds}
use Rattle.domain_table.proofs.laws.chains_only_grow.Goals as goal

pub returns-clause-ripening : goal.returns-clause-ripening
returns-clause-ripening c = λ t e name sound. (ripe_follows (λ n d. Unit {0}) t e sound (unit_holds t)).begins name

pub returns-clause-applying : goal.returns-clause-applying
returns-clause-applying c = λ t u e changes name sound low are is. (applied (λ n d. Unit {0}) changes e t u low is sound (unit_holds t) are (λ k d l. tt)).begins name
