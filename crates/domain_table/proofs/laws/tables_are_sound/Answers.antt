use Rattle.domain_table.proofs.Applied.{none_sound, ripe_follows, applied}
use Rattle.domain_table.proofs.Steps.{unit_holds}
use Rattle.domain_table.proofs.laws.tables_are_sound.Goals as goal

pub returns-clause-none : goal.returns-clause-none
returns-clause-none c = none_sound

pub returns-clause-ripening : goal.returns-clause-ripening
returns-clause-ripening c = λ t e sound. (ripe_follows (λ name d. Unit {0}) t e sound (unit_holds t)).sound

pub returns-clause-applying : goal.returns-clause-applying
returns-clause-applying c = λ t u e changes sound low are is. (applied (λ name d. Unit {0}) changes e t u low is sound (unit_holds t) are (λ k d l. tt)).sound
