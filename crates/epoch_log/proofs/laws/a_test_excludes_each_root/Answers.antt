use Rattle.epoch_log.proofs.Counted.{excludes-each}
use Rattle.epoch_log.proofs.Read.{excludes-tested}
use Rattle.epoch_log.proofs.laws.a_test_excludes_each_root.Goals as goal

pub returns : goal.returns
returns c = λ council statuses. (excludes-each council statuses, excludes-tested council statuses)
