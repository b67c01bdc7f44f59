use Rattle.epoch_log.proofs.Read.{open-excludes, open-quorum}
use Rattle.epoch_log.proofs.laws.an_open_epoch_has_no_quorum.Goals as goal

pub returns : goal.returns
returns c = record { quorum = open-quorum; excludes = open-excludes }
