use Rattle.ar_council.specs.Council.{council_of}
use Rattle.epoch_log.proofs.Plans.{excludes-asked}
use Rattle.epoch_log.proofs.closing.excludes.Goals as goal

pub returns : goal.returns
returns c =
    excludes-asked (council_of c.args.directory.now) c.args.reports.now c.logs.result c.quorum.result c.excluded.result c.is_ok.result c.logs.ensures.value
    c.quorum.ensures.value c.excluded.ensures.ok c.is_ok.ensures.value
