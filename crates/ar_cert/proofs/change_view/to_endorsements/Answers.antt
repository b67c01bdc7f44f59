use Rattle.std.proofs.Common.{[]}
use Rattle.ar_cert.proofs.Endorsements.{ascending_fits}
use Rattle.ar_cert.proofs.change_view.to_endorsements.Goals as goal

pub to_endorsement-requires : goal.to_endorsement-requires
to_endorsement-requires c =
    (ascending_fits c.args.endorsements.now 0 c.loop-endorsement.endorsement-index (record { authority = 0; signature = record { ref_ptr = (0, 0); now = [] } }) c.requires c.loop-endorsement-test.true).1
