use Rattle.std.proofs.Common.{sym, arith}
use Rattle.ar_cert.proofs.Lengths.{length-endorsements_left}
use Rattle.ar_cert.proofs.writing.append_endorsements.Goals as goal

pub append_endorsement-requires : goal.append_endorsement-requires
append_endorsement-requires c =
    let step = length-endorsements_left c.args.endorsements.now c.loop-endorsement.endorsement-index c.endorsement-item.result c.loop-endorsement-test.true (sym c.endorsement-item.is) in
    omega (arith, step, c.loop-endorsement.invariant.room)
