use Rattle.std.proofs.Common.{length, sym, ap, arith}
use Rattle.ar_cert.specs.Changes.{Endorsement}
use Rattle.ar_cert.proofs.Lengths.{length-endorsements_left}
use Rattle.ar_cert.proofs.writing.endorsements_len.Goals as goal

pub loop-endorsement-preserved : goal.loop-endorsement-preserved
loop-endorsement-preserved c =
    let step = length-endorsements_left c.args.endorsements.now c.loop-endorsement.endorsement-index c.endorsement-item.result c.loop-endorsement-test.true (sym c.endorsement-item.is) in
    let signature = ap (λ (e : Endorsement). length e.signature) c.endorsement.view_is in
    let kept = c.loop-endorsement.invariant in
    (omega (arith, step, kept.0, c.len.ensures, signature), omega (arith, kept.1, c.len.ensures, c.endorsement.invariant))
