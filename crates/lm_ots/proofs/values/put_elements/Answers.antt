use Rattle.std.proofs.Common.{◌∙◌, ◌<◌, [], arith, length}
use Rattle.std.proofs.Math.ListN.{length-set}
use Rattle.lm_ots.specs.Candidate.{element}
use Rattle.lm_ots.proofs.WayLemmas.{count_of-le, put_more}
use Rattle.lm_ots.proofs.values.put_elements.Goals as goal

pub loop-i-preserved : goal.loop-i-preserved
loop-i-preserved c =
    let kept = c.loop-i.invariant in
    let values = c.loop-i.values in
    let few = count_of-le c.args.kind in
    let room : c.loop-i.i < length values = omega (arith, c.p-i-end.ensures) in
    record {
      done = put_more (element c.args.signature.now) [] values c.loop-i.i c.element.result room c.element.ensures kept.done;
      width = length-set values c.loop-i.i c.element.result ∙ kept.width;
    }
