use Rattle.std.proofs.Common.{◌≡◌, ◌∙◌, ap, ◌<◌, arith, length}
use Rattle.std.proofs.Math.ListN.{length-set}
use Rattle.lm_ots.specs.OtsKind.{width_of}
use Rattle.lm_ots.specs.Digits.{coef, digit}
use Rattle.lm_ots.proofs.WayLemmas.{count_of-le, put_more}
use Rattle.lm_ots.proofs.digits.digits.Goals as goal

pub loop-i-preserved : goal.loop-i-preserved
loop-i-preserved c =
    let kept = c.loop-i.invariant in
    let digits = c.loop-i.digits in
    let i = c.loop-i.i in
    let few = count_of-le c.args.kind in
    let room : i < length digits = omega (arith, c.p-i-end.ensures) in
    let found : c.coef.result ≡ digit c.args.kind c.args.hash.now i =
    c.coef.ensures ∙ ap (λ s. coef s i (width_of c.args.kind)) c.with_checksum-text.ensures in
    record {
      done = put_more (digit c.args.kind c.args.hash.now) 0 digits i c.coef.result room found kept.done;
      width = length-set digits i c.coef.result ∙ kept.width;
    }
