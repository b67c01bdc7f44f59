use Rattle.std.proofs.Common.{◌≡◌, ap, arith, ◌*◌, ◌/◌, ◌^◌}
use Rattle.std.specs.List.{sum_by, range_with_len}
use Rattle.lm_ots.specs.OtsKind.{width_of}
use Rattle.lm_ots.specs.Digits.{gap, checksum}
use Rattle.lm_ots.proofs.DigitLemmas.{sum_by-gap-more, checksum_fits}
use Rattle.lm_ots.proofs.digits.checksum.Goals as goal

pub loop-i-preserved : goal.loop-i-preserved
loop-i-preserved c =
    let more = sum_by-gap-more c.args.kind c.args.hash.now c.loop-i.i in
    record { sum = cc; bound = omega arith }

pub returns : goal.returns
returns c =
    let whole : 256 / c.w.result ≡ 256 / width_of c.args.kind = ap (λ w. 256 / w) c.w.ensures in
    let at_end : c.loop-i.i ≡ 256 / width_of c.args.kind = omega arith in
    let ends = ap (λ n. sum_by (gap c.args.kind c.args.hash.now) (range_with_len 0 n)) at_end in
    let shifted : c.loop-i.sum * 2 ^ c.ls.result ≡ checksum c.args.kind c.args.hash.now = cc in
    let fits = checksum_fits c.args.kind c.args.hash.now in
    rw shifted (omega arith)
