use Rattle.std.proofs.Common.{rules, ◌≡◌, ◌++◌, length, length-append, ap, arith}
use Rattle.std.specs.Int.{w64}
use Rattle.ar_bytes.specs.RoundTrip.{number_text}
use Rattle.ar_bytes.proofs.Passing.{length-number_text}
use Rattle.owner_keeper.proofs.text.record_of_staple.Goals as goal

pub record_of_draft-requires : goal.record_of_draft-requires
record_of_draft-requires c =
    let text : c.deref.result.now ≡ number_text w64 c.args.staple.now.epoch ++ c.args.staple.now.channel = search rules in
    let wide : length c.args.staple.now.channel ≡ 32 = search rules in
    omega (arith, ap length text, length-append (number_text w64 c.args.staple.now.epoch) c.args.staple.now.channel, length-number_text w64 c.args.staple.now.epoch, wide)
