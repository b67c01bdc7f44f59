use Rattle.std.proofs.Common.{rules, ◌≡◌, ◌++◌, length, length-append, ap, arith}
use Rattle.std.specs.Int.{w64}
use Rattle.ar_bytes.specs.RoundTrip.{number_text}
use Rattle.ar_bytes.proofs.Passing.{length-number_text}
use Rattle.owner_keeper.proofs.text.record_of_draft.Goals as goal

pub of-requires : goal.of-requires
of-requires c =
    let text : c.deref.result.now ≡ number_text w64 c.args.draft ++ c.args.bytes.now = search rules in
    omega (arith, ap length text, length-append (number_text w64 c.args.draft) c.args.bytes.now, length-number_text w64 c.args.draft, c.requires)
