use Rattle.std.proofs.Common.{rules, ◌≡◌, length, ap, arith}
use Rattle.ar_cert.specs.Certificate.{certificate_text}
use Rattle.owner_keeper.proofs.Lengths.{certificate_short}
use Rattle.owner_keeper.proofs.text.record_of_cert.Goals as goal

pub of-requires : goal.of-requires
of-requires c =
    let text : c.deref.result.now ≡ certificate_text c.args.cert.now = search rules in
    omega (arith, ap length text, certificate_short c.args.cert.now c.told.ensures)
