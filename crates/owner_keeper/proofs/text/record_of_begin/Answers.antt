use Rattle.std.proofs.Common.{rules, ◌≡◌, ◌≤◌, ◌++◌, length, ap, arith}
use Rattle.ar_cert.specs.Certificate.{certificate_text}
use Rattle.owner_keeper.specs.Texts.{asks_text}
use Rattle.owner_keeper.proofs.Lengths.{beginning_short}
use Rattle.owner_keeper.proofs.text.record_of_begin.Goals as goal

pub of-requires : goal.of-requires
of-requires c =
    let text : c.deref.result.now ≡ asks_text c.args.asks.now ++ certificate_text c.args.cert.now = search rules in
    let few : length c.args.asks.now ≤ 255 = search rules in
    omega (arith, ap length text, beginning_short c.args.asks.now c.args.cert.now few c.told.ensures)
