use Rattle.std.proofs.Common.{[], ◌∷◌, ◌++◌}
use Rattle.ar_bytes.specs.Ascending.{number_from}
use Rattle.ar_bytes.proofs.Ascending.{entry_more}
use Rattle.ar_cert.proofs.fields.check_ascending.Goals as goal

pub loop-preserved : goal.loop-preserved
loop-preserved c =
    let front = c.loop.invariant.0 in
    (front ++ c.in_ok-n.n ∷ [], entry_more (λ n. n) number_from front c.args.count c.loop.counter c.loop.least c.loop.fields _ _ _ c.loop-test.true c.in_ok-n.ensures c.loop.invariant.1)
