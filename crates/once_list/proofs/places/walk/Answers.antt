use Rattle.std.proofs.Common.{◌≡◌, ◌∙◌, ap, sym, arith, ◌<◌, length, true, false}
use Rattle.once_list.proofs.First.{behind, found}
use Rattle.once_list.proofs.places.walk.Goals as goal

pub returns-then-is_same : goal.returns-then-is_same
returns-then-is_same g c =
    let test = g.T.Printed.same c.args.sought.now in
    let items = c.args.items.now in
    let i = c.loop-i.i in
    let within : i < length items = omega (arith, c.loop-i-test.true) in
    let passes : test c.index-items-i.result ≡ true = sym c.is_same.ensures ∙ c.if-is_same.true in
    sym (found test items i c.index-items-i.result c.loop-i.invariant within (ap test (sym c.index-items-i.is) ∙ passes))

pub loop-i-preserved : goal.loop-i-preserved
loop-i-preserved g c =
    let test = g.T.Printed.same c.args.sought.now in
    let items = c.args.items.now in
    let i = c.loop-i.i in
    let within : i < length items = omega (arith, c.loop-i-test.true) in
    let fails : test c.index-items-i.result ≡ false = sym c.is_same.ensures ∙ c.if-is_same.false in
    behind test items i c.index-items-i.result c.loop-i.invariant within (ap test (sym c.index-items-i.is) ∙ fails)
