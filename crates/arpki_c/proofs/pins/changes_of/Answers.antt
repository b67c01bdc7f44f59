use Rattle.std.proofs.Common.{rules, inr}
use Rattle.arpki_c.specs.declared.pins.PinFault.TheVariants.{Memory}
use Rattle.arpki_c.proofs.Runs.{run_gives_up, run_is_full}
use Rattle.arpki_c.proofs.pins.changes_of.Goals as goal

pub returns-in_err-next : goal.returns-in_err-next
returns-in_err-next c =
    let fails = run_gives_up c.args.fault c.in_err-next.field-0.0 Memory 4096 c.loop.counter c.loop.changes.items c.loop.fields _ c.loop-test.true
    (search rules) c.in_err-next.ensures c.loop.invariant in
    search (rules, fails)

pub returns-else-at_end-2 : goal.returns-else-at_end-2
returns-else-at_end-2 c =
    inr (run_is_full c.args.fault 4096 c.loop.counter c.loop.changes.items c.loop.fields _ c.loop-test.false (search rules) c.loop.invariant)
