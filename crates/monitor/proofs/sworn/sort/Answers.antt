use Rattle.std.proofs.Common.{sym}
use Rattle.std.specs.Result.{result_ok}
use Rattle.monitor.specs.Items.{ignored_in, sworn_in}
use Rattle.monitor.proofs.Loops.{more}
use Rattle.monitor.proofs.sworn.sort.Goals as goal

pub loop-item-preserved : goal.loop-item-preserved
loop-item-preserved c = record {
  sworn = more (λ i. result_ok (sworn_in c.args.directory.now i)) c.args.items.now c.loop-item.item-index c.item-item.result c.loop-item.sworn.items
      c.put.new.sworn.items c.loop-item-test.true (sym c.item-item.is) c.loop-item.invariant.sworn c.in_ok-put.ensures.sworn;
  ignored = more (ignored_in c.args.directory.now) c.args.items.now c.loop-item.item-index c.item-item.result c.loop-item.ignored.items
      c.put.new.ignored.items c.loop-item-test.true (sym c.item-item.is) c.loop-item.invariant.ignored c.in_ok-put.ensures.ignored;
}
