use Rattle.std.proofs.Common.{arith}
use Rattle.domain_table.specs.Rows.{data_in}
use Rattle.domain_table.proofs.Ripening.{ripe_at_first, ripened_all}
use Rattle.domain_table.proofs.ripe_rows.ripen_rows.Goals as goal

pub loop-i-init : goal.loop-i-init
loop-i-init c = (ripe_at_first c.args.epoch c.args.rows.now.entries c.args.trie.now c.args.waiting c.requires.are c.requires.tree c.requires.wait, omega arith)

pub loop-i-preserved : goal.loop-i-preserved
loop-i-preserved c = (
  c.in_ok-still.ensures (data_in c.args.rows.now.entries) c.loop-i.invariant.0,
  omega (arith, c.loop-i-test.true, c.len.ensures.len, c.loop-i.invariant.0.count),
)

pub loop-i-smaller : goal.loop-i-smaller
loop-i-smaller c = omega (arith, c.loop-i-test.true, c.len.ensures.len, c.loop-i.invariant.0.count)

pub returns-clause-ripe : goal.returns-clause-ripe
returns-clause-ripe c =
    ripened_all c.args.epoch (data_in c.args.rows.now.entries) c.loop-i.rows.entries c.loop-i.trie c.loop-i.still c.loop-i.i
    (omega (arith, c.loop-i-test.false, c.len.ensures.len)) c.loop-i.invariant.0
