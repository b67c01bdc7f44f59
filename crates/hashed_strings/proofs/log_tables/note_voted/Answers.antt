-- The strings of one vote more, in front of those behind it.
use Rattle.std.proofs.Common.{arith, sym}
use Rattle.std.specs.BTreeMap.{get}
use Rattle.hash_tree.specs.Entries.{key_cmp}
use Rattle.hashed_strings.proofs.Bases.{vote-before}
use Rattle.hashed_strings.proofs.log_tables.note_voted.Goals as goal

pub loop-i-preserved : goal.loop-i-preserved
loop-i-preserved c = (
  λ others noted.
      vote-before (get key_cmp c.note_epoch.new.noted.strings) c.note_epoch.new.noted.apart c.args.ended.now c.args.voted.now c.loop-i.i c.index-voted-i.result c.as_slice.result.now others
      (omega (arith, c.loop-i-test.true)) c.loop-i.invariant.1 (sym c.index-voted-i.is) c.as_slice.ensures (c.in_ok-note_epoch.ensures _ (c.loop-i.invariant.0 others noted)),
  omega (arith, c.loop-i.invariant.1),
)
