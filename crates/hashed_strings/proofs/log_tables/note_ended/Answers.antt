-- The strings of one epoch more, in front of those behind it.
use Rattle.std.proofs.Common.{arith, sym}
use Rattle.std.specs.BTreeMap.{get}
use Rattle.ar_safety.specs.Hashed.{ended_table}
use Rattle.epoch_log.specs.declared.entries.Ended.{Ended}
use Rattle.hash_tree.specs.Entries.{key_cmp}
use Rattle.hashed_strings.proofs.Bases.{from-before}
use Rattle.hashed_strings.proofs.log_tables.note_ended.Goals as goal

pub loop-i-preserved : goal.loop-i-preserved
loop-i-preserved c = (
  λ others noted.
      from-before (get key_cmp c.note_ending.new.noted.strings) c.note_ending.new.noted.apart (λ (x : Ended). ended_table c.args.ended.now x.epoch x.how) c.args.ended.now c.loop-i.i c.index-ended-i.result others
      (omega (arith, c.loop-i-test.true)) c.loop-i.invariant.1 (sym c.index-ended-i.is) (c.in_ok-note_ending.ensures _ (c.loop-i.invariant.0 others noted)),
  omega (arith, c.loop-i.invariant.1),
)
