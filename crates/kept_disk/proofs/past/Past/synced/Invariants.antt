use Rattle.std.proofs.Common.{◌≡◌, length}
use Rattle.std.specs.Prelude.{reverse}
use Rattle.kept_disk.specs.Memory.{over_in, synced, with_bytes}
use Rattle.kept_disk.proofs.past.Past.synced.Given as goal

abbrev pub invariant-loop-change : goal.invariant-loop-change
invariant-loop-change l = record {
  all : over_in l.changes ≡ length l.over;
  image : synced l.image.items (reverse (with_bytes l.changes l.over)) ≡ synced l.file l.self.events;
}

abbrev pub decreases-loop-change : goal.decreases-loop-change
decreases-loop-change l = length l.changes
