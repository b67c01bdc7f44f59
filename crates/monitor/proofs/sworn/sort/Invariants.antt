use Rattle.std.proofs.Common.{◌≡◌, take}
use Rattle.monitor.specs.Items.{ignored_of, sworn_of}
use Rattle.monitor.proofs.sworn.sort.Given as goal

-- the items in front were looked at
abbrev pub invariant-loop-item : goal.invariant-loop-item
invariant-loop-item l = record {
  sworn : l.sworn.items ≡ sworn_of l.directory (take l.item-index l.items);
  ignored : l.ignored.items ≡ ignored_of l.directory (take l.item-index l.items);
}
