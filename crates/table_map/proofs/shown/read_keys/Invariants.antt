use Rattle.std.proofs.Common.{◌≡◌, [], drop}
use Rattle.table_map.specs.Shown.{keys_behind}
use Rattle.table_map.proofs.shown.read_keys.Given as goal

-- the keys that were read, and those of the texts that are left, are those of all texts
abbrev pub invariant-loop-text : goal.invariant-loop-text
invariant-loop-text l = keys_behind l.keys.items (drop l.text-index l.texts) ≡ keys_behind [] l.texts
