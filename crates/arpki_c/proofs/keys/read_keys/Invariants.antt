use Rattle.std.proofs.Common.{◌≡◌, [], drop, length}
use Rattle.arpki_c.specs.Given.{keys_behind}
use Rattle.arpki_c.proofs.keys.read_keys.Given as goal

-- the keys that were read, and those of the texts that are left, are those of all texts
abbrev pub invariant-loop-text : goal.invariant-loop-text
invariant-loop-text l = record {
  reads : keys_behind l.fault l.keys.items (drop l.text-index l.texts) ≡ keys_behind l.fault [] l.texts;
  len : length l.keys.items ≡ l.text-index;
}
