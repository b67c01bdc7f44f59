use Rattle.std.proofs.Common.{◌≡◌, map, drop}
use Rattle.std.specs.FinMap.{find}
use Rattle.hash_tree.specs.Entries.{key_cmp}
use Rattle.domain_table.specs.Rows.{marks_listed, name_entry}
use Rattle.domain_table.proofs.tree.name_value.Given as goal

-- what is left has what all have
abbrev pub invariant-loop-listed : goal.invariant-loop-listed
invariant-loop-listed l = find key_cmp l.key (map name_entry (marks_listed (drop l.listed-index l.rows))) ≡ find key_cmp l.key (map name_entry (marks_listed l.rows))
