use Rattle.std.proofs.Common.{◌≡◌, take}
use Rattle.party_keys.proofs.role_keys.RoleKeys.copy.Given as goal

-- the lists in front were copied
abbrev pub invariant-loop-keys : goal.invariant-loop-keys
invariant-loop-keys l = l.later.items ≡ take l.keys-index l.self-inside.later.items
