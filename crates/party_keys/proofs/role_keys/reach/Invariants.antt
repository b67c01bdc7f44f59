use Rattle.std.proofs.Common.{◌≡◌, ◌≤◌, ◌-◌, ◌++◌, [], length, replicate}
use Rattle.party_keys.proofs.role_keys.reach.Given as goal

-- empty lists were added, one for each turn
abbrev pub invariant-loop : goal.invariant-loop
invariant-loop l = record {
  grown : l.later.items ≡ l.initial.later.items ++ replicate (l.counter - length l.initial.later.items) [];
  len : length l.later.items ≡ l.counter;
  most : length l.initial.later.items ≤ l.counter;
}
