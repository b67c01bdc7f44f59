use Rattle.std.proofs.Common.{◌≡◌}
use Rattle.std.specs.Prelude.{map}
use Rattle.std.specs.List.{range_with_len}
use Rattle.ar_statement.specs.declared.party.Role.TheVariants.{Authority}
use Rattle.ar_founding.specs.Founding.{fresh_state}
use Rattle.ar_founding.specs.FirstKeys.{key_for}
use Rattle.ar_founding.proofs.founded.fresh_states.Given as goal

abbrev pub invariant-loop-number : goal.invariant-loop-number
invariant-loop-number l = l.states.items ≡ map (λ number. fresh_state l.genesis number (key_for l.setup Authority number)) (range_with_len 0 l.number)
