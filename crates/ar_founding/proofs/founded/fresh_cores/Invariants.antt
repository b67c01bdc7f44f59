use Rattle.std.proofs.Common.{◌≡◌}
use Rattle.std.specs.Prelude.{map}
use Rattle.std.specs.List.{range_with_len}
use Rattle.ar_statement.specs.declared.party.Role.TheVariants.{LogServer}
use Rattle.ar_founding.specs.Founding.{fresh_core}
use Rattle.ar_founding.specs.FirstKeys.{key_for}
use Rattle.ar_founding.proofs.founded.fresh_cores.Given as goal

abbrev pub invariant-loop-number : goal.invariant-loop-number
invariant-loop-number l = l.cores.items ≡ map (λ number. fresh_core l.genesis number (key_for l.setup LogServer number)) (range_with_len 0 l.number)
