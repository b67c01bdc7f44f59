use Rattle.std.proofs.Common.{arith}
use Rattle.ar_safety.proofs.Examples.{decided-agreed, decided-clean, decided-ended, decided-honest, decided-unforged}
use Rattle.ar_safety.proofs.laws.a_decided_epoch_meets_the_premises.Goals as goal

pub returns : goal.returns
returns c = record {
  honest = decided-honest;
  premises = λ dishonest. (decided-unforged dishonest, decided-clean dishonest);
  decided = decided-ended;
  agreed = decided-agreed;
  two = omega arith;
}
