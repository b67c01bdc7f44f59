use Rattle.std.proofs.Common.{arith}
use Rattle.ar_safety.proofs.Examples.{forged-clean, forged-honest, forged-unsafe}
use Rattle.ar_safety.proofs.laws.forged_statements_are_too_many.Goals as goal

pub returns : goal.returns
returns c = record { honest = forged-honest; premises = (omega arith, forged-clean); not_safe = forged-unsafe }
