use Rattle.std.proofs.Common.{refl}
use Rattle.ar_safety.proofs.Examples.{split-clean, split-honest, split-unforged, split-unsafe}
use Rattle.ar_safety.proofs.laws.three_dishonest_logs_are_too_many.Goals as goal

pub returns : goal.returns
returns c = record { honest = split-honest; premises = (split-unforged, split-clean); three = refl; not_safe = split-unsafe }
