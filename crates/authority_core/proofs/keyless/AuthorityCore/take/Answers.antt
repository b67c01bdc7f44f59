use Rattle.std.proofs.Common.{rules, refl}
use Rattle.authority_core.specs.Row.{message_row}
use Rattle.authority_core.proofs.Faults.{retired_row, stepped_no_fault}
use Rattle.authority_core.proofs.keyless.AuthorityCore.take.Goals as goal

pub returns-in_default : goal.returns-in_default
unfolding message_row
returns-in_default g c = record {
  row = search rules;
  checks = record { retired = refl; kept = search rules; same = search rules; by = search rules };
  fault = λ e. absurd (stepped_no_fault c.take.result _ _ _ c.take.ensures (retired_row _ _ _) e);
}
