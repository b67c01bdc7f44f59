use Rattle.ar_safety.proofs.Rows.{row-answers, row-checked, row-letter}
use Rattle.ar_safety.proofs.laws.a_second_authority_confirms_so.Goals as goal

pub returns : goal.returns
returns c = record { checked = row-checked; confirms = row-answers; sent = row-letter }
