use Rattle.report_text.proofs.OneLine.{one_line}
use Rattle.report_text.proofs.laws.one_line_tells_one_happening.Goals as goal

pub returns : goal.returns
returns c = one_line
