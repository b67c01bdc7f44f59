use Rattle.ar_lines.proofs.TextLaws.{lines_of-text}
use Rattle.ar_lines.proofs.laws.lines_are_read_as_they_are_written.Goals as goal

pub returns : goal.returns
returns c = lines_of-text
