use Rattle.script_text.proofs.LinesWritten.{line_written}
use Rattle.script_text.proofs.laws.only_written_lines_are_read.Goals as goal

pub returns : goal.returns
returns c = line_written
