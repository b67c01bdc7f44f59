-- The line that is missing is the one behind the last.
use Rattle.std.proofs.Common.{◌∙◌}
use Rattle.run_restart.proofs.Counted.{line-later, line-missing}
use Rattle.run_restart.proofs.behind.line_behind.Goals as goal

pub returns-in-Err : goal.returns-in-Err
returns-in-Err c = line-missing c.loop-refusal.lines c.in-Err.refusal c.in-Err.ensures ∙ c.loop-refusal.invariant

pub loop-refusal-smaller : goal.loop-refusal-smaller
loop-refusal-smaller c = (line-later c.loop-refusal.lines c.line.new.self c.in_default.field-0 c.in_default.ensures).fewer

pub loop-refusal-preserved : goal.loop-refusal-preserved
loop-refusal-preserved c = (line-later c.loop-refusal.lines c.line.new.self c.in_default.field-0 c.in_default.ensures).ends ∙ c.loop-refusal.invariant
