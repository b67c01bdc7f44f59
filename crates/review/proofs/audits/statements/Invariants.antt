use Rattle.std.proofs.Common.{◌≡◌, ◌-◌, []}
use Rattle.review.specs.Audits.{most_statements, statements_at}
use Rattle.review.proofs.StatementLines.{Before}
use Rattle.review.proofs.audits.statements.Given as goal

-- what is read behind these items is what is read from the start, and their lines ascend in front of the reader
abbrev pub invariant-loop : goal.invariant-loop
invariant-loop l = record {
  reads : statements_at (most_statements - l.counter) l.items.items l.lines ≡ statements_at most_statements [] l.initial.lines;
  before : Before l.items.items l.lines.next;
}
