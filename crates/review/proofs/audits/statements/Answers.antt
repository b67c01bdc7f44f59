use Rattle.std.proofs.Common.{rules, ◌≡◌, true, false, Ok, [], ap, refl, ◌∙◌}
use Rattle.ar_base.specs.Gives.{with_error}
use Rattle.ar_lines.specs.declared.refusal.LineFault.TheVariants.{Refused}
use Rattle.ar_lines.proofs.Faults.{GivesUp, gives_up-chained}
use Rattle.review.specs.Audits.{is_over, most_statements, no_more_at, statement_at, statements_at}
use Rattle.review.proofs.StatementLines.{no_statement, one-before, statement_gives_up, statement_more, statements_all}
use Rattle.review.proofs.audits.statements.Goals as goal

pub loop-preserved : goal.loop-preserved
loop-preserved c =
    let read : statement_at c.loop.lines ≡ Ok (c.in_ok-next.next, c.statement.new.lines) = search rules in
    let left : is_over c.loop.lines ≡ false = search rules in
    record {
      reads = rw c.in_ok-push.ensures.items (statement_more most_statements c.loop.counter c.loop.items.items c.in_ok-next.next c.loop.lines c.statement.new.lines _ c.loop-test.true left read c.loop.invariant.reads);
      before = rw c.in_ok-push.ensures.items (one-before c.loop.items.items c.loop.lines c.statement.new.lines c.in_ok-next.next c.loop.invariant.before read);
    }

pub returns-then-is_ok-clause-reads : goal.returns-then-is_ok-clause-reads
returns-then-is_ok-clause-reads c =
    let over : is_over c.loop.lines ≡ true = search rules in
    ap (with_error Refused) (no_statement most_statements c.loop.counter c.loop.items.items c.loop.lines _ c.loop-test.true over c.loop.invariant.reads)

pub returns-in_err-next-clause-reads : goal.returns-in_err-next-clause-reads
returns-in_err-next-clause-reads c =
    let left : is_over c.loop.lines ≡ false = search rules in
    let fails = statement_gives_up most_statements c.loop.counter c.loop.items.items c.loop.lines c.in_err-next.field-0.0 _ c.loop-test.true left c.in_err-next.ensures c.loop.invariant.reads in
    search (rules, fails)

pub returns-in_err-no_more-clause-reads : goal.returns-in_err-no_more-clause-reads
returns-in_err-no_more-clause-reads c =
    let all = statements_all most_statements c.loop.counter c.loop.items.items c.loop.lines _ c.loop-test.false c.loop.invariant.reads in
    let fails : GivesUp c.in_err-no_more.field-0.0 (statements_at most_statements [] c.args.lines.now) =
    rw all (gives_up-chained (no_more_at c.loop.lines) _ c.in_err-no_more.field-0.0 c.in_err-no_more.ensures) in
    search (rules, fails)

pub returns-clause-reads : goal.returns-clause-reads
returns-clause-reads c =
    let all = statements_all most_statements c.loop.counter c.loop.items.items c.loop.lines _ c.loop-test.false c.loop.invariant.reads in
    let ends : no_more_at c.loop.lines ≡ Ok (tt, c.no_more.new.lines) = search rules in
    let whole : statements_at most_statements [] c.args.lines.now ≡ Ok (c.loop.items.items, c.no_more.new.lines) = all ∙ rw ends refl in
    ap (with_error Refused) whole
