use Rattle.std.proofs.Common.{rules, ◌≡◌, false, Ok, map}
use Rattle.ar_run.specs.Answers.{bytes_of}
use Rattle.review.specs.Audits.{is_over}
use Rattle.review.specs.Follows.{answered_at, most_groups}
use Rattle.review.proofs.GroupLines.{group_gives_up, group_more}
use Rattle.review.proofs.follows.groups.Goals as goal

pub loop-preserved : goal.loop-preserved
loop-preserved c =
    let read : answered_at c.args.directory.now c.loop.book c.loop.lines ≡ Ok ((c.in_ok-line.line.items, c.answered.new.book), c.answered.new.lines) = search rules in
    let left : is_over c.loop.lines ≡ false = search rules in
    group_more most_groups c.loop.counter c.args.directory.now c.loop.book c.answered.new.book c.loop.told.items c.push.new.self.items c.in_ok-line.line c.loop.lines
    c.answered.new.lines _ c.loop-test.true left read c.in_ok-push.ensures.items c.loop.invariant

pub returns-in_err-line : goal.returns-in_err-line
returns-in_err-line c =
    let left : is_over c.loop.lines ≡ false = search rules in
    let fails = group_gives_up most_groups c.loop.counter c.args.directory.now c.loop.book (map bytes_of c.loop.told.items) c.loop.lines c.in_err-line.field-0.0 _ c.loop-test.true left
    c.in_err-line.ensures c.loop.invariant in
    search (rules, fails)
