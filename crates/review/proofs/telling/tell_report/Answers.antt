use Rattle.std.proofs.Common.{rules, ◌≡◌, ◌∙◌, refl, ◌++◌, length, map}
use Rattle.ar_run.specs.Answers.{bytes_of}
use Rattle.review.specs.Telling.{conflict_line, ignored_line, report_lines, total_line}
use Rattle.review.proofs.Behind.{all-told}
use Rattle.review.proofs.telling.tell_report.Goals as goal

pub returns : goal.returns
returns c =
    let ignored : map bytes_of c.tell_ignored.new.lines.items ≡ map ignored_line c.args.report.now.ignored = search rules in
    let conflicts : map bytes_of c.tell_conflicts.new.lines.items ≡ map bytes_of c.tell_ignored.new.lines.items ++ map conflict_line c.args.report.now.conflicts = search rules in
    let total : bytes_of c.in_ok-total_line.field-0 ≡ total_line c.args.items c.args.report.now.valid (length c.args.report.now.conflicts) = search rules in
    let lines : map bytes_of c.push.new.self.items ≡ report_lines c.args.items c.args.report.now =
    all-told (map ignored_line c.args.report.now.ignored) (map conflict_line c.args.report.now.conflicts) _ c.tell_ignored.new.lines.items
    c.tell_conflicts.new.lines.items c.push.new.self.items c.in_ok-total_line.field-0 ignored conflicts c.in_ok-push.ensures.items total in
    c.of.ensures ∙ rw lines refl
