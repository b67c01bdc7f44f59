use Rattle.std.proofs.Common.{◌≡◌, ◌-◌, map}
use Rattle.ar_run.specs.Answers.{bytes_of}
use Rattle.review.specs.Follows.{groups_at, most_groups}
use Rattle.review.proofs.follows.groups.Given as goal

-- what is told behind these lines is what is told from the start
abbrev pub invariant-loop : goal.invariant-loop
invariant-loop l =
    groups_at (most_groups - l.counter) l.directory l.book (map bytes_of l.told.items) l.lines
    ≡ groups_at most_groups l.directory l.initial.book (map bytes_of l.initial.told.items) l.initial.lines
