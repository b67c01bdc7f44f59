use Rattle.std.proofs.Common.{◌≡◌, [], replicate}
use Rattle.owner_check.proofs.book_check.empty_books.Given as goal

-- one check was made in each turn
abbrev pub invariant-loop : goal.invariant-loop
invariant-loop l = l.checks.items ≡ replicate l.counter (record { book = []; answers = [] })
