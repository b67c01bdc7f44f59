use Rattle.std.proofs.Common.{◌≡◌, take}
use Rattle.log_restart.specs.Books.{entries_from}
use Rattle.log_restart.proofs.books.book_text.Given as goal

abbrev pub invariant-loop-place : goal.invariant-loop-place
invariant-loop-place l = l.out.items ≡ entries_from l.book.book 0 (take l.place l.book.book.list)
