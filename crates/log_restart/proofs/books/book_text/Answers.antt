use Rattle.std.proofs.Common.{List, ◌∙◌, ap, arith, length}
use Rattle.std.proofs.lemmas.List.{take_all}
use Rattle.key_roll.specs.declared.signed.SignedText.{SignedText}
use Rattle.log_restart.specs.Books.{book_text, entries_from}
use Rattle.log_restart.proofs.books.book_text.Goals as goal

pub returns : goal.returns
unfolding book_text
returns c =
    let book = c.args.book.now.book in
    c.loop-place.invariant ∙ ap (λ (l : List SignedText). entries_from book 0 l) (take_all c.loop-place.place book.list (omega (arith, c.loop-place-test.false, ap (λ (l : List SignedText). length l) c.list-place-end.ensures.list)))
