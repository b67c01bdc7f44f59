use Rattle.std.proofs.Common.{ap, sym, ◌∙◌}
use Rattle.ar_seats.specs.Numbers.{HasEachBelow}
use Rattle.ar_seats.proofs.NumbersLemmas.{length_each}
use Rattle.leaf_book.specs.Book.{LeafSeatParts}
use Rattle.leaf_book.proofs.Keeping.{closed_has_each}
use Rattle.leaf_book.proofs.book.LeafBook.close.Goals as goal

each : (c : goal.After-min) → HasEachBelow c.min.result c.args.seat.drawn
each c =
    rw (c.min.ensures, c.from.ensures, ← c.seat.view_is, ← c.self.invariant.0)
    (closed_has_each _ _ _ _ _ _ c.close_with-closed.ensures.values.2 c.word-word.ensures (ap (λ (s : LeafSeatParts). s.share) c.seat.view_is ∙ c.requires.all))

pub returns-clause-count : goal.returns-clause-count
returns-clause-count c = sym (length_each _ _ (each c))

pub returns-clause-each : goal.returns-clause-each
returns-clause-each c = each c
