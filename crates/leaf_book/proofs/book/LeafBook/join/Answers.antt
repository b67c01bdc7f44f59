use Rattle.std.proofs.Common.{rules, ap}
use Rattle.atomic_table.specs.Table.{Me}
use Rattle.leaf_book.specs.declared.held.Held.{Held}
use Rattle.leaf_book.proofs.Keeping.{unite_keeps, compare_keeps, apart_of_once}
use Rattle.leaf_book.proofs.book.LeafBook.join.Goals as goal

pub join_seat-requires : goal.join_seat-requires
join_seat-requires c = (search rules, search rules, search rules, search rules, unite_keeps _ _ _ _ _ (search rules))

pub load-requires : goal.load-requires
load-requires c = (search rules, search rules, compare_keeps _ _ _ _)

pub returns-clause-apart : goal.returns-clause-apart
returns-clause-apart c =
    rw (← c.seat.view_is, ← c.other.view_is)
    (apart_of_once _ _ _ (ap (λ (me : Me (Unit {0}) Held). me.0.drawn) c.join_seat.ensures.2) c.load.ensures.2.2)
