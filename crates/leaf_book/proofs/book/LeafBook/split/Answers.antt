use Rattle.std.proofs.Common.{◌≢◌, rules, arith}
use Rattle.leaf_book.proofs.Keeping.{halve_keeps}
use Rattle.leaf_book.proofs.book.LeafBook.split.Goals as goal

pub split_seat-given-requires : goal.split_seat-given-requires
split_seat-given-requires c =
    let not_1 : c.seat.inside.share ≢ 1 = λ one. let none = c.in-Some.ensures.none.1 one in cc in
    (search rules, search rules, halve_keeps _ _ _ (let same = c.seat.invariant.1 in let some_share = c.seat.invariant.2 in omega arith))
