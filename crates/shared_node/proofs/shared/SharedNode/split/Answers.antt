use Rattle.std.proofs.Common.{◌≢◌, rules, arith}
use Rattle.shared_node.proofs.Keeping.{keeps_split}
use Rattle.shared_node.proofs.shared.SharedNode.split.Goals as goal

pub split_seat-token-requires : goal.split_seat-token-requires
split_seat-token-requires g c =
    let not_1 : c.seat.inside.share ≢ 1 = λ one. let none = c.in-Some.ensures.none.1 one in cc in (
      search rules,
      search rules,
      λ table kept at. (
        kept.0,
        kept.1,
        kept.2,
        keeps_split _ _ _ _ _ _ _ _ _ _ kept.3 at (let same = c.seat.invariant.2 in let some_share = c.seat.invariant.3 in omega arith),
      ),
    )
