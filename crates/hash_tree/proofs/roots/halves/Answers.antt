use Rattle.std.proofs.Common.{get_or, true, false, ◌∙◌, arith}
use Rattle.hash_tree.proofs.Maps.{depth_below, partitioned, take-filter, drop-filter, one_at}
use Rattle.hash_tree.proofs.roots.halves.Goals as goal

pub first_one-requires : goal.first_one-requires
first_one-requires c = depth_below c.args.entries.now c.args.depth c.requires.ascending c.read_keys.ensures c.requires.agreed c.requires.several c.requires.in_key

pub returns-clause-in_key : goal.returns-clause-in_key
returns-clause-in_key c = depth_below c.args.entries.now c.args.depth c.requires.ascending c.read_keys.ensures c.requires.agreed c.requires.several c.requires.in_key

pub returns-clause-left : goal.returns-clause-left
returns-clause-left c =
    let point = c.first_one.ensures.point (partitioned c.args.entries.now c.args.depth c.requires.ascending c.read_keys.ensures c.requires.agreed) in
    c.split_at.ensures.front ∙ take-filter _ c.args.entries.now c.first_one.result c.first_one.ensures.in_range (λ k d l. point.0 k d (omega arith) l) point.1

pub returns-clause-right : goal.returns-clause-right
returns-clause-right c =
    let point = c.first_one.ensures.point (partitioned c.args.entries.now c.args.depth c.requires.ascending c.read_keys.ensures c.requires.agreed) in
    c.split_at.ensures.back ∙ drop-filter _ c.args.entries.now c.first_one.result c.first_one.ensures.in_range (λ k d l. one_at (get_or c.args.entries.now k d).0 c.args.depth true (point.0 k d (omega arith) l)) (λ k d l m. one_at (get_or c.args.entries.now k d).0 c.args.depth false (point.1 k d l m))
