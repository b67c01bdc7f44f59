use Rattle.std.proofs.Common.{rules, ap}
use Rattle.atomic_table.specs.Table.{Me}
use Rattle.leaf_book.specs.declared.held.Held.{Held}
use Rattle.leaf_book.proofs.Keeping.{look_keeps, draw_keeps}
use Rattle.leaf_book.proofs.book.LeafBook.draw.Goals as goal

pub load-seen-requires : goal.load-seen-requires
load-seen-requires c = (search rules, search rules, look_keeps _ _ _ _)

pub fetch_add-found-requires : goal.fetch_add-found-requires
fetch_add-found-requires c =
    let looked = c.load-seen.ensures.2.1 in (
      search rules,
      search rules,
      draw_keeps _ _ _ _
          (rw (ap (λ (me : Me (Unit {0}) Held). me.0.share) looked) (search rules))
          (rw (ap (λ (me : Me (Unit {0}) Held). me.0.leaves) looked) (search rules))
          (rw (ap (λ (me : Me (Unit {0}) Held). me.0.seen) looked) (search rules)),
    )
