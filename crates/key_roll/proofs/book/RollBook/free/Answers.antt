use Rattle.std.proofs.Common.{◌≡◌, ◌∙◌, ap, arith}
use Rattle.key_roll.specs.Rolls.{plain_count}
use Rattle.key_roll.proofs.book.RollBook.free.Goals as goal

pub leaf_number-requires : goal.leaf_number-requires
leaf_number-requires c =
    let count : c.plain_count-count.result ≡ plain_count c.self.inside.newest c.self.inside.list.items =
    c.plain_count-count.ensures ∙ ap (plain_count c.self.inside.newest) c.deref.ensures.value in
    omega (arith, count, c.self.invariant.0.within c.self.inside.newest)

pub overflow_sub-result : goal.overflow_sub-result
overflow_sub-result c =
    let count : c.plain_count-count.result ≡ plain_count c.self.inside.newest c.self.inside.list.items =
    c.plain_count-count.ensures ∙ ap (plain_count c.self.inside.newest) c.deref.ensures.value in
    omega (arith, count, c.leaf_number.ensures, c.self.invariant.0.within c.self.inside.newest)

pub overflow_sub-result-2 : goal.overflow_sub-result-2
overflow_sub-result-2 c =
    let count : c.plain_count-count.result ≡ plain_count c.self.inside.newest c.self.inside.list.items =
    c.plain_count-count.ensures ∙ ap (plain_count c.self.inside.newest) c.deref.ensures.value in
    omega (arith, count, c.leaf_number.ensures, c.self.invariant.0.within c.self.inside.newest)

pub returns : goal.returns
returns c =
    let count : c.plain_count-count.result ≡ plain_count c.self.inside.newest c.self.inside.list.items =
    c.plain_count-count.ensures ∙ ap (plain_count c.self.inside.newest) c.deref.ensures.value in
    let least = c.self.invariant.0.within c.self.inside.newest in
    rw (← c.self.view_is) (omega (arith, count, c.leaf_number.ensures, least))
