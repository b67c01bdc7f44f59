use Rattle.std.proofs.Common.{◌∙◌, ap, sym, subst, arith, ◌<◌, ◌+◌, ◌++◌, ◌∷◌, []}
use Rattle.key_roll.specs.Book.{RollBook, IsRollBook}
use Rattle.key_roll.proofs.Books.{entry, roll_keeps}
use Rattle.key_roll.proofs.book.RollBook.announce.Goals as goal

pub overflow_sub-self-inside : goal.overflow_sub-self-inside
overflow_sub-self-inside c = omega (arith, c.self.invariant.0.within 0)

pub new-requires : goal.new-requires
new-requires c = omega (arith, c.self.invariant.0.within 0)

pub invariant_of-self-2 : goal.invariant_of-self-2
invariant_of-self-2 c =
    let book : RollBook = record { leaves = c.self.inside.leaves; newest = c.self.inside.newest; list = c.self.inside.list.items } in
    let sound : IsRollBook book = c.self.invariant.0 in
    let pushed = c.push_reserved.ensures in
    let reserved = c.in_ok-reserve.ensures in
    let names = c.requires.named ∙ sym (ap (λ k. k.book.newest) c.self.view_is) in
    let last = c.if-self-eq-LAST_GENERATION.false in
    let before : book.newest < 999 = omega (arith, sound.last, last) in
    let kept = roll_keeps book c.args.text sound c.requires.roll names before in
    let items = pushed.items ∙ ap (λ l. l ++ entry book.newest c.args.text ∷ []) reserved.items in (
      subst (λ l. IsRollBook (record { leaves = book.leaves; newest = book.newest + 1; list = l })) (sym items) kept,
      omega (arith, pushed.len, pushed.capacity, reserved.len, reserved.ok, reserved.capacity, c.self.invariant.1, c.saturating_sub-self-inside.ensures),
    )
