use Rattle.std.proofs.Common.{rules, arith, ◌≡◌, ◌<◌, ap, ◌∙◌, sym, subst, length, None, ◌++◌, ◌∷◌, []}
use Rattle.ar_base.specs.Places.{HasNoneTwice}
use Rattle.sign_book.specs.Book.{Book, IsSignBook}
use Rattle.ar_base.specs.Places.{place_of}
use Rattle.sign_book.proofs.Entries.{sound-push}
use Rattle.sign_book.proofs.book.SignBook.append.Goals as goal

pub invariant_of-self-2 : goal.invariant_of-self-2
invariant_of-self-2 c =
    let book : Book = record { texts = c.self.inside.texts.items; leaves = c.self.inside.leaves; room = c.self.inside.room } in
    let sound : IsSignBook book = c.self.invariant.0 in
    let pushed = c.push_reserved.ensures in
    let reserved = c.in_ok-reserve.ensures in
    let none : place_of book.texts c.args.text ≡ None =
    ap (λ b. place_of b.texts c.args.text) c.self.view_is ∙ c.requires in
    let left : length book.texts < book.leaves = search (rules, sound.within, c.len-leaf.ensures, c.if-leaf-self.false) in
    let more = sound-push book c.args.text sound none left in
    let items = pushed.items ∙ ap (λ l. l ++ c.args.text ∷ []) reserved.items in (
      record { once = subst HasNoneTwice (sym items) more.once; within = omega (arith, ap length items, more.within) },
      omega (arith, pushed.len, pushed.capacity, reserved.len, reserved.ok, reserved.capacity, c.self.invariant.1, c.saturating_sub-self-inside.ensures),
    )
