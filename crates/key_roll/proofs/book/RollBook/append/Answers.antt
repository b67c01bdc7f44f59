use Rattle.std.proofs.Common.{◌≡◌, ◌∙◌, ap, sym, subst, inr, arith, ◌<◌, ◌+◌, ◌++◌, ◌∷◌, [], None, Ok, refl}
use Rattle.ar_base.specs.Places.{place_of}
use Rattle.key_roll.specs.Book.{RollBook, IsRollBook, texts_of}
use Rattle.key_roll.specs.Rolls.{plain_count}
use Rattle.key_roll.specs.Entry.{entered_new}
use Rattle.key_roll.proofs.Books.{due, entered_full, entered_room, entry, entry_keeps, is_entered, wants, wants-is}
use Rattle.key_roll.proofs.book.RollBook.append.Goals as goal

pub returns-then-leaf-self-clause-answer : goal.returns-then-leaf-self-clause-answer
returns-then-leaf-self-clause-answer c =
    let count = c.plain_count-leaf.ensures ∙ ap (plain_count c.self.inside.newest) c.deref.ensures.value ∙ ap (λ k. plain_count k.book.newest k.book.list) c.self.view_is in
    let leaves = ap (λ k. k.book.leaves) c.self.view_is in
    inr (entered_full c.args.self.now.book c.args.text (omega (arith, count, leaves, c.if-leaf-self.true)))

pub returns-then-leaf-self-clause-spent : goal.returns-then-leaf-self-clause-spent
returns-then-leaf-self-clause-spent c =
    let count = c.plain_count-leaf.ensures ∙ ap (plain_count c.self.inside.newest) c.deref.ensures.value in
    let here = ap (λ k. plain_count k.book.newest k.book.list) c.self.view_is in
    let leaves = ap (λ k. k.book.leaves) c.self.view_is in
    (λ e. omega (arith, count, here, leaves, c.if-leaf-self.true, c.self.invariant.0.within c.self.inside.newest), λ e. refl)

pub returns-in_err-reserve-clause-answer : goal.returns-in_err-reserve-clause-answer
returns-in_err-reserve-clause-answer c =
    let count = c.plain_count-leaf.ensures ∙ ap (plain_count c.self.inside.newest) c.deref.ensures.value ∙ ap (λ k. plain_count k.book.newest k.book.list) c.self.view_is in
    let leaves = ap (λ k. k.book.leaves) c.self.view_is in
    wants _ _ _ _ c.from_residual.ensures (is_entered c.args.self.now.book c.args.text (omega (arith, count, leaves, c.if-leaf-self.false)))

pub returns-in_err-reserve-clause-spent : goal.returns-in_err-reserve-clause-spent
returns-in_err-reserve-clause-spent c =
    let count = c.plain_count-leaf.ensures ∙ ap (plain_count c.self.inside.newest) c.deref.ensures.value ∙ ap (λ k. plain_count k.book.newest k.book.list) c.self.view_is in
    let leaves = ap (λ k. k.book.leaves) c.self.view_is in
    let is = wants-is _ _ c.from_residual.ensures in
    (λ e. absurd cc, λ e. absurd (omega (arith, count, leaves, c.if-leaf-self.false, e)))

pub invariant_of-self-2 : goal.invariant_of-self-2
invariant_of-self-2 c =
    let book : RollBook = record { leaves = c.self.inside.leaves; newest = c.self.inside.newest; list = c.self.inside.list.items } in
    let sound : IsRollBook book = c.self.invariant.0 in
    let pushed = c.push_reserved.ensures in
    let reserved = c.in_ok-reserve.ensures in
    let new : place_of (texts_of book) c.args.text ≡ None = ap (λ k. place_of (texts_of k.book) c.args.text) c.self.view_is ∙ c.requires.new in
    let count = c.plain_count-leaf.ensures ∙ ap (plain_count c.self.inside.newest) c.deref.ensures.value in
    let room : plain_count book.newest book.list + 1 < book.leaves = omega (arith, count, c.if-leaf-self.false) in
    let kept = entry_keeps book c.args.text sound new c.requires.plain room in
    let items = pushed.items ∙ ap (λ l. l ++ entry book.newest c.args.text ∷ []) reserved.items in (
      subst (λ l. IsRollBook (record { leaves = book.leaves; newest = book.newest; list = l })) (sym items) kept,
      omega (arith, pushed.len, pushed.capacity, reserved.len, reserved.ok, reserved.capacity, c.self.invariant.1, c.saturating_sub-self-inside.ensures),
    )

pub returns-clause-answer : goal.returns-clause-answer
returns-clause-answer c =
    let count = c.plain_count-leaf.ensures ∙ ap (plain_count c.self.inside.newest) c.deref.ensures.value in
    let room : plain_count c.self.inside.newest c.self.inside.list.items + 1 < c.self.inside.leaves = omega (arith, count, c.if-leaf-self.false) in
    let book : RollBook = record { leaves = c.self.inside.leaves; newest = c.self.inside.newest; list = c.self.inside.list.items } in
    let new = c.new.ensures in
    ap (λ k. entered_new k.book c.args.text) (sym c.self.view_is) ∙ entered_room book c.args.text room
    ∙ (let leaf : c.new.result ≡ record { generation = book.newest; leaf = plain_count book.newest book.list; text = c.args.text; leaves = book.leaves } = new ∙ ap (λ n. due book.newest n c.args.text book.leaves) count in sym (ap Ok leaf))

pub returns-clause-spent : goal.returns-clause-spent
returns-clause-spent c =
    let count = c.plain_count-leaf.ensures ∙ ap (plain_count c.self.inside.newest) c.deref.ensures.value in
    let here = ap (λ k. plain_count k.book.newest k.book.list) c.self.view_is in
    let leaves = ap (λ k. k.book.leaves) c.self.view_is in
    (λ e. absurd cc, λ e. absurd (omega (arith, count, here, leaves, c.if-leaf-self.false, e)))
