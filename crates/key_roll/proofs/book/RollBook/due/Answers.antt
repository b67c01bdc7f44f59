use Rattle.std.proofs.Common.{◌≡◌, ◌∙◌, ap, sym, arith, refl, ◌<◌, length, take, Some}
use Rattle.std.specs.Prelude.{slice_get}
use Rattle.std.proofs.lemmas.Option.{slice_get_read}
use Rattle.key_roll.specs.Book.{RollBook}
use Rattle.key_roll.specs.Entry.{due_at}
use Rattle.key_roll.specs.Rolls.{plain_count}
use Rattle.key_roll.proofs.Books.{due, due-plain, due-roll, leaf-plain, leaf-within}
use Rattle.key_roll.proofs.book.RollBook.due.Goals as goal

pub overflow_sub-self-inside : goal.overflow_sub-self-inside
overflow_sub-self-inside c = omega (arith, c.self.invariant.0.within 0)

pub new-requires : goal.new-requires
new-requires c = omega (arith, c.self.invariant.0.within 0)

pub leaf_number-leaf-requires : goal.leaf_number-leaf-requires
leaf_number-leaf-requires c =
    let book : RollBook = record { leaves = c.self.inside.leaves; newest = c.self.inside.newest; list = c.self.inside.list.items } in
    let s = c.index.result.now in
    let within : c.args.place < length book.list = omega (arith, c.requires, ap (λ k. length k.book.list) c.self.view_is) in
    let at : slice_get book.list c.args.place ≡ Some s = slice_get_read book.list (length book.list) c.args.place s refl within c.index.ensures in
    let count : c.plain_count-count.result ≡ plain_count s.generation (take c.args.place book.list) = c.plain_count-count.ensures ∙ ap (λ l. plain_count s.generation (take c.args.place l)) c.deref.ensures.value in
    omega (arith, count, leaf-within book c.args.place s c.self.invariant.0 at, leaf-plain book c.args.place s (sym c.is_roll.ensures ∙ c.if-is_roll.false))

pub new-requires-2 : goal.new-requires-2
new-requires-2 c =
    let book : RollBook = record { leaves = c.self.inside.leaves; newest = c.self.inside.newest; list = c.self.inside.list.items } in
    let s = c.index.result.now in
    let within : c.args.place < length book.list = omega (arith, c.requires, ap (λ k. length k.book.list) c.self.view_is) in
    let at : slice_get book.list c.args.place ≡ Some s = slice_get_read book.list (length book.list) c.args.place s refl within c.index.ensures in
    let count : c.plain_count-count.result ≡ plain_count s.generation (take c.args.place book.list) = c.plain_count-count.ensures ∙ ap (λ l. plain_count s.generation (take c.args.place l)) c.deref.ensures.value in
    let leaf = leaf-within book c.args.place s c.self.invariant.0 at in
    omega (arith, count, c.leaf_number-leaf.ensures, leaf, leaf-plain book c.args.place s (sym c.is_roll.ensures ∙ c.if-is_roll.false))

pub returns-then-is_roll : goal.returns-then-is_roll
returns-then-is_roll c =
    let book : RollBook = record { leaves = c.self.inside.leaves; newest = c.self.inside.newest; list = c.self.inside.list.items } in
    let s = c.index.result.now in
    let within : c.args.place < length book.list = omega (arith, c.requires, ap (λ k. length k.book.list) c.self.view_is) in
    let at : slice_get book.list c.args.place ≡ Some s = slice_get_read book.list (length book.list) c.args.place s refl within c.index.ensures in
    ap (λ k. due_at k.book c.args.place) (sym c.self.view_is)
    ∙ due-roll book c.args.place s at (sym c.is_roll.ensures ∙ c.if-is_roll.true) ∙ ap Some (sym c.new.ensures)

pub returns : goal.returns
returns c =
    let book : RollBook = record { leaves = c.self.inside.leaves; newest = c.self.inside.newest; list = c.self.inside.list.items } in
    let s = c.index.result.now in
    let within : c.args.place < length book.list = omega (arith, c.requires, ap (λ k. length k.book.list) c.self.view_is) in
    let at : slice_get book.list c.args.place ≡ Some s = slice_get_read book.list (length book.list) c.args.place s refl within c.index.ensures in
    let count : c.plain_count-count.result ≡ plain_count s.generation (take c.args.place book.list) = c.plain_count-count.ensures ∙ ap (λ l. plain_count s.generation (take c.args.place l)) c.deref.ensures.value in
    ap (λ k. due_at k.book c.args.place) (sym c.self.view_is)
    ∙ due-plain book c.args.place s at (sym c.is_roll.ensures ∙ c.if-is_roll.false)
    ∙ ap Some (sym (c.new-2.ensures ∙ ap (λ n. due s.generation n s.text book.leaves) (c.leaf_number-leaf.ensures ∙ count)))
