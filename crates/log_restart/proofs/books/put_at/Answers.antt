use Rattle.std.proofs.Common.{◌≡◌, List, get_or, ◌∙◌, ap}
use Rattle.std.proofs.lemmas.Result.{on_ok_weaker}
use Rattle.key_roll.specs.declared.signed.SignedText.{SignedText}
use Rattle.log_restart.proofs.Booked.{entries_more, leaf_is}
use Rattle.log_restart.proofs.books.put_at.Goals as goal

pub returns : goal.returns
returns c =
    let book = c.args.book.now.book in
    let entry = c.index-list-place.result in
    let is : entry ≡ get_or book.list c.args.place entry = c.index-list-place.is ∙ ap (λ (l : List SignedText). get_or l c.args.place entry) c.list.ensures.list in
    on_ok_weaker c.put_entry.result
    (λ put. entries_more book book.list c.args.place entry c.args.out.now.items c.put_entry.new.out.items c.leaf_at-leaf.result c.as_bytes.result.now c.requires.within is
    (leaf_is book c.args.place entry c.leaf_at-leaf.result c.requires.within is c.leaf_at-leaf.ensures) c.as_bytes.ensures c.requires.before put)
    c.put_entry.ensures
