use Rattle.std.proofs.Common.{rules}
use Rattle.arpki_c.specs.Told.{asked_by}
use Rattle.arpki_c.specs.declared.pins.PinFault.TheVariants.{Memory}
use Rattle.arpki_c.proofs.Shows.{no_book, no_links, told_by}
use Rattle.arpki_c.proofs.following.following_by.Goals as goal

pub returns-in_err-book : goal.returns-in_err-book
returns-in_err-book c =
    let asked = asked_by c.args.directory.now c.args.question.now in
    let fails = no_book asked c.args.question.now.confirmation.now c.args.pin.now c.args.links.now c.in_err-book.field-0.0 Memory c.in_err-book.ensures in
    search (rules, fails)

pub returns-in_err-changes : goal.returns-in_err-changes
returns-in_err-changes c =
    let asked = asked_by c.args.directory.now c.args.question.now in
    let fails = no_links asked c.args.question.now.confirmation.now c.args.pin.now c.args.links.now _ c.in_err-changes.field-0.0 Memory c.in_ok-book.ensures
    c.in_err-changes.ensures in
    search (rules, fails)

pub returns : goal.returns
returns c =
    let asked = asked_by c.args.directory.now c.args.question.now in
    told_by asked c.args.question.now.confirmation.now c.args.pin.now c.args.links.now _ _ _ _ _ _ _ c.in_ok-book.ensures c.in_ok-changes.ensures
    c.deref.ensures.value c.in_ok-pinned.ensures.answer c.shown.ensures c.of_pinned.ensures
