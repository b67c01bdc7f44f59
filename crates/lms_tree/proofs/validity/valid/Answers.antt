use Rattle.std.proofs.Common.{◌∙◌, sym}
use Rattle.lms_tree.specs.BorrowedParts.{borrowed}
use Rattle.lms_tree.specs.Validity.{parts_of}
use Rattle.lms_tree.proofs.SignatureLemmas.{judged, short}
use Rattle.lms_tree.proofs.validity.valid.Goals as goal

pub returns-in-Some : goal.returns-in-Some
unfolding parts_of
returns-in-Some c =
    c.judge.ensures ∙ sym (judged c.args.key.now c.args.message.now c.args.signature.now (borrowed c.in-Some.parts) (sym c.in-Some.ensures.parts))

pub returns-in-None : goal.returns-in-None
unfolding parts_of
returns-in-None c =
    sym (short c.args.key.now c.args.message.now c.args.signature.now (sym c.in-None.ensures.parts))
