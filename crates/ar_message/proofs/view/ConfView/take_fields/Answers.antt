use Rattle.std.proofs.Common.{refl, subst}
use Rattle.ar_base.specs.Bytes.{AreBytes}
use Rattle.ar_message.specs.Confirmation.{confirmation_fields_at, signers_at}
use Rattle.ar_message.proofs.ConfirmationLaws.{confirmation_fields_pass}
use Rattle.ar_message.proofs.view.ConfView.take_fields.Goals as goal

pub invariant_of-result : goal.invariant_of-result
unfolding confirmation_fields_at signers_at
invariant_of-result c =
    let are = subst AreBytes c.left.ensures c.are_bytes.ensures in
    (confirmation_fields_pass c.args.fields.now c.signed-3.new.fields _ are (rw (c.in_ok-is_present.ensures, c.in_ok-about.ensures.tells, c.in_ok-body.ensures, c.in_ok-steps.ensures.tells, c.in_ok-log.ensures.tells, c.in_ok-first.ensures.tells, c.in_ok-second.ensures.tells) refl)).1
