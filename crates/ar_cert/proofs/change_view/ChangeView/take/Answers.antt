use Rattle.std.proofs.Common.{refl, subst}
use Rattle.ar_base.specs.Bytes.{AreBytes}
use Rattle.ar_cert.specs.Changes.{change_at}
use Rattle.ar_cert.proofs.ChangeLaws.{change_pass}
use Rattle.ar_cert.proofs.change_view.ChangeView.take.Goals as goal

pub invariant_of-result : goal.invariant_of-result
unfolding change_at
invariant_of-result c =
    let are = subst AreBytes c.left.ensures c.are_bytes.ensures in
    let p = change_pass c.args.fields.now c.consent.new.fields _ are (rw (c.in_ok-cert.ensures, c.in_ok-endorsements.ensures.tells, c.in_ok-endorsements.ensures.len, c.in_ok-consent.ensures) refl) in
    record { fits = p.1; few = c.in_ok-endorsements.ensures.few }
