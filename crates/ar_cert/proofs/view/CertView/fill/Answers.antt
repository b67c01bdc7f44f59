use Rattle.std.proofs.Common.{sym, subst, ◌∙◌}
use Rattle.ar_base.specs.Bytes.{AreBytes}
use Rattle.ar_bytes.proofs.Steps.{all_ok}
use Rattle.ar_cert.proofs.CertificateLaws.{certificate_filled}
use Rattle.ar_cert.proofs.view.CertView.fill.Goals as goal

pub invariant_of-result : goal.invariant_of-result
invariant_of-result c =
    let are = subst AreBytes c.left-text.ensures c.are_bytes.ensures in
    let read = certificate_filled c.args.fields.now c.take.new.fields _ are c.in_ok-view.ensures.tells (all_ok (tt, c.take.new.fields) tt (sym c.take_end.ensures ∙ c.in_ok-take_end.was)).1 in
    record { fits = read.0; text = read.1 ∙ sym c.left-text.ensures; trusted = c.in_ok-view.ensures.trusted }
