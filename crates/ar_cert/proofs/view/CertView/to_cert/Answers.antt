use Rattle.ar_cert.proofs.view.CertView.to_cert.Goals as goal

pub invariant_of-result : goal.invariant_of-result
invariant_of-result c =
    let policy = c.self.invariant.fits.policy in
    rw (c.from_vec.ensures, c.in_ok-trusted.ensures) (policy.few, policy.ascending, policy.wait)
