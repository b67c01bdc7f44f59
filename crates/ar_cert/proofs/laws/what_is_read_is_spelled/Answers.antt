use Rattle.ar_cert.proofs.CertificateLaws.{certificate_pass, counted_certificate_pass}
use Rattle.ar_cert.proofs.ChangeLaws.{change_pass}
use Rattle.ar_cert.proofs.laws.what_is_read_is_spelled.Goals as goal

pub returns-clause-certificates : goal.returns-clause-certificates
returns-clause-certificates c = certificate_pass

pub returns-clause-counted : goal.returns-clause-counted
returns-clause-counted c = counted_certificate_pass

pub returns-clause-changes : goal.returns-clause-changes
returns-clause-changes c = change_pass
