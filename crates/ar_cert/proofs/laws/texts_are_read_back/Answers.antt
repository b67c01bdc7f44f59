use Rattle.ar_cert.proofs.CertificateLaws.{certificate_again, counted_certificate_again}
use Rattle.ar_cert.proofs.ChangeLaws.{change_again}
use Rattle.ar_cert.proofs.laws.texts_are_read_back.Goals as goal

pub returns-clause-certificates : goal.returns-clause-certificates
returns-clause-certificates c = certificate_again

pub returns-clause-counted : goal.returns-clause-counted
returns-clause-counted c = counted_certificate_again

pub returns-clause-changes : goal.returns-clause-changes
returns-clause-changes c = change_again
