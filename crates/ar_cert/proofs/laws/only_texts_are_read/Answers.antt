use Rattle.ar_cert.specs.Certificate.{certificate_at, certificate_text, IsCertificate}
use Rattle.ar_cert.specs.Changes.{change_at, change_text, IsChange}
use Rattle.ar_cert.proofs.CertificateLaws.{certificate_again, certificate_pass}
use Rattle.ar_cert.proofs.ChangeLaws.{change_again, change_pass, only_text}
use Rattle.ar_cert.proofs.laws.only_texts_are_read.Goals as goal

pub returns-clause-certificates : goal.returns-clause-certificates
returns-clause-certificates c = only_text certificate_at certificate_text IsCertificate certificate_again certificate_pass

pub returns-clause-changes : goal.returns-clause-changes
returns-clause-changes c = only_text change_at change_text IsChange change_again change_pass
