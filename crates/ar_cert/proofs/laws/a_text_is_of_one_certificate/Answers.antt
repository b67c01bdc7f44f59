use Rattle.ar_cert.specs.Certificate.{certificate_at, certificate_text}
use Rattle.ar_cert.proofs.CertificateLaws.{certificate_again}
use Rattle.ar_cert.proofs.ChangeLaws.{one_text}
use Rattle.ar_cert.proofs.laws.a_text_is_of_one_certificate.Goals as goal

pub returns : goal.returns
returns c = λ a b x y is_a is_b e. one_text certificate_at a b (certificate_text a) (certificate_text b) x y (certificate_again a is_a) (certificate_again b is_b) e
