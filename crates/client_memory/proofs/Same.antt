-- Certificates of one text are equal.
use Rattle.std.proofs.Common.{◌≡◌, true, [], ◌++◌, ap}
use Rattle.std.proofs.lemmas.Slice.Eq.{bytes_eq-Decides}
use Rattle.ar_cert.specs.Certificate.{Certificate, IsCertificate, certificate_at, certificate_text}
use Rattle.ar_cert.proofs.CertificateLaws.{certificate_again}
use Rattle.ar_cert.proofs.ChangeLaws.{one_text}
use Rattle.client_memory.specs.Answers.{is_this}

pub same-are-equal : (one other : Certificate) → IsCertificate one → IsCertificate other → is_this one other ≡ true → one ≡ other
same-are-equal one other is_one is_other e =
    let text : certificate_text one ≡ certificate_text other = (bytes_eq-Decides (certificate_text one) (certificate_text other)).0 e in
    (one_text certificate_at one other (certificate_text one) (certificate_text other) [] [] (certificate_again one is_one) (certificate_again other is_other) (ap (λ t. t ++ []) text)).0
