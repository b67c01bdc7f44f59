-- The digest of a certificate is a digest, also where the certificate may be absent.
use Rattle.std.proofs.Common.{Option, Some, None}
use Rattle.std.specs.Prelude.{IfSome, option_map}
use Rattle.ar_base.specs.Bytes.{IsDigest}
use Rattle.ar_base.proofs.Digests.{sha256-IsDigest}
use Rattle.ar_cert.specs.Certificate.{Certificate, digest_of}

pub digest-fits : (certificate : Certificate) → IsDigest (digest_of certificate)
unfolding digest_of
digest-fits certificate = sha256-IsDigest _

pub digest-fits-if-there : (certificate : Option Certificate) → IfSome (option_map digest_of certificate) IsDigest
digest-fits-if-there None = tt
digest-fits-if-there (Some certificate) = digest-fits certificate
