use Rattle.ar_base.proofs.Digests.{sha256-IsDigest}
use Rattle.ar_base.proofs.laws.a_digest_has_32_bytes.Goals as goal

pub returns : goal.returns
returns c = sha256-IsDigest
