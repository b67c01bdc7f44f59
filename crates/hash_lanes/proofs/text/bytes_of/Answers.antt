use Rattle.std.proofs.Common.{refl}
use Rattle.sha2.specs.Sha256.{digest_bytes}
use Rattle.hash_lanes.proofs.text.bytes_of.Goals as goal

pub returns : goal.returns
unfolding digest_bytes
returns c =
    rw (
      c.to_be_bytes-a.ensures,
      c.to_be_bytes-b.ensures,
      c.to_be_bytes-c.ensures,
      c.to_be_bytes-d.ensures,
      c.to_be_bytes-e.ensures,
      c.to_be_bytes-f.ensures,
      c.to_be_bytes-g.ensures,
      c.to_be_bytes-h.ensures,
    ) refl
