use Rattle.ar_message.proofs.PathBytes.{digests-joined}
use Rattle.ar_message.proofs.laws.a_path_lies_in_its_bytes.Goals as goal

pub returns : goal.returns
returns c = digests-joined
