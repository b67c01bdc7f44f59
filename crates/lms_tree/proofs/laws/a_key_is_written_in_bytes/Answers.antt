use Rattle.lms_tree.proofs.KeyLemmas.{bytes-key_text}
use Rattle.lms_tree.proofs.laws.a_key_is_written_in_bytes.Goals as goal

pub returns : goal.returns
returns c = bytes-key_text
