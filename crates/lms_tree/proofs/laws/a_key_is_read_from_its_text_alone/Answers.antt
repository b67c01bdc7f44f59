use Rattle.lms_tree.proofs.KeyLemmas.{key_of_text-key_text, key_text-key_of_text}
use Rattle.lms_tree.proofs.laws.a_key_is_read_from_its_text_alone.Goals as goal

pub returns : goal.returns
returns c = record { again = key_of_text-key_text; spelled = key_text-key_of_text }
