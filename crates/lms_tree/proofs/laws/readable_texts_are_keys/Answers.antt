use Rattle.lms_tree.proofs.KeyLemmas.{is_some-key_of_text}
use Rattle.lms_tree.proofs.laws.readable_texts_are_keys.Goals as goal

pub returns : goal.returns
returns c = is_some-key_of_text
