use Rattle.lms_tree.proofs.KeyLemmas.{one-text-one-key}
use Rattle.lms_tree.proofs.laws.one_text_one_key.Goals as goal

pub returns : goal.returns
returns c = one-text-one-key
