use Rattle.table_map.proofs.OneText.{one-of-text}
use Rattle.table_map.proofs.laws.a_text_is_of_one_directory.Goals as goal

pub returns : goal.returns
returns c = one-of-text
