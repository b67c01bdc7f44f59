use Rattle.lms_tree.proofs.SigningLemmas.{verdict_of-signature_of}
use Rattle.lms_tree.proofs.laws.what_is_signed_is_valid.Goals as goal

pub returns : goal.returns
returns c = verdict_of-signature_of
