use Rattle.lms_tree.proofs.SignatureLemmas.{has_length, has_parts, parts_of-signature_text}
use Rattle.lms_tree.proofs.laws.a_signature_has_parts_exactly_with_its_length.Goals as goal

pub returns : goal.returns
returns c = record {
  again = parts_of-signature_text;
  length = λ key signature. (has_parts key signature, λ has. has_length key signature has.0 has.1);
}
