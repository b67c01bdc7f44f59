-- The parts of a signature, as they are borrowed while it is judged.
use Rattle.lms_tree.specs.Signature.{SignatureParts}
use Rattle.lms_tree.specs.declared.signature.Signature.{Signature}

abbrev pub borrowed : Signature → SignatureParts
borrowed s = record { leaf = s.leaf; one_time = s.one_time.now; lms = s.lms; path = s.path.now }
