-- The text of an input says it.
use Rattle.std.proofs.Common.{◌≡◌, refl, ap, Option, Some}
use Rattle.std.specs.Option.{option_map}
use Rattle.lms_tree.specs.declared.public_key.LmsPublic.{LmsPublic}
use Rattle.lms_tree.proofs.KeyLemmas.{key_of_text-key_text}
use Rattle.log_core.specs.State.{Input, passes, proposes, rolls, takes}
use Rattle.log_journal.specs.Inputs.{IsWhole, input_in, input_text}

pub says_it : (input : Input) → IsWhole input → input_in (input_text input) ≡ Some input
says_it (takes bytes) whole = refl
says_it proposes whole = refl
says_it passes whole = refl
says_it (rolls key) whole = ap (λ (o : Option LmsPublic). option_map rolls o) (key_of_text-key_text key whole)
