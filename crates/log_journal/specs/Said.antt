-- What the code reads of a text.
use Rattle.std.specs.Prelude.{◌≡◌, Option, None, Some}
use Rattle.log_core.specs.Inputs.{input_of}
use Rattle.log_core.specs.Keyed.{IsPlain}
use Rattle.log_core.specs.State.{Input, rolls}
use Rattle.log_journal.specs.declared.input.Said.{Said}
use Rattle.log_journal.specs.declared.input.Said.TheVariants as saids

-- it is what the text says
abbrev pub IsSaid : Said → Option Input → Type 0
IsSaid (saids.Plain input) says = (says ≡ Some (input_of input)) × IsPlain (input_of input)
IsSaid (saids.Roll key) says = says ≡ Some (rolls key)
IsSaid saids.Nothing says = says ≡ None
