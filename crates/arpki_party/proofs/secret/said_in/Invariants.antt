-- What all lines say is what those say that are left, with what was said.
use Rattle.std.proofs.Common.{◌≡◌, length}
use Rattle.std.specs.Option.{option_copied}
use Rattle.ar_lines.specs.Lines.{parts_of}
use Rattle.ar_lines.specs.Views.{parts_behind}
use Rattle.arpki_party.specs.Secrets.{nothing_said, with_lines}
use Rattle.arpki_party.proofs.secret.said_in.Given as goal

abbrev pub invariant-loop-rest : goal.invariant-loop-rest
invariant-loop-rest l = with_lines nothing_said (parts_of 10 l.fn.text) ≡ with_lines l.said (parts_behind 10 (option_copied l.rest))

abbrev pub decreases-loop-rest : goal.decreases-loop-rest
decreases-loop-rest l = length (parts_behind 10 (option_copied l.rest))
