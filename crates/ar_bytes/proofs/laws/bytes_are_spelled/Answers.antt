use Rattle.ar_bytes.proofs.Passing.{bytes_pass, counted_pass}
use Rattle.ar_bytes.proofs.laws.bytes_are_spelled.Goals as goal

pub returns-clause-plain : goal.returns-clause-plain
returns-clause-plain c = λ n at new bytes fits e. bytes_pass n at new bytes e

pub returns-clause-counted : goal.returns-clause-counted
returns-clause-counted c = λ at new bytes fits e. counted_pass at new bytes fits e
