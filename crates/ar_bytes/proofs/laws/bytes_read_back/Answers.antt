use Rattle.std.proofs.Common.{length, refl}
use Rattle.ar_bytes.proofs.Passing.{bytes_again, counted_again}
use Rattle.ar_bytes.proofs.laws.bytes_read_back.Goals as goal

pub returns-clause-plain : goal.returns-clause-plain
returns-clause-plain c = λ bytes at new p. bytes_again (length bytes) bytes at new refl p

pub returns-clause-counted : goal.returns-clause-counted
returns-clause-counted c = λ bytes lt at new p. counted_again bytes lt at new p
