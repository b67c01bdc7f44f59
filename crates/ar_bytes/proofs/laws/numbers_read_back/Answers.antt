use Rattle.std.proofs.Common.{◌^◌}
use Rattle.std.specs.Int.{w8, w16, w32, w64}
use Rattle.ar_bytes.proofs.Passing.{number_again, wide8, wide16, wide32, wide64}
use Rattle.ar_bytes.proofs.laws.numbers_read_back.Goals as goal

pub returns-clause-one_byte : goal.returns-clause-one_byte
returns-clause-one_byte c = λ n lt at new p. number_again w8 (2 ^ 8) wide8 n lt at new p

pub returns-clause-two_bytes : goal.returns-clause-two_bytes
returns-clause-two_bytes c = λ n lt at new p. number_again w16 (2 ^ 16) wide16 n lt at new p

pub returns-clause-four_bytes : goal.returns-clause-four_bytes
returns-clause-four_bytes c = λ n lt at new p. number_again w32 (2 ^ 32) wide32 n lt at new p

pub returns-clause-eight_bytes : goal.returns-clause-eight_bytes
returns-clause-eight_bytes c = λ n lt at new p. number_again w64 (2 ^ 64) wide64 n lt at new p
