use Rattle.std.proofs.Common.{◌^◌}
use Rattle.std.specs.Int.{w8, w16, w32, w64}
use Rattle.ar_bytes.proofs.Passing.{number_pass, wide8, wide16, wide32, wide64}
use Rattle.ar_bytes.proofs.laws.numbers_are_spelled.Goals as goal

pub returns-clause-one_byte : goal.returns-clause-one_byte
returns-clause-one_byte c = λ at new n fits e. number_pass w8 (2 ^ 8) wide8 at new n fits e

pub returns-clause-two_bytes : goal.returns-clause-two_bytes
returns-clause-two_bytes c = λ at new n fits e. number_pass w16 (2 ^ 16) wide16 at new n fits e

pub returns-clause-four_bytes : goal.returns-clause-four_bytes
returns-clause-four_bytes c = λ at new n fits e. number_pass w32 (2 ^ 32) wide32 at new n fits e

pub returns-clause-eight_bytes : goal.returns-clause-eight_bytes
returns-clause-eight_bytes c = λ at new n fits e. number_pass w64 (2 ^ 64) wide64 at new n fits e
