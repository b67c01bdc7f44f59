use Rattle.ar_bytes.proofs.TestedFields.{byte_pass, count_pass, flag_pass}
use Rattle.ar_bytes.proofs.laws.tested_fields_are_spelled.Goals as goal

pub returns-clause-byte : goal.returns-clause-byte
returns-clause-byte c = byte_pass

pub returns-clause-count : goal.returns-clause-count
returns-clause-count c = count_pass

pub returns-clause-flag : goal.returns-clause-flag
returns-clause-flag c = flag_pass
