use Rattle.ar_bytes.proofs.TestedFields.{byte_again, count_again, flag_again}
use Rattle.ar_bytes.proofs.laws.tested_fields_read_back.Goals as goal

pub returns-clause-byte : goal.returns-clause-byte
returns-clause-byte c = byte_again

pub returns-clause-count : goal.returns-clause-count
returns-clause-count c = count_again

pub returns-clause-flag : goal.returns-clause-flag
returns-clause-flag c = flag_again
