use Rattle.ar_lines.proofs.PartyWords.{party_writes}
use Rattle.ar_lines.proofs.Respelled.{key_hex_own, name_own, number_own}
use Rattle.ar_lines.proofs.RowsWritten.{hex_writes}
use Rattle.ar_lines.proofs.laws.only_written_words_are_read.Goals as goal

pub returns-clause-hex : goal.returns-clause-hex
returns-clause-hex c = hex_writes

pub returns-clause-number : goal.returns-clause-number
returns-clause-number c = number_own

pub returns-clause-name : goal.returns-clause-name
returns-clause-name c = name_own

pub returns-clause-key : goal.returns-clause-key
returns-clause-key c = key_hex_own

pub returns-clause-party : goal.returns-clause-party
returns-clause-party c = party_writes
