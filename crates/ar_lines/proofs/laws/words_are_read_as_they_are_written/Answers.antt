use Rattle.ar_lines.proofs.PartyWords.{party_is_read}
use Rattle.ar_lines.proofs.Spelled.{bytes_of_hex-encode, key_of_hex-key, name_of-name, number_of-decimal}
use Rattle.ar_lines.proofs.laws.words_are_read_as_they_are_written.Goals as goal

pub returns-clause-hex : goal.returns-clause-hex
returns-clause-hex c = bytes_of_hex-encode

pub returns-clause-number : goal.returns-clause-number
returns-clause-number c = number_of-decimal

pub returns-clause-name : goal.returns-clause-name
returns-clause-name c = name_of-name

pub returns-clause-key : goal.returns-clause-key
returns-clause-key c = key_of_hex-key

pub returns-clause-party : goal.returns-clause-party
returns-clause-party c = party_is_read
