use Rattle.party_desk.proofs.Letters.{letter_alone, letter_is_read}
use Rattle.party_desk.proofs.laws.a_letter_has_a_line_of_its_own.Goals as goal

pub returns-clause-words : goal.returns-clause-words
returns-clause-words c = letter_is_read

pub returns-clause-alone : goal.returns-clause-alone
returns-clause-alone c = letter_alone
