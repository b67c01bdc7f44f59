use Rattle.std.proofs.Common.{sym}
use Rattle.hex.specs.Hex.{encode_lower}
use Rattle.ar_lines.proofs.Respelled.{hex_own}
use Rattle.ar_lines.proofs.Spelled.{bytes_of_hex-encode}
use Rattle.party_desk.proofs.Messages.{authority_takes, log_takes, only_hex, owner_takes}
use Rattle.party_desk.proofs.laws.hex_is_a_message.Goals as goal

pub returns-clause-log : goal.returns-clause-log
returns-clause-log c = λ number bytes h some. log_takes number (encode_lower bytes) bytes (bytes_of_hex-encode bytes h) some

pub returns-clause-authority : goal.returns-clause-authority
returns-clause-authority c = λ number bytes h some. authority_takes number (encode_lower bytes) bytes (bytes_of_hex-encode bytes h) some

pub returns-clause-owner : goal.returns-clause-owner
returns-clause-owner c = λ party bytes h some. owner_takes party (encode_lower bytes) bytes (bytes_of_hex-encode bytes h) some

pub returns-clause-alone : goal.returns-clause-alone
returns-clause-alone c = λ line bytes h. sym (hex_own line bytes (only_hex line bytes h)).0
