-- The signed statements that stand in a message, in the order in which they are verified: first each signer has to be
-- known, and then each signature valid.
use Rattle.std.specs.Prelude.{List, map}
use Rattle.ar_base.specs.Gives.{with_error}
use Rattle.ar_statement.specs.declared.party.Party.{Party}
use Rattle.party_keys.specs.Directory.{Directory}
use Rattle.party_keys.specs.Signers.{Claimed, all_known, signers_answer}
use Rattle.party_keys.specs.declared.fault.SignerFault.{SignerFault}
use Rattle.party_keys.specs.declared.fault.SignerFault.TheVariants as signer_fault
use Rattle.log_sending.specs.Checks.{Check}
use Rattle.log_sending.specs.declared.refusal.LogRefusal.{LogRefusal}
use Rattle.log_sending.specs.declared.refusal.LogRefusal.TheVariants as refusals

-- ---- L3, L4: signers

-- the refusal of a signer that is not accepted
abbrev pub of_signers : SignerFault → LogRefusal
of_signers (signer_fault.Unknown party) = refusals.Unknown party
of_signers (signer_fault.Bad party number) = refusals.BadSignature party number

-- each signer is known; and then each signature is valid
abbrev pub signers : Directory → List Claimed → Check
signers keys claims = with_error of_signers (signers_answer keys (map (λ c. c.party) claims) claims)

-- each of these parties is known
abbrev pub known : Directory → List Party → Check
known keys parties = with_error of_signers (all_known keys parties)
