-- Who signed what: of a list of parties the first that is unknown, and of a list of claims the first whose signature is
-- not accepted. The two lists may differ, and all parties are looked at before any signature.
use Rattle.std.specs.Prelude.{ℕ, Bool, is_some, List, map, slice_get, Result}
use Rattle.std.specs.Result.{result_and}
use Rattle.ar_base.specs.FirstFailing.{first_error, first_failing, tests_of}
use Rattle.ar_base.specs.Gives.{with_error}
use Rattle.ar_statement.specs.Claims.{Claim, text_of}
use Rattle.ar_statement.specs.declared.party.Party.{Party}
use Rattle.ar_statement.specs.declared.text.SeenText.{SeenText}
use Rattle.party_keys.specs.Directory.{Directory, keys_of}
use Rattle.party_keys.specs.Signatures.{verified}
use Rattle.party_keys.specs.declared.fault.VerifyFault.{VerifyFault}
use Rattle.party_keys.specs.declared.fault.VerifyFault.TheVariants as verify_fault
use Rattle.party_keys.specs.declared.fault.SignerFault.{SignerFault}
use Rattle.party_keys.specs.declared.fault.SignerFault.TheVariants.{Unknown, Bad}

-- a party is said to have signed a text, with this signature
pub record Claimed : Type 0 where
  pub party : Party
  pub text : List ℕ
  pub signature : List ℕ

-- the party's statement, by what it says, with its signature
abbrev pub signed_by : Party → Claim → List ℕ → Claimed
signed_by party claim signature = record { party = party; text = text_of claim; signature = signature }

-- the text with its party, as it is seen where the signature is accepted
abbrev pub seen_in : Claimed → SeenText
seen_in c = record { party = c.party; text = c.text }

-- ---- parties

-- the party is in the directory: its key of generation 0 is known
abbrev pub is_known : Directory → Party → Bool
is_known keys party = is_some (slice_get (keys_of keys party) 0)

-- each of the parties is known, or the first that is not
abbrev pub all_known : Directory → List Party → Result (Unit {0}) SignerFault
all_known keys parties = first_failing (tests_of Unknown (is_known keys) parties)

-- ---- signatures

-- why a party's signature is not accepted
abbrev pub signer_fault : Party → VerifyFault → SignerFault
signer_fault party (verify_fault.Unknown _) = Unknown party
signer_fault party (verify_fault.Bad k) = Bad party k

-- the answer to one claim
abbrev pub signed_as : Directory → Claimed → Result (Unit {0}) SignerFault
signed_as keys c = with_error (signer_fault c.party) (verified keys c.party c.text c.signature)

-- each claim's signature is accepted, or the first that is not
abbrev pub all_signed : Directory → List Claimed → Result (Unit {0}) SignerFault
all_signed keys claims = first_error (map (signed_as keys) claims)

-- first the unknown party, then the signature that is not accepted
abbrev pub signers_answer : Directory → List Party → List Claimed → Result (Unit {0}) SignerFault
signers_answer keys parties claims = result_and (all_known keys parties) (all_signed keys claims)
