-- How the text of a statement is read, field by field: its kind, its signer, and the fields that the kind
-- has.
use Rattle.std.specs.Prelude.{ℕ, List, Bool, ◌==◌, if◌then◌else◌, Option, Some, None, Err}
use Rattle.std.specs.Int.{w8, w16, w32, w64}
use Rattle.ar_base.specs.Chaining.{◌>>=◌}
use Rattle.ar_bytes.specs.Reading.{Cursor, Reading, bytes_at, known_at, mapped_at, number_at, such_that}
use Rattle.ar_bytes.specs.Joined.{pair_at, optional_at}
use Rattle.ar_statement.specs.declared.party.Role.{Role}
use Rattle.ar_statement.specs.declared.party.Role.TheVariants.{LogServer, Authority, Owner, Client}
use Rattle.ar_statement.specs.declared.party.Party.{Party}
use Rattle.ar_statement.specs.Claims.{Claim, endorse, handover, propose, vote, confirm, confirm_absent, answer, status, roll, object, party, is_party, signer_of, value_with}
use Rattle.ar_statement.specs.Fields.{digest_at, name_at}
use Rattle.vote_quorum.specs.declared.value.Value.{Value}

-- the role with this number
abbrev pub role_with : ℕ → Option Role
role_with n =
    if n == 1 then Some LogServer else
    if n == 2 then Some Authority else
    if n == 3 then Some Owner else
    if n == 4 then Some Client else
    None

-- the number of a role
unfoldable pub role_at : Cursor → Reading Role
role_at = known_at role_with (number_at w8)

-- a party: its role and its number
unfoldable pub party_at : Cursor → Reading Party
party_at = mapped_at (λ f. party f.0 f.1) (pair_at role_at (number_at w16))

-- two digests
abbrev pub digests_at : Cursor → Reading (List ℕ × List ℕ)
digests_at = pair_at digest_at digest_at

-- a base and a root
unfoldable pub value_at : Cursor → Reading Value
value_at = mapped_at (λ f. value_with f.0 f.1) digests_at

-- the fields of each kind, behind its signer

unfoldable pub endorse_at : Party → Cursor → Reading Claim
endorse_at signer = mapped_at (endorse signer.number) digest_at

unfoldable pub handover_at : Cursor → Reading Claim
handover_at = mapped_at handover digest_at

unfoldable pub propose_at : Party → Cursor → Reading Claim
propose_at signer = mapped_at (λ f. propose signer.number f.0 f.1.base f.1.root) (pair_at (number_at w64) value_at)

unfoldable pub vote_at : Party → Cursor → Reading Claim
vote_at signer = mapped_at (λ f. vote signer.number f.0 f.1.base f.1.root) (pair_at (number_at w64) value_at)

unfoldable pub confirm_at : Party → Cursor → Reading Claim
confirm_at signer = mapped_at (λ f. confirm signer f.0 f.1.0 f.1.1.0 f.1.1.1) (pair_at (number_at w64) (pair_at name_at digests_at))

unfoldable pub absent_at : Party → Cursor → Reading Claim
absent_at signer = mapped_at (λ f. confirm_absent signer f.0 f.1.0 f.1.1) (pair_at (number_at w64) (pair_at name_at digest_at))

unfoldable pub answer_at : Cursor → Reading Claim
answer_at = mapped_at (λ f. answer f.0 f.1.0 f.1.1) (pair_at name_at digests_at)

unfoldable pub status_at : Party → Cursor → Reading Claim
status_at signer = mapped_at (λ f. status signer.number f.0 f.1) (pair_at (number_at w64) (optional_at value_at))

unfoldable pub roll_at : Party → Cursor → Reading Claim
roll_at signer = mapped_at (λ f. roll signer f.0 f.1) (pair_at (number_at w32) (bytes_at 56))

unfoldable pub object_at : Cursor → Reading Claim
object_at = mapped_at object digest_at

-- the fields of the kind with this number
unfoldable pub fields_at : ℕ → Party → Cursor → Reading Claim
fields_at kind signer at =
    if kind == 1 then endorse_at signer at else
    if kind == 2 then handover_at at else
    if kind == 3 then propose_at signer at else
    if kind == 4 then vote_at signer at else
    if kind == 6 then confirm_at signer at else
    if kind == 7 then absent_at signer at else
    if kind == 8 then answer_at at else
    if kind == 9 then status_at signer at else
    if kind == 10 then roll_at signer at else
    if kind == 11 then object_at at else
    Err at.place

-- the signer is one that the kind has
abbrev pub is_signed_by : Party → Claim → Bool
is_signed_by signer claim = is_party (signer_of claim) signer

-- a statement: its kind, its signer, and the fields
unfoldable pub statement_at : Cursor → Reading Claim
statement_at at = do
  kind ← number_at w8 at
  signer ← party_at kind.1
  such_that (is_signed_by signer.0) (fields_at kind.0 signer.0) signer.1
