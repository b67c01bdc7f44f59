-- Signatures of logs and authorities: u32 generation, and behind it the LMS signature by the key of this
-- generation.
use Rattle.std.specs.Prelude.{◌≡◌, ℕ, ◌+◌, ◌==◌, nat_lt, Bool, true, false, not, ◌&&◌, if◌then◌else◌, List, [], ◌∷◌, length, take, drop, slice_get, Option, Some, None, option_and_then, Result, Ok, Err}
use Rattle.std.specs.Int.{w32, from_be_bytes}
use Rattle.std.specs.Result.{result_ok}
use Rattle.lms_tree.specs.LmsKind.{leaves_of}
use Rattle.std.proofs.lemmas.Map.Entries.{option_filter}
use Rattle.lms_tree.specs.declared.public_key.LmsPublic.{LmsPublic}
use Rattle.lms_tree.specs.declared.validity.Verdict.{Verdict}
use Rattle.lms_tree.specs.declared.validity.Verdict.TheVariants.{Valid, Invalid}
use Rattle.lms_tree.specs.Validity.{verdict_of}
use Rattle.ar_bytes.specs.Reading.{whole}
use Rattle.ar_statement.specs.declared.party.Party.{Party}
use Rattle.ar_statement.specs.Claims.{Claim, endorse, handover, propose, vote, confirm, confirm_absent, answer, status, roll, object}
use Rattle.ar_statement.specs.Ranges.{is_in_range}
use Rattle.ar_statement.specs.Texts.{statement_at}
use Rattle.party_keys.specs.Directory.{Directory, keys_of}
use Rattle.party_keys.specs.declared.fault.VerifyFault.{VerifyFault}
use Rattle.party_keys.specs.declared.fault.VerifyFault.TheVariants.{Unknown, Bad}

-- ---- the parts of a signature

-- the number that the first four bytes are, where there are so many
abbrev pub number_in_front : List ℕ → Option ℕ
number_in_front bytes = if nat_lt (length bytes) 4 then None else Some (from_be_bytes w32 (take 4 bytes))

-- the generation of the key that signed
abbrev pub generation_of : List ℕ → Option ℕ
generation_of signature = number_in_front signature

-- the LMS signature behind the generation
abbrev pub behind_generation : List ℕ → List ℕ
behind_generation signature = drop 4 signature

-- the leaf that an LMS signature has in front (RFC 8554, section 5.4)
abbrev pub leaf_of : List ℕ → Option ℕ
leaf_of signature = number_in_front signature

-- ---- what stands at a key's last leaf

-- the statement that has this text, where it may be signed
unfoldable pub claim_in : List ℕ → Option Claim
claim_in text = option_filter is_in_range (result_ok (whole statement_at text))

-- the generation that a statement names as that of its key, where it is a Roll
abbrev pub rolls_from : Claim → Option ℕ
rolls_from (endorse authority certificate) = None
rolls_from (handover certificate) = None
rolls_from (propose log epoch base root) = None
rolls_from (vote log epoch base root) = None
rolls_from (confirm signer epoch name certificate root) = None
rolls_from (confirm_absent signer epoch name root) = None
rolls_from (answer name certificate challenge) = None
rolls_from (status log epoch value) = None
rolls_from (roll signer generation key) = Some generation
rolls_from (object certificate) = None

-- the generation that a text names, where it is the text of a Roll
abbrev pub roll_in : List ℕ → Option ℕ
roll_in text = option_and_then rolls_from (claim_in text)

-- the leaf is the last of the key's
abbrev pub is_last_leaf : LmsPublic → Option ℕ → Bool
is_last_leaf key None = false
is_last_leaf key (Some leaf) = leaf + 1 == leaves_of key.lms

-- The last leaf of a key is kept for the Roll that announces the next key: there stands the Roll that names
-- the key's own generation, and no other text stands there.
abbrev pub is_in_place : Option ℕ → ℕ → Bool → Bool
is_in_place None generation last = not last
is_in_place (Some named) generation last = last && (named == generation)

-- ---- verifying

-- the answer to a signature by its verdict, and by whether its text stands where it may
abbrev pub answer_of : Verdict → Bool → Result (Unit {0}) VerifyFault
answer_of (Invalid k) placed = Err (Bad k)
answer_of Valid false = Err (Bad 7)
answer_of Valid true = Ok tt

-- the answer to an LMS signature under the key of a generation, where this key is known
abbrev pub answer_by : Option LmsPublic → ℕ → List ℕ → List ℕ → Result (Unit {0}) VerifyFault
answer_by None generation text signature = Err (Bad 6)
answer_by (Some key) generation text signature =
    answer_of (verdict_of key text signature)
    (is_in_place (roll_in text) generation (is_last_leaf key (leaf_of signature)))

-- the answer under the keys of a party, by the generation that the signature names
abbrev pub answer_at : Option ℕ → List LmsPublic → List ℕ → List ℕ → Result (Unit {0}) VerifyFault
answer_at None keys text signature = Err (Bad 1)
answer_at (Some generation) keys text signature =
    answer_by (slice_get keys generation) generation text (behind_generation signature)

-- the same, where the party has keys
abbrev pub answer_under : List LmsPublic → Party → List ℕ → List ℕ → Result (Unit {0}) VerifyFault
answer_under [] party text signature = Err (Unknown party)
answer_under (first ∷ later) party text signature = answer_at (generation_of signature) (first ∷ later) text signature

-- Whether a party signed a text: it is unknown where it is not in the directory. Else its signature is bad
-- by the first of these: 1 it has fewer than four bytes, 6 its generation is not known of the party, 1 to 5
-- the verdict under the key of this generation (RFC 8554, section 5.4.2), 7 the text is not one for its leaf.
unfoldable pub verified : Directory → Party → List ℕ → List ℕ → Result (Unit {0}) VerifyFault
verified keys party text signature = answer_under (keys_of keys party) party text signature

-- the party's signature of the text is valid under the keys
abbrev pub IsVerified : Directory → Party → List ℕ → List ℕ → Type 0
IsVerified keys party text signature = verified keys party text signature ≡ Ok tt
