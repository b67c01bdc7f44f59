-- What is read of a text, as the statement that has it.
use Rattle.std.proofs.Common.{◌≡◌, ℕ, ◌==◌, List, Bool, true, false, Option, Some, None, IfSome, refl, sym, ap, ◌∙◌}
use Rattle.std.specs.Prelude.{option_and_then, slice_index}
use Rattle.std.specs.Option.{option_map}
use Rattle.std.specs.Result.{result_ok}
use Rattle.std.proofs.lemmas.Map.Entries.{option_filter}
use Rattle.ar_base.specs.Bytes.{AreBytes}
use Rattle.ar_bytes.specs.Reading.{whole}
use Rattle.ar_statement.specs.declared.statement.Statement.{Statement}
use Rattle.ar_bytes.specs.RoundTrip.{number_text}
use Rattle.ar_statement.specs.declared.party.Party.{Party}
use Rattle.ar_statement.specs.Claims.{Claim, endorse, handover, propose, vote, confirm, confirm_absent, answer, status, roll, object, claim_of, text_of}
use Rattle.ar_statement.specs.Ranges.{IsValid, is_in_range}
use Rattle.ar_statement.specs.Texts.{statement_at}
use Rattle.ar_statement.proofs.OneText.{is_found, is_read}
use Rattle.party_keys.specs.Signatures.{claim_in, roll_in, rolls_from}

-- a statement that is read is the one that has the text
pub one_claim : (text : List ℕ) (claim : Claim) → IsValid claim → text_of claim ≡ text → claim_in text ≡ Some claim
unfolding claim_in
one_claim text claim valid is =
    let read : result_ok (whole statement_at text) ≡ Some claim = is_read text claim valid.held is in
    rw (read, valid.ranges) refl

-- where no statement is read, none has the text
pub no_claim : (text : List ℕ) → AreBytes text → ((claim : Claim) → IsValid claim → text_of claim ≡ text → ⊥) → claim_in text ≡ None
unfolding claim_in
no_claim text bytes none = by_reading (result_ok (whole statement_at text)) refl where
  by_range : (claim : Claim) → Some claim ≡ result_ok (whole statement_at text) → (b : Bool) → is_in_range claim ≡ b → option_filter is_in_range (Some claim) ≡ None
  by_range claim read true e = let found = is_found text claim bytes read in absurd (none claim (record { held = found.0; ranges = e }) found.1)
  by_range claim read false e = rw e refl

  by_reading : (read : Option Claim) → read ≡ result_ok (whole statement_at text) → option_filter is_in_range read ≡ None
  by_reading None e = refl
  by_reading (Some claim) e = by_range claim e (is_in_range claim) refl

-- what is told of the statement that was read from a text, says which it is
pub read_is : (text : List ℕ) (read : Option Statement) → AreBytes text
    → IfSome read (λ s. IsValid (claim_of s) × (text_of (claim_of s) ≡ text))
    → ((claim : Claim) → IsValid claim → text_of claim ≡ text → option_map claim_of read ≡ Some claim)
    → option_map claim_of read ≡ claim_in text
read_is text None bytes found only = sym (no_claim text bytes (λ claim valid is. none (only claim valid is))) where
  none : {claim : Claim} → None ≡ Some claim → ⊥
  none e = cc
read_is text (Some statement) bytes found only = sym (one_claim text (claim_of statement) found.0 found.1)

-- ---- texts that begin otherwise than a Roll's

-- what is read was spelled so
pub claim_text : (text : List ℕ) (claim : Claim) → AreBytes text → claim_in text ≡ Some claim → text_of claim ≡ text
unfolding claim_in
claim_text text claim bytes = by_reading (result_ok (whole statement_at text)) refl where
  by_range : (read : Claim) → Some read ≡ result_ok (whole statement_at text) → (b : Bool) → is_in_range read ≡ b
      → option_filter is_in_range (Some read) ≡ Some claim → text_of claim ≡ text
  by_range read e true within is =
      let same : Some read ≡ Some claim = rw within at is in
      let one : read ≡ claim = cc in
      ap text_of (sym one) ∙ (is_found text read bytes e).1
  by_range read e false within is = let none : None ≡ Some claim = rw within at is in absurd cc

  by_reading : (read : Option Claim) → read ≡ result_ok (whole statement_at text)
      → option_filter is_in_range read ≡ Some claim → text_of claim ≡ text
  by_reading None e is = absurd cc
  by_reading (Some read) e is = by_range read e (is_in_range read) refl is

begins_so : (signer : Party) (generation : ℕ) (key : List ℕ) → slice_index (text_of (roll signer generation key)) 0 == 10 ≡ true
unfolding text_of number_text
begins_so signer generation key = refl

-- a text that begins otherwise is of no Roll
pub no_roll : (text : List ℕ) → AreBytes text → (slice_index text 0 == 10) ≡ false → roll_in text ≡ None
no_roll text bytes otherwise = by (claim_in text) refl where
  by : (read : Option Claim) → claim_in text ≡ read → option_and_then rolls_from read ≡ None
  by None is = refl
  by (Some (endorse a b)) is = refl
  by (Some (handover a)) is = refl
  by (Some (propose a b c d)) is = refl
  by (Some (vote a b c d)) is = refl
  by (Some (confirm a b c d e)) is = refl
  by (Some (confirm_absent a b c d)) is = refl
  by (Some (answer a b c)) is = refl
  by (Some (status a b c)) is = refl
  by (Some (roll a b c)) is =
      let begins : (slice_index text 0 == 10) ≡ true =
      ap (λ t. slice_index t 0 == 10) (sym (claim_text text (roll a b c) bytes is)) ∙ begins_so a b c in
      absurd cc
  by (Some (object a)) is = refl
