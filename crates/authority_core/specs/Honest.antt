-- What it is that a record is an honest authority's.
use Rattle.std.specs.Prelude.{◌≡◌, ℕ, List, All, Contains, Option, Some, None}
use Rattle.ar_base.specs.Bytes.{IsDigest}
use Rattle.ar_statement.specs.declared.text.SeenText.{SeenText}
use Rattle.ar_statement.specs.Claims.{Claim, authority_party, endorse, handover, propose, vote, confirm, confirm_absent, answer, status, roll, object}
use Rattle.ar_statement.specs.Ranges.{IsTextOf}
use Rattle.key_roll.specs.Book.{IsRollBook, texts_of}
use Rattle.ar_council.specs.Seen.{SeesMembers}
use Rattle.ar_council.specs.Council.{Council}
use Rattle.ar_council.specs.Votes.{SawVotes}
use Rattle.authority_core.specs.Record.{AuthorityRecord}
use Rattle.authority_core.specs.declared.entries.Approved.{Approved}
use Rattle.authority_core.specs.declared.entries.Kept.{Kept}

-- its check said yes to a certificate with this digest
abbrev pub HasAsked : List Approved → List ℕ → Type 0
HasAsked asked certificate = (a : Approved) × (Contains asked a × (a.certificate ≡ certificate))

-- it keeps this of a log, and votes of a quorum for the root over one base were seen
abbrev pub HasKept : Council → List SeenText → List Kept → ℕ → List ℕ → Option (List ℕ) → List ℕ → Type 0
HasKept council seen kept epoch name certificate root =
    (k : Kept) × (Contains kept k × (k.epoch ≡ epoch) × (k.name ≡ name) × (k.certificate ≡ certificate) × (k.root ≡ root)
    × IsDigest k.base × SawVotes council seen epoch (record { base = k.base; root = root }))

-- The authority with this number may have signed a statement, as far as its entries tell: it endorses only certificates to
-- which its check said yes, confirms only what it keeps with a quorum's votes, and rolls; it signs nothing else.
unfoldable pub ToldBy : Council → ℕ → List SeenText → List Approved → List Kept → Claim → Type 0
ToldBy council me seen asked kept (endorse authority certificate) = (authority ≡ me) × HasAsked asked certificate
ToldBy council me seen asked kept (confirm signer epoch name certificate root) =
    (signer ≡ authority_party me) × HasKept council seen kept epoch name (Some certificate) root
ToldBy council me seen asked kept (confirm_absent signer epoch name root) = (signer ≡ authority_party me) × HasKept council seen kept epoch name None root
ToldBy council me seen asked kept (roll signer generation key) = signer ≡ authority_party me
ToldBy council me seen asked kept (handover certificate) = ⊥
ToldBy council me seen asked kept (propose log epoch base root) = ⊥
ToldBy council me seen asked kept (vote log epoch base root) = ⊥
ToldBy council me seen asked kept (answer name certificate challenge) = ⊥
ToldBy council me seen asked kept (status log epoch value) = ⊥
ToldBy council me seen asked kept (object certificate) = ⊥

-- The record is that of an honest authority with this number: its book is sound, it has only texts of statements that the
-- entries tell of, and what it saw is of logs and authorities of the council.
pub record IsOfHonestAuthority (council : Council) (me : ℕ) (r : AuthorityRecord) : Type 0 where
  pub sound : IsRollBook r.signed
  pub told : All (IsTextOf (ToldBy council me r.seen r.asked r.kept)) (texts_of r.signed)
  pub sees_members : SeesMembers council r.seen
