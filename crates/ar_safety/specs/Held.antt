-- A run as its nodes hold it: the directory of the clients, the records of the honest logs and of the honest authorities, each
-- ascending by number, and what clients accepted as bytes. `records_of` makes the theorem's records of it, and leaves nothing
-- out.
use Rattle.std.specs.Prelude.{◌≡◌, ℕ, zero, suc, not, if◌then◌else◌, List, [], ◌∷◌, ◌++◌, length, slice_index_or, All, Contains, Option}
use Rattle.std.specs.List.{filter_map}
use Rattle.std.specs.Option.{option_map}
use Rattle.std.specs.Result.{result_ok}
use Rattle.ar_base.specs.Bytes.{AreBytes}
use Rattle.ar_bytes.specs.Reading.{whole}
use Rattle.ar_statement.specs.declared.party.Party.{Party}
use Rattle.ar_statement.specs.declared.text.SeenText.{SeenText}
use Rattle.ar_statement.specs.Claims.{authority_party, has_party, log_party}
use Rattle.ar_cert.specs.Certificate.{Certificate}
use Rattle.ar_message.specs.Confirmation.{Confirmation, confirmation_at}
use Rattle.party_keys.specs.Directory.{Directory, IsDirectory}
use Rattle.client_rule.specs.Rule.{judgement, Asked}
use Rattle.client_rule.specs.declared.judgement.Judgement.{Judgement}
use Rattle.client_rule.specs.declared.judgement.Judgement.TheVariants.{Absent, Accepted, Refused}
use Rattle.ar_council.specs.Council.{council_of}
use Rattle.epoch_log.specs.Calls.{fresh}
use Rattle.epoch_log.specs.Honest.{IsOfHonestLog}
use Rattle.epoch_log.specs.Record.{LogRecord}
use Rattle.authority_core.specs.Calls.{fresh_authority}
use Rattle.authority_core.specs.Honest.{IsOfHonestAuthority}
use Rattle.authority_core.specs.Record.{AuthorityRecord}
use Rattle.vote_quorum.specs.Counted.{count_below}
use Rattle.ar_safety.specs.Agreed.{HasNewest, HasNone}
use Rattle.ar_safety.specs.Records.{IsHonest, IsHonestLog, AcceptedConfirmation, Records}
use Rattle.ar_safety.specs.Theorem.{Safe}

-- one judgement: the name, the epoch and the age that the client asked with, and the bytes that it judged
pub record AcceptedBytes : Type 0 where
  pub name : List ℕ
  pub now : ℕ
  pub age : ℕ
  pub bytes : List ℕ

-- The clients' directory, who is dishonest, the records of all honest logs and authorities, the judgements that accepted, and
-- the Rolls that the directory learnt.
pub record Held : Type 0 where
  pub directory : Directory
  pub dishonest : List Party
  pub logs : List LogRecord
  pub authorities : List AuthorityRecord
  pub judged : List AcceptedBytes
  pub learned : List SeenText

-- how many of the parties with a number below n are honest
abbrev pub honest_below : (ℕ → Party) → List Party → ℕ → ℕ
honest_below party dishonest n = count_below n (λ k. not (has_party dishonest (party k)))

-- the record at a party's place among the honest ones
abbrev pub record_at : {X : Type 0} → (ℕ → Party) → List Party → List X → X → ℕ → X
record_at party dishonest records none n = slice_index_or records (honest_below party dishonest n) none

-- what the client asked for
abbrev pub asked_by : Directory → AcceptedBytes → Asked
asked_by directory t = record { keys = directory; name = t.name; epoch = t.now; age = t.age }

-- a judgement with the confirmation that its bytes are, where they are one
abbrev pub judged_in : Directory → AcceptedBytes → Option AcceptedConfirmation
judged_in directory t =
    option_map (λ (c : Confirmation). record { asked = asked_by directory t; bytes = t.bytes; confirmation = c }) (result_ok (whole confirmation_at t.bytes))

-- the theorem's records
abbrev pub records_of : Held → Records
records_of h = record {
  council = council_of h.directory;
  dishonest = h.dishonest;
  logs = record_at log_party h.dishonest h.logs (fresh 0 (council_of h.directory) 1).past;
  authorities = record_at authority_party h.dishonest h.authorities (fresh_authority 1);
  judged = filter_map (judged_in h.directory) h.judged;
  learned = h.learned;
}

-- ---- what a run keeps

-- the verdict of the client's rule
abbrev pub verdict_on : Directory → AcceptedBytes → Judgement
verdict_on directory t = judgement (asked_by directory t) t.bytes

abbrev pub IsAccepting : Judgement → Type 0
IsAccepting (Accepted certificate digest epoch root) = Unit {0}
IsAccepting (Absent epoch root) = Unit {0}
IsAccepting (Refused number) = ⊥

-- the directory is one; there is a record of each honest log and authority, and no other, and each is an honest one's; and
-- each judgement accepted a certificate, or that there is none
pub record AreKept (h : Held) : Type 0 where
  pub is_directory : IsDirectory h.directory
  pub all_logs : length h.logs ≡ honest_below log_party h.dishonest (length h.directory.logs)
  pub all_authorities : length h.authorities ≡ honest_below authority_party h.dishonest (length h.directory.authorities)
  pub logs : (n : ℕ) → IsHonestLog (records_of h) n → IsOfHonestLog (council_of h.directory) n ((records_of h).logs n)
  pub authorities : (n : ℕ) → IsHonest (records_of h) (authority_party n) → IsOfHonestAuthority (council_of h.directory) n ((records_of h).authorities n)
  pub bytes : All (λ t. AreBytes t.bytes) h.judged
  pub taken : All (λ t. IsAccepting (verdict_on h.directory t)) h.judged

-- The theorem's clauses hold; and what each judgement accepted is the newest certificate of the name in the table that is
-- agreed, or the name has none there.
pub record AreSafe (h : Held) : Type 0 where
  pub safe : Safe (records_of h)
  pub accepted : (t : AcceptedBytes) (certificate : Certificate) (digest : List ℕ) (epoch : ℕ) (root : List ℕ) → Contains h.judged t
      → verdict_on h.directory t ≡ Accepted certificate digest epoch root → HasNewest (records_of h) t.name epoch root certificate
  pub absence : (t : AcceptedBytes) (epoch : ℕ) (root : List ℕ) → Contains h.judged t
      → verdict_on h.directory t ≡ Absent epoch root → HasNone (records_of h) t.name epoch root

-- the records of the honest among the parties below n, ascending by number
unfoldable pub honest_records : {X : Type 0} → (ℕ → Party) → List Party → (ℕ → X) → ℕ → List X
honest_records party dishonest record_of zero = []
honest_records party dishonest record_of (suc n) =
    honest_records party dishonest record_of n ++ (if has_party dishonest (party n) then [] else record_of n ∷ [])
