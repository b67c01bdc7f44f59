-- The tables of a map in the theorem's words: of each table its directory, the records of its parties, and what clients of the
-- map accepted of its names.
use Rattle.std.specs.Prelude.{◌≡◌, ℕ, ◌≤◌, List, ◌++◌, map, All, Ok, IsTrue}
use Rattle.ar_base.specs.Apart.{none_collide}
use Rattle.ar_base.specs.Bytes.{AreBytes}
use Rattle.ar_bytes.specs.Reading.{whole}
use Rattle.ar_statement.specs.Claims.{authority_party}
use Rattle.ar_message.specs.Confirmation.{Confirmation, confirmation_at}
use Rattle.party_keys.specs.Directory.{Directory, IsDirectory}
use Rattle.ar_council.specs.Council.{council_of}
use Rattle.epoch_log.specs.Honest.{IsOfHonestLog}
use Rattle.authority_core.specs.Honest.{IsOfHonestAuthority}
use Rattle.client_rule.specs.Rule.{Asked}
use Rattle.client_rule.specs.declared.judgement.Judgement.{Judgement}
use Rattle.ar_safety.specs.Held.{IsAccepting}
use Rattle.ar_safety.specs.Records.{AcceptedConfirmation, IsHonest, IsHonestLog, Records}
use Rattle.table_map.specs.Judging.{judgement_in}
use Rattle.table_map.specs.Maps.{IsPlaced, TableMap, most_bits, placed_strings}
use Rattle.table_map.specs.Tables.{table_of}
use Rattle.table_map.specs.declared.judging.MapJudgement.TheVariants.{Judged}

-- What a client of a map accepted: what it asked, by a directory that was shown as that of the table with this number, by this
-- path, and that may have learnt keys; and the bytes, with the confirmation that they are.
pub record MapAcceptance : Type 0 where
  pub table : ℕ
  pub path : List ℕ
  pub asked : Asked
  pub bytes : List ℕ
  pub confirmation : Confirmation

-- The map; of each table, by its number, the directory and the path that shows it, and the records of its parties; and what
-- clients of the map accepted of the names of each table.
pub record MapRecords : Type 0 where
  pub of_map : TableMap
  pub directories : ℕ → Directory
  pub paths : ℕ → List ℕ
  pub tables : ℕ → Records
  pub accepted : ℕ → List MapAcceptance

-- the same without the table and the path
abbrev pub confirmed_by : MapAcceptance → AcceptedConfirmation
confirmed_by a = record { asked = a.asked; bytes = a.bytes; confirmation = a.confirmation }

-- the records of a table, in which what was judged is what clients of the map accepted of its names
abbrev pub records_in : MapRecords → ℕ → Records
records_in r t = record {
  council = (r.tables t).council;
  dishonest = (r.tables t).dishonest;
  logs = (r.tables t).logs;
  authorities = (r.tables t).authorities;
  judged = map confirmed_by (r.accepted t);
  learned = (r.tables t).learned;
}

-- a client accepted it under the map, of a name of this table
pub record IsAcceptance (m : TableMap) (t : ℕ) (a : MapAcceptance) : Type 0 where
  pub name : table_of m.bits a.asked.name ≡ t
  pub bytes : AreBytes a.bytes
  pub verdict : Judgement
  pub judged : judgement_in m a.table a.path a.asked a.bytes ≡ Judged verdict
  pub accepts : IsAccepting verdict
  pub read : whole confirmation_at a.bytes ≡ Ok a.confirmation

-- What each table of a map meets, of which nothing is said of any other: its directory is shown under the map's root, and its
-- parties are those of the directory; the record of each log and authority that is not dishonest is an honest one's; and what
-- clients accepted of its names they accepted under the map.
pub record IsTable (r : MapRecords) (t : ℕ) : Type 0 where
  pub few_bits : r.of_map.bits ≤ most_bits
  pub placed : IsPlaced r.of_map t (r.directories t) (r.paths t)
  pub directory : IsDirectory (r.directories t)
  pub council : council_of (r.directories t) ≡ (r.tables t).council
  pub logs : (log : ℕ) → IsHonestLog (records_in r t) log → IsOfHonestLog (r.tables t).council log ((r.tables t).logs log)
  pub authorities : (authority : ℕ) → IsHonest (records_in r t) (authority_party authority)
      → IsOfHonestAuthority (r.tables t).council authority ((r.tables t).authorities authority)
  pub accepted : All (IsAcceptance r.of_map t) (r.accepted t)

-- no two strings collide of those that are hashed from the table's directory to the map's root, and from that which a client
-- was shown
abbrev pub NoMapCollision : MapRecords → ℕ → Type 0
NoMapCollision r t = All (λ a. IsTrue (none_collide (placed_strings r.of_map.bits t (r.directories t) (r.paths t)
    ++ placed_strings r.of_map.bits t a.asked.keys a.path))) (r.accepted t)
