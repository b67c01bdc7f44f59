-- What it means that a party took the texts of a file.
use Rattle.std.specs.Prelude.{◌≡◌, ◌≢◌, ◌≤◌, ℕ, ◌+◌, Bool, List, ◌++◌, length, take}
use Rattle.chained_journal.specs.Journal.{AreShort, Stands, chained, header_len, journal, open_gate, records, recovered, start}
use Rattle.chained_journal.specs.Refusals.{BearsOut}
use Rattle.chained_journal.specs.Replays.{ReachesBy}
use Rattle.chained_journal.specs.declared.fault.OpenFault.{OpenFault}
use Rattle.chained_journal.specs.declared.fault.OpenFault.TheVariants as faults
use Rattle.chained_journal.specs.declared.standing.Standing.{Standing}
use Rattle.chained_journal.specs.declared.title.Title.{Title}
use Rattle.chained_journal.specs.declared.title.Witness.{Witness}

-- The file is a journal of texts, behind which no gate is open, the party took them, and this is where they end.
pub record IsLoaded {P : Type 0} (takes : P → List ℕ → Bool → P → Type 0) (first last : P) (title : Title) (witnessed : ℕ) (file : List ℕ) (standing : Standing) (at_witness : List ℕ) : Type 0 where
  pub texts : List (List ℕ)
  pub rest : List ℕ
  pub short : AreShort texts
  pub is : file ≡ journal title texts rest
  pub some : 8 ≤ length rest
  pub not_open : (behind : List ℕ) → rest ≢ open_gate ++ behind
  pub end_is : standing.end ≡ header_len + length (records (start title) texts)
  pub count_is : standing.count ≡ length texts
  pub chain_is : standing.chain ≡ chained (start title) texts
  pub at_is : at_witness ≡ chained (start title) (take witnessed texts)
  pub replays : ReachesBy takes first texts last

-- The file stands for its texts, which bear out the witness, the party took them, and this is where they end.
pub record IsRead {P : Type 0} (takes : P → List ℕ → Bool → P → Type 0) (first last : P) (title : Title) (witness : Witness) (file : List ℕ) (standing : Standing) : Type 0 where
  pub titled : length title.header ≡ header_len
  pub stands : Stands title (recovered file) file
  pub end_is : standing.end ≡ header_len + length (records (start title) (recovered file))
  pub count_is : standing.count ≡ length (recovered file)
  pub chain_is : standing.chain ≡ chained (start title) (recovered file)
  pub borne : BearsOut title witness (recovered file)
  pub replays : ReachesBy takes first (recovered file) last

-- a refusal that comes of a record, or of want of memory
abbrev pub IsOfRecords : OpenFault → Type 0
IsOfRecords faults.NotBegun = ⊥
IsOfRecords faults.NotJournal = ⊥
IsOfRecords faults.NotOwn = ⊥
IsOfRecords (faults.Damaged place) = Unit {0}
IsOfRecords (faults.Unsure place) = ⊥
IsOfRecords (faults.NotTaken place) = Unit {0}
IsOfRecords (faults.Older count) = ⊥
IsOfRecords faults.Memory = Unit {0}
IsOfRecords faults.DiskFault = ⊥
