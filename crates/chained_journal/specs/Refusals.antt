-- What a file is that is refused, and what a witness does not bear out.
use Rattle.std.specs.Prelude.{◌≡◌, ◌≢◌, ◌⊎◌, ℕ, ◌+◌, ◌<◌, ◌≤◌, ◌==◌, Bool, List, [], ◌∷◌, ◌++◌, length, take, true, IsTrue}
use Rattle.std.specs.List.{list_all}
use Rattle.chained_journal.specs.Journal.{AreShort, HasNoRecord, IsUnsure, Stands, chained, header_len, journal, open_gate, opens, records, start}
use Rattle.chained_journal.specs.Replays.{ReachesBefore}
use Rattle.chained_journal.specs.declared.fault.OpenFault.{OpenFault}
use Rattle.chained_journal.specs.declared.fault.OpenFault.TheVariants as faults
use Rattle.chained_journal.specs.declared.title.Title.{Title}
use Rattle.chained_journal.specs.declared.title.Witness.{Witness}

-- ---- before the records

-- how many bytes a journal with no texts has: a header and a gate
abbrev pub least : ℕ
least = 48

-- Nothing was begun here: there are at most 48 bytes, and each is 0.
pub record IsBlank (file : List ℕ) : Type 0 where
  pub small : length file ≤ least
  pub zeros : IsTrue (list_all (λ byte. byte == 0) file)

-- a piece of a header and a gate: too few bytes, some of which are not 0
pub record IsPiece (file : List ℕ) : Type 0 where
  pub small : length file < least
  pub some : ¬ IsBlank file

-- it is long enough, and does not begin with the mark
pub record IsNoJournal (title : Title) (file : List ℕ) : Type 0 where
  pub long : least ≤ length file
  pub other : (rest : List ℕ) → file ≢ take 8 title.header ++ rest

-- it begins with the mark, and not with the header
pub record IsOfAnother (title : Title) (file : List ℕ) : Type 0 where
  pub long : least ≤ length file
  pub behind : List ℕ
  pub marked : file ≡ take 8 title.header ++ behind
  pub other : (rest : List ℕ) → file ≢ title.header ++ rest

-- ---- among the records

-- The gate at this place is open, and behind it is no whole record whose chain is right.
pub record IsBroken (title : Title) (file : List ℕ) (place : ℕ) : Type 0 where
  pub texts : List (List ℕ)
  pub behind : List ℕ
  pub short : AreShort texts
  pub is : file ≡ journal title texts (open_gate ++ behind)
  pub place_is : place ≡ header_len + length (records (start title) texts)
  pub none : HasNoRecord (chained (start title) texts) behind

-- the file is a piece of a header, or a record is broken
abbrev pub IsDamaged : Title → List ℕ → ℕ → Type 0
IsDamaged title file place = ((place ≡ 0) × IsPiece file) ⊎ IsBroken title file place

-- The gate at this place is neither open nor shut.
pub record HasUnsureGate (title : Title) (file : List ℕ) (place : ℕ) : Type 0 where
  pub texts : List (List ℕ)
  pub gate : List ℕ
  pub behind : List ℕ
  pub short : AreShort texts
  pub unsure : IsUnsure gate
  pub is : file ≡ journal title texts (gate ++ behind)
  pub place_is : place ≡ header_len + length (records (start title) texts)

-- The record at this place is right, and the party, which came there by the records before it, does not take its text.
pub record IsNotTaken {P : Type 0} (takes : P → List ℕ → Bool → P → Type 0) (title : Title) (first : P) (file : List ℕ) (place : ℕ) : Type 0 where
  pub texts : List (List ℕ)
  pub text : List ℕ
  pub behind : List ℕ
  pub party : P
  pub short : AreShort (texts ++ text ∷ [])
  pub some : 8 ≤ length behind
  pub is : file ≡ journal title (texts ++ text ∷ []) behind
  pub place_is : place ≡ header_len + length (records (start title) texts)
  pub reached : ReachesBefore takes true first texts party
  pub stuck : (later : P) → ¬ takes party text (opens behind) later

-- ---- witnesses

-- the texts have as many as were witnessed, and so many of them have the chain that was
pub record BearsOut (title : Title) (witness : Witness) (texts : List (List ℕ)) : Type 0 where
  pub enough : witness.count ≤ length texts
  pub chain_is : chained (start title) (take witness.count texts) ≡ witness.chain

-- The file stands for texts that do not bear out the witness, which counts so many.
pub record IsOlder (title : Title) (witness : Witness) (file : List ℕ) (count : ℕ) : Type 0 where
  pub texts : List (List ℕ)
  pub stands : Stands title texts file
  pub count_is : count ≡ witness.count
  pub other : ¬ BearsOut title witness texts

-- ---- refusals

-- What it means that a file is refused so, as this party would take it. No file is refused for a fault of the disk.
abbrev pub Refusal : {P : Type 0} → (P → List ℕ → Bool → P → Type 0) → Title → Witness → P → List ℕ → OpenFault → Type 0
Refusal takes title witness first file faults.NotBegun = IsBlank file
Refusal takes title witness first file faults.NotJournal = IsNoJournal title file
Refusal takes title witness first file faults.NotOwn = IsOfAnother title file
Refusal takes title witness first file (faults.Damaged place) = IsDamaged title file place
Refusal takes title witness first file (faults.Unsure place) = HasUnsureGate title file place
Refusal takes title witness first file (faults.NotTaken place) = IsNotTaken takes title first file place
Refusal takes title witness first file (faults.Older count) = IsOlder title witness file count
Refusal takes title witness first file faults.Memory = Unit {0}
Refusal takes title witness first file faults.DiskFault = ⊥
