-- What `mend` makes of a file.
use Rattle.std.proofs.Common.{◌≡◌, ◌∙◌, sym, ◌⊎◌, ℕ, ◌+◌, Bool, List, [], ◌∷◌, ◌++◌, length, Option, Some, None}
use Rattle.chained_journal.specs.Journal.{IsBeforeOrAfter, IsTornEnd, Stands, header_len, records, recovered, start}
use Rattle.chained_journal.specs.Refusals.{HasUnsureGate, IsBlank, IsDamaged, IsNoJournal, IsOfAnother}
use Rattle.chained_journal.specs.declared.fault.OpenFault.{OpenFault}
use Rattle.chained_journal.specs.declared.fault.OpenFault.TheVariants as faults
use Rattle.chained_journal.specs.declared.title.Title.{Title}

-- a party that takes each text, and stays as it is
abbrev pub TakesAny : {P : Type 0} → P → List ℕ → Bool → P → Type 0
TakesAny old text more new = new ≡ old

pub any_determined : {P : Type 0} → (party one other : P) (text : List ℕ) (more : Bool) → TakesAny party text more one → TakesAny party text more other → one ≡ other
any_determined party one other text more a b = a ∙ sym b

-- the file is the one torn end, and the gate at this place is the torn one
pub record IsTornAt (title : Title) (file : List ℕ) (place : ℕ) : Type 0 where
  pub texts : List (List ℕ)
  pub text : List ℕ
  pub torn : IsTornEnd title texts text file
  pub place_is : place ≡ header_len + length (records (start title) texts)

-- the place of its torn gate, where the file is the one torn end; else it stands for its texts
abbrev pub IsTornOrWhole : Title → List ℕ → Option ℕ → Type 0
IsTornOrWhole title file (Some place) = IsTornAt title file place
IsTornOrWhole title file None = Stands title (recovered file) file

-- A file that stands for its texts is left as it is. The one torn end becomes a journal of its texts and of the one behind the torn gate.
abbrev pub Mends : Title → List ℕ → List ℕ → Type 0
Mends title file new =
    (Stands title (recovered file) file × (new ≡ file))
    ⊎ ((texts : List (List ℕ)) × (text : List ℕ) × IsTornEnd title texts text file × Stands title (texts ++ text ∷ []) new)

-- it is one that a crash before might have left; or the file is the one torn end, and this stands for its texts, with the one behind the torn gate or without, or is torn so too
abbrev pub IsMendedOrBefore : Title → (List ℕ → Type 0) → List ℕ → List ℕ → Type 0
IsMendedOrBefore title may_leave file c =
    may_leave c ⊎ ((texts : List (List ℕ)) × (text : List ℕ) × IsTornEnd title texts text file × IsBeforeOrAfter title texts text c)

-- What it means that `mend` refuses a file so. A gate that is neither open nor shut is refused where the file is not the one torn end.
abbrev pub RefusesMend : Title → List ℕ → OpenFault → Type 0
RefusesMend title file faults.NotBegun = IsBlank file
RefusesMend title file faults.NotJournal = IsNoJournal title file
RefusesMend title file faults.NotOwn = IsOfAnother title file
RefusesMend title file (faults.Damaged place) = IsDamaged title file place
RefusesMend title file (faults.Unsure place) = HasUnsureGate title file place × ((texts : List (List ℕ)) (text : List ℕ) → ¬ IsTornEnd title texts text file)
RefusesMend title file (faults.NotTaken place) = ⊥
RefusesMend title file (faults.Older count) = ⊥
RefusesMend title file faults.Memory = Unit {0}
RefusesMend title file faults.DiskFault = ⊥
