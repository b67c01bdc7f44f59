-- Why a party is not opened, by its journal.
use Rattle.std.specs.Prelude.{ℕ, List}
use Rattle.kept_journal.specs.Journal.{IsNoJournal}
use Rattle.kept_journal.specs.Replays.{IsBad}
use Rattle.kept_journal.specs.declared.fault.OpenFault.{OpenFault}
use Rattle.kept_journal.specs.declared.fault.OpenFault.TheVariants as faults
use Rattle.kept_party.specs.Taking.{Becomes}
use Rattle.arpki_party.specs.declared.not_opened.NotOpened.{NotOpened}
use Rattle.arpki_party.specs.declared.not_opened.NotOpened.TheVariants as why

-- a journal of another mark is told as another party's
abbrev pub refusal_of : OpenFault → NotOpened
refusal_of faults.Memory = why.Memory
refusal_of faults.NotJournal = why.Others
refusal_of fault = why.Text fault

-- the file of the journal is not opened, or memory is wanting
abbrev pub IsOfFile : NotOpened → Type 0
IsOfFile why.Memory = Unit {0}
IsOfFile (why.Journal fault) = Unit {0}
IsOfFile _ = ⊥

-- It is refused by its journal: memory is wanting, or a call of the disk failed; or the file does not begin with the mark, or has a
-- record that is broken, or that this party, which had done nothing, cannot take there.
abbrev pub IsRefused : {P R : Type 0} → (P → List ℕ → R → P → Type 0) → List ℕ → List ℕ → P → NotOpened → Type 0
IsRefused takes mark file new why.Memory = Unit {0}
IsRefused takes mark file new why.Others = IsNoJournal mark file
IsRefused takes mark file new (why.Text faults.DiskFault) = Unit {0}
IsRefused takes mark file new (why.Text (faults.BadRecord place)) = IsBad (Becomes takes) mark new file place
IsRefused takes mark file new _ = ⊥
