-- What a client of a map is told of a confirmation, by the directory that is shown beside it.
use Rattle.std.specs.Prelude.{◌≡◌, ◌⊎◌, ℕ, nat_le, if◌then◌else◌, List, [], ◌∷◌, replicate, Result, Ok, Err}
use Rattle.std.specs.Str.{bytes_eq}
use Rattle.ar_base.specs.Chaining.{◌>>=◌}
use Rattle.party_keys.specs.Directory.{Directory}
use Rattle.table_map.specs.Digests.{directory_digest}
use Rattle.table_map.specs.Judging.{judgement_in}
use Rattle.table_map.specs.Maps.{TableMap}
use Rattle.table_map.specs.Shown.{shown_in}
use Rattle.table_map.specs.declared.fault.ShownFault.{ShownFault}
use Rattle.table_map.specs.declared.fault.ShownFault.TheVariants as shown_fault
use Rattle.table_map.specs.declared.judging.MapJudgement.{MapJudgement}
use Rattle.table_map.specs.declared.judging.MapJudgement.TheVariants.{Judged, OtherTable, OtherRoot}
use Rattle.arpki_c.specs.Given.{with_entry}
use Rattle.arpki_c.specs.Told.{asked_by, fault_answer, judgement_answer, no_memory, said}
use Rattle.arpki_c.specs.declared.answers.CallAnswer.{CallAnswer}
use Rattle.arpki_c.specs.declared.keys.KeysFault.{KeysFault}
use Rattle.arpki_c.specs.declared.mapping.CallMap.{CallMap}
use Rattle.arpki_c.specs.declared.mapping.MapEntry.{MapEntry}
use Rattle.arpki_c.specs.declared.questions.CallQuestion.{CallQuestion}

-- ---- keys that were learnt

-- the directory with an entry, where it was learnt under the directory with this digest; else as it is
abbrev pub with_own_entry : List ℕ → Directory → MapEntry → Result Directory KeysFault
with_own_entry digest keys e = if bytes_eq e.directory digest then with_entry keys e.entry else Ok keys

-- behind all entries, in their order
unfoldable pub with_own_entries : List ℕ → Directory → List MapEntry → Result Directory KeysFault
with_own_entries digest keys [] = Ok keys
with_own_entries digest keys (e ∷ entries) = with_own_entry digest keys e >>= λ next. with_own_entries digest next entries

-- ---- the outcomes beside those of a judgement: 15 no directory, 16 other table, 17 other root, 18 no map

abbrev pub map_answer : MapJudgement → CallAnswer
map_answer (Judged judgement) = judgement_answer judgement
map_answer OtherTable = said 16 0
map_answer OtherRoot = said 17 0

abbrev pub shown_fault_answer : ShownFault → CallAnswer
shown_fault_answer shown_fault.NoDirectory = said 15 0
shown_fault_answer shown_fault.Memory = no_memory

-- ---- what is told

-- by the directory, with what it learnt, or what is wrong with an entry
abbrev pub told_by : TableMap → ℕ → List ℕ → Result Directory KeysFault → CallQuestion → CallAnswer
told_by m table path (Err wrong) question = fault_answer wrong
told_by m table path (Ok keys) question = map_answer (judgement_in m table path (asked_by keys question) question.confirmation.now)

-- by what was shown
abbrev pub told_by_shown : CallMap → Result (ℕ × Directory × List ℕ) ShownFault → CallQuestion → CallAnswer
told_by_shown given (Err wrong) question = shown_fault_answer wrong
told_by_shown given (Ok shown) question =
    told_by (record { bits = given.bits; root = given.root }) shown.0 shown.2 (with_own_entries (directory_digest shown.1) shown.1 given.learnt.now) question

-- of a confirmation, to a client of a map of at most 2 ^ 24 tables
unfoldable pub map_told : CallMap → CallQuestion → List ℕ → CallAnswer
map_told given question shown = if nat_le given.bits 24 then told_by_shown given (shown_in shown) question else said 18 0

-- ---- the digest of what is shown

-- the digest, and the outcome; it is zero where none is shown
abbrev pub digest_told : Result (ℕ × Directory × List ℕ) ShownFault → List ℕ × ℕ
digest_told (Ok shown) = (directory_digest shown.1, 0)
digest_told (Err shown_fault.NoDirectory) = (replicate 32 0, 15)
digest_told (Err shown_fault.Memory) = (replicate 32 0, 3)

-- the digest and the outcome are these, or memory ran out
abbrev pub AreUnlessMemory : List ℕ × ℕ → List ℕ × ℕ → Type 0
AreUnlessMemory answer told = (answer ≡ (replicate 32 0, 3)) ⊎ (answer ≡ told)
