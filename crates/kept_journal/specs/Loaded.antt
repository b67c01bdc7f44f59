-- What it means that a party took the texts of a file.
use Rattle.std.specs.Prelude.{◌≡◌, ℕ, ◌+◌, List, length}
use Rattle.kept_journal.specs.Journal.{AreShort, IsJournal, mark_len, records, recovered}
use Rattle.kept_journal.specs.Replays.{ReachesBy}
use Rattle.kept_journal.specs.declared.standing.Standing.{Standing}

-- The file is a journal of its texts, the party took them, and this is where they end.
pub record IsLoaded {P : Type 0} (takes : P → List ℕ → P → Type 0) (first last : P) (mark file : List ℕ) (standing : Standing) : Type 0 where
  pub mark_is : standing.mark ≡ mark
  pub journal : IsJournal mark (recovered file) file
  pub short : AreShort (recovered file)
  pub end_is : standing.end ≡ mark_len + length (records (recovered file))
  pub count_is : standing.count ≡ length (recovered file)
  pub replays : ReachesBy takes first (recovered file) last
