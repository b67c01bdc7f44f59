-- What is kept of a journal between two calls.
use Rattle.std.specs.Prelude.{◌≡◌, ◌≢◌, ◌^◌, ◌<◌, ◌+◌, ℕ, List, [], length, Bool}
use Rattle.kept_disk.specs.Disk.{Only}
use Rattle.kept_journal.specs.Journal.{AreShort, journal, recovered}

-- What contracts see of a journal: its disk, its mark, the texts that its file stands for, how many it had when it was opened and
-- were put behind since, and whether a disk that failed stopped it.
pub record JournalParts (K : Type 0) : Type 0 where
  pub disk : K
  pub mark : List ℕ
  pub texts : List (List ℕ)
  pub count : ℕ
  pub stopped : Bool

-- A file is a journal of its texts, and the last gate is its last byte; a crash leaves it so.
pub record IsSettled (mark : List ℕ) (end count : ℕ) (seen : List ℕ) (may_leave : List ℕ → Type 0) : Type 0 where
  pub marked : length mark ≡ 8
  pub gate : ℕ
  pub shut : gate ≢ 1
  pub is : seen ≡ journal mark (recovered seen) gate []
  pub short : AreShort (recovered seen)
  pub last : end + 1 ≡ length seen
  pub within : end + 1 < 2 ^ 64
  pub counts : count ≡ length (recovered seen)
  pub durable : Only seen may_leave
