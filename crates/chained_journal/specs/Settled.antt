-- What is kept of a journal between two calls.
use Rattle.std.specs.Prelude.{◌≡◌, ◌^◌, ◌<◌, ◌+◌, ℕ, List, length, Bool}
use Rattle.kept_disk.specs.Disk.{Only}
use Rattle.chained_journal.specs.Journal.{AreShort, chained, header_len, journal, recovered, shut_gate, start}
use Rattle.chained_journal.specs.declared.title.Title.{Title}

-- What contracts see of a journal: its disk, its title, the texts that its file stands for, how many it had when it was opened
-- and were put behind since, and whether a disk that failed stopped it.
pub record JournalParts (K : Type 0) : Type 0 where
  pub disk : K
  pub title : Title
  pub texts : List (List ℕ)
  pub count : ℕ
  pub stopped : Bool

-- A file is a journal of its texts, and a shut gate is its end; a crash leaves it so.
pub record IsSettled (title : Title) (end count : ℕ) (chain seen : List ℕ) (may_leave : List ℕ → Type 0) : Type 0 where
  pub titled : length title.header ≡ header_len
  pub is : seen ≡ journal title (recovered seen) shut_gate
  pub short : AreShort (recovered seen)
  pub last : end + 8 ≡ length seen
  pub within : end + 8 < 2 ^ 64
  pub counts : count ≡ length (recovered seen)
  pub chain_is : chain ≡ chained (start title) (recovered seen)
  pub durable : Only seen may_leave
