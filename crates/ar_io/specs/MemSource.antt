-- What a contract sees of a source in memory, and what one read does to it.
use Rattle.std.specs.Prelude.{ℕ, List, length, drop, min}
use Rattle.ar_io.specs.Calls.{CallCount, after_call, after_failed_call}

-- the bytes that are left, the most that one call gives, and the calls
pub record SourceState : Type 0 where
  pub unread : List ℕ
  pub chunk : ℕ
  pub calls : CallCount

-- how many bytes a call gives that does not fail, into a buffer of this length
abbrev pub given_count : SourceState → ℕ → ℕ
given_count s room = min (min s.chunk room) (length s.unread)

-- the source after a call that gave so many bytes
abbrev pub after_read : SourceState → ℕ → SourceState
after_read s count = record s { unread = drop count s.unread; calls = after_call s.calls }

-- the source after a call that failed
abbrev pub after_failed_read : SourceState → SourceState
after_failed_read s = record s { calls = after_failed_call s.calls }
