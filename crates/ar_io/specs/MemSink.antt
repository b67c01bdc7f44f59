-- What a contract sees of a sink in memory, and what one write does to it.
use Rattle.std.specs.Prelude.{◌≡◌, ◌<◌, ◌-◌, ◌⊎◌, ℕ, List, ◌++◌, length, min}
use Rattle.ar_io.specs.Calls.{CallCount, IsDue, after_call, after_failed_call}

-- the bytes that were written, how many more there is room for, and the calls
pub record SinkState : Type 0 where
  pub written : List ℕ
  pub room : ℕ
  pub calls : CallCount

-- these are the bytes that were written
abbrev pub HasWritten : SinkState → List ℕ → Type 0
HasWritten s bytes = s.written ≡ bytes

-- the next call fails with this piece: it is to fail, or there is no room for any of the piece
abbrev pub Refuses : SinkState → List ℕ → Type 0
Refuses s piece = IsDue s.calls ⊎ ((s.room ≡ 0) × (0 < length piece))

-- how many bytes of this piece a call takes that does not fail
abbrev pub taken_count : SinkState → List ℕ → ℕ
taken_count s piece = min (length piece) s.room

-- the sink after a call that took these bytes
abbrev pub after_write : SinkState → List ℕ → SinkState
after_write s bytes = record s {
  written = s.written ++ bytes;
  room = s.room - length bytes;
  calls = after_call s.calls;
}

-- the sink after a call that failed
abbrev pub after_failed_write : SinkState → SinkState
after_failed_write s = record s { calls = after_failed_call s.calls }
