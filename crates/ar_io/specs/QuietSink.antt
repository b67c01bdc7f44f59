-- What a sink that keeps a length and a digest took.
use Rattle.std.specs.Prelude.{◌≡◌, ◌-◌, ◌^◌, ℕ, List, length, min}
use Rattle.sha2.specs.Hashers.{Holds256}
use Rattle.ar_io.specs.declared.quiet_sink.QuietSink.{QuietSink}

-- the length of these bytes, which is shown as the greatest number of 64 bits where it is greater
abbrev pub shown_len : List ℕ → ℕ
shown_len bytes = min (length bytes) (2 ^ 64 - 1)

-- these may be the bytes that the sink took: their digest and their length are the sink's
abbrev pub Took : QuietSink → List ℕ → Type 0
Took s bytes = Holds256 s.hasher bytes × (s.len ≡ shown_len bytes)
