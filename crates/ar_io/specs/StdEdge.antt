-- What a contract sees of a source and a sink over std's readers and writers.
use Rattle.std.specs.Prelude.{ℕ, List, ⊤}
use Rattle.ar_io.specs.declared.std_sink.StdSink.{StdSink}
use Rattle.ar_io.specs.declared.std_source.StdSource.{StdSource}

-- the reader that a source stands over
abbrev pub reader_of : {R : Type 0} → StdSource R → R
reader_of s = s.reader

-- how many reads failed
abbrev pub read_faults : {R : Type 0} → StdSource R → ℕ
read_faults s = s.faults

-- the writer that a sink stands over
abbrev pub writer_of : {W : Type 0} → StdSink W → W
writer_of s = s.writer

-- how many writes failed
abbrev pub write_faults : {W : Type 0} → StdSink W → ℕ
write_faults s = s.faults

-- what was written is not told: it may be any bytes
abbrev pub UntoldSink : {W : Type 0} → StdSink W → List ℕ → Type 0
UntoldSink s bytes = ⊤
