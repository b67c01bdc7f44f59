-- Bytes that a script composes of pieces. They are kept piece by piece, as long as they are no more than a message may have.
use Rattle.std.specs.Prelude.{ℕ, ◌+◌, ◌-◌, ◌==◌, nat_le, ◌&&◌, if◌then◌else◌, List, [], ◌∷◌, ◌++◌, drop, length, take, Option, Some, None, option_and_then, Result, Ok}
use Rattle.std.specs.Option.{ok_or}
use Rattle.ar_base.specs.Chaining.{◌>>=◌, need}
use Rattle.ar_lines.specs.Forms.{bytes_of_hex}
use Rattle.ar_message.specs.Messages.{longest}
use Rattle.script_text.specs.Forms.{slice_of}
use Rattle.ar_nodes.specs.Finding.{named}
use Rattle.ar_nodes.specs.Pool.{Pooled, numbered}
use Rattle.ar_nodes.specs.declared.fault.WorldFault.{WorldFault}
use Rattle.ar_nodes.specs.declared.fault.WorldFault.TheVariants.{Limit}

-- ---- pieces

-- the bytes from one place up to, but not with, another, where they are there
abbrev pub cut_from : List ℕ → ℕ → ℕ → Option (List ℕ)
cut_from bytes from to = if nat_le from to && nat_le to (length bytes) then Some (take (to - from) (drop from bytes)) else None

-- the bytes of a message between two places
abbrev pub cut_of : List Pooled → ℕ → ℕ → ℕ → Option (List ℕ)
cut_of pool message from to = option_and_then (λ p. cut_from p.bytes from to) (numbered pool message)

-- the bytes of the slice that a word says
abbrev pub slice_in : List Pooled → List ℕ → Option (List ℕ)
slice_in pool word = option_and_then (λ n. cut_of pool n.0 n.1 n.2) (slice_of word)

-- the bytes of a piece: behind `x` stands their hex, and behind `m` the number of a message with two places in it
abbrev pub piece_of : List Pooled → List ℕ → Option (List ℕ)
piece_of pool [] = None
piece_of pool (mark ∷ word) = if mark == 120 then bytes_of_hex word else slice_in pool word

-- the bytes of pieces, the first of which is the word with this number, one behind the other
abbrev pub composed_from : List Pooled → ℕ → List (List ℕ) → Result (List ℕ) WorldFault
composed_from pool word [] = Ok []
composed_from pool word (piece ∷ more) = do
  bytes ← named word (piece_of pool piece)
  rest ← composed_from pool (word + 1) more
  Ok (bytes ++ rest)

-- the composed bytes: each piece is there, and they are no more than a message may have
abbrev pub composed : List Pooled → List (List ℕ) → Result (List ℕ) WorldFault
composed pool pieces = do
  bytes ← composed_from pool 2 pieces
  fits ← need (nat_le (length bytes) longest) Limit
  Ok bytes

-- ---- piece by piece

-- bytes with more behind them, or none where they are too many
abbrev pub grown : Option (List ℕ) → List ℕ → Option (List ℕ)
grown None more = None
grown (Some bytes) more = if nat_le (length bytes + length more) longest then Some (bytes ++ more) else None

-- the same with what a word names, where it names something
abbrev pub grown_by : Option (List ℕ) → ℕ → Option (List ℕ) → Result (Option (List ℕ)) WorldFault
grown_by bytes word found = do
  more ← named word found
  Ok (grown bytes more)

-- what is composed in all, of the bytes so far and what the rest comes to
abbrev pub all_of : Option (List ℕ) → Result (List ℕ) WorldFault → Result (List ℕ) WorldFault
all_of bytes made = do
  rest ← made
  ok_or (grown bytes rest) Limit
