-- Numbers that follow one another, cut into batches.
use Rattle.std.specs.Prelude.{ℕ, ◌+◌, ◌-◌, ◌*◌, ◌/◌, min, List}
use Rattle.std.specs.List.{range_with_len}

-- how many batches there are of so many numbers: 64 are in each but the last
abbrev pub batches_of : ℕ → ℕ
batches_of count = (count + 63) / 64

-- batch k, from 0, of so many numbers from 0 on
abbrev pub batch : ℕ → ℕ → List ℕ
batch count k = range_with_len (64 * k) (min (count - 64 * k) 64)
