-- What it is that a count of faults rose. A count is kept in 64 bits and stays at its greatest value,
-- where one more fault cannot show.
use Rattle.std.specs.Prelude.{◌≡◌, ℕ, ◌+◌, ◌-◌, ◌^◌, ◌<◌, ◌⊎◌, min}

-- the greatest count
abbrev pub most_faults : ℕ
most_faults = 2 ^ 64 - 1

-- the count rose from old to new, or stands at the greatest
abbrev pub HasRisen : ℕ → ℕ → Type 0
HasRisen old new = (old < new) ⊎ (new ≡ most_faults)

-- a count after one more
abbrev pub one_more : ℕ → ℕ
one_more count = min (count + 1) most_faults
