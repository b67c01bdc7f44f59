-- The shares that seats have in what many threads use. All shares together are the whole, so a seat
-- that has the whole is the only one.
use Rattle.std.specs.Prelude.{ℕ, ◌-◌, ◌/◌, ◌^◌}

-- all shares together
abbrev pub whole : ℕ
whole = 2 ^ 32

-- what is given away of a share that is split: the lesser half
abbrev pub given_of : ℕ → ℕ
given_of share = share / 2

-- what is left of a share that is split: the greater half
abbrev pub left_of : ℕ → ℕ
left_of share = share - share / 2
