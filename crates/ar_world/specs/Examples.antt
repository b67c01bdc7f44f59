-- Small scripts, each with all that is written of it.
use Rattle.std.specs.Prelude.{ℕ, List, [], ◌∷◌, codes}

-- a script, and the lines that are written of it
pub record Example : Type 0 where
  pub script : List ℕ
  pub written : List (List ℕ)

-- an order before the authorities are there: lines that are skipped count
abbrev pub too_early : Example
too_early = record { script = codes "# a world\n\npropose L0\n"; written = codes "line 3: order\n" ∷ [] }

-- the types of keys are told once
abbrev pub told_twice : Example
told_twice = record { script = codes "keys 5 4\nkeys 5 3\n"; written = codes "line 2: order\n" ∷ [] }

-- authorities come behind logs
abbrev pub no_logs : Example
no_logs = record { script = codes "authorities 4"; written = codes "line 1: order\n" ∷ [] }

-- a line that cannot be read is refused for that
abbrev pub unread : Example
unread = record { script = codes "keys 5 4\nlogs 5\n"; written = codes "line 2: words\n" ∷ [] }
