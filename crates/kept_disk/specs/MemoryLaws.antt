-- What a disk in memory owes to each disk, as facts on its events.
use Rattle.std.specs.Prelude.{ℕ, List, [], ◌∷◌, length}
use mathlib.Core.Logic.{inl, inr}
use Rattle.std.proofs.Common.{refl, arith}
use Rattle.kept_disk.specs.Disk.{Torn, Cut}
use Rattle.kept_disk.specs.Memory.{Event, MayLeave, LeftSince, synced, undone}
use Rattle.kept_disk.specs.declared.past.DiskChange.TheVariants as changes

-- the file as it is may be left
pub left-now : (file : List ℕ) (es : List Event) → MayLeave file es file
left-now file [] = refl
left-now file ((changes.Synced, bytes) ∷ es) = refl
left-now file ((changes.Wrote at count over, bytes) ∷ es) = inl refl
left-now file ((changes.Cut taken, bytes) ∷ es) = inl refl

-- since a moment now or later there is only now
pub only-now : (file : List ℕ) (es : List Event) (c : List ℕ) → LeftSince file es (length es) c → MayLeave file es c
only-now file [] c left = left
only-now file (e ∷ es) c (inl left) = left
only-now file (e ∷ es) c (inr before) = absurd (omega (arith, before.0))

-- now is one of the moments since an earlier one
pub counts-now : (file : List ℕ) (es : List Event) (t : ℕ) (c : List ℕ) → MayLeave file es c → LeftSince file es t c
counts-now file [] t c left = left
counts-now file (e ∷ es) t c left = inl left

-- what a write leaves that a crash does not cut short
pub torn-none : (at n : ℕ) (file : List ℕ) → Torn at n file file
torn-none at n file = record { before = refl; after = refl; no_shorter = omega arith; no_longer = omega arith }

pub cut-none : (n : ℕ) (file : List ℕ) → Cut n file file
cut-none n file = record { front = refl; no_shorter = omega arith; no_longer = omega arith }

-- what the last sync kept may be left
pub left-synced : (file : List ℕ) (es : List Event) → MayLeave file es (synced file es)
left-synced file [] = refl
left-synced file ((changes.Synced, bytes) ∷ es) = refl
left-synced file ((changes.Wrote at count over, bytes) ∷ es) =
    let old = undone file (changes.Wrote at count over, bytes) in inr (synced old es, left-synced old es, torn-none at count (synced old es))
left-synced file ((changes.Cut taken, bytes) ∷ es) =
    let old = undone file (changes.Cut taken, bytes) in inr (synced old es, left-synced old es, cut-none (length file) (synced old es))
