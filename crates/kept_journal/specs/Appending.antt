-- What an append takes of a disk.
use Rattle.std.specs.Prelude.{◌≡◌, ◌⊎◌, ℕ, ◌+◌, ◌-◌, ◌<◌, ◌≤◌, List, ◌∷◌, [], ◌++◌, length, take, drop, Option, None, Some, IfSome}
use Rattle.std.specs.Option.{option_map}
use Rattle.kept_disk.specs.Fuel.{Fuel}
use Rattle.kept_journal.specs.Journal.{record_text}

-- the bytes that are put behind the closed gate: the record, and the gate of the next one, which is closed
abbrev pub staged_text : List ℕ → List ℕ
staged_text text = record_text text ++ 0 ∷ []

-- the text whose record, with a closed gate behind it, these bytes are
abbrev pub text_of_staged : List ℕ → List ℕ
text_of_staged bytes = take (length bytes - 5) (drop 4 bytes)

-- where fuel is told, it sufficed for so many calls, bytes and changes, and what is left is told
abbrev pub SpendsAll : Option Fuel → Option Fuel → ℕ → ℕ → ℕ → Type 0
SpendsAll None new calls bytes changes = new ≡ None
SpendsAll (Some f) new calls bytes changes =
    IfSome f.fuse (λ k. calls ≤ k) × (bytes ≤ f.room) × (changes ≤ f.changes)
    × (new ≡ Some (record { fuse = option_map (λ k. k - calls) f.fuse; room = f.room - bytes; changes = f.changes - changes }))

-- where fuel is told, it was too little for so many calls, bytes and changes
abbrev pub WantsAll : Option Fuel → ℕ → ℕ → ℕ → Type 0
WantsAll None calls bytes changes = Unit {0}
WantsAll (Some f) calls bytes changes = ((k : ℕ) × (f.fuse ≡ Some k) × (k < calls)) ⊎ (f.room < bytes) ⊎ (f.changes < changes)
