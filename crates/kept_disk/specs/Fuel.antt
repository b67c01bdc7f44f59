-- How much a disk still does before its calls fail, where that is told.
use Rattle.std.specs.Prelude.{◌≡◌, ◌⊎◌, ◌-◌, ◌<◌, ◌≤◌, ℕ, Option, None, Some, IfSome, ⊤}
use Rattle.std.specs.Option.{option_map}

-- how many calls still pass, where there is an end to that, how many bytes there is room for, and how many changes
pub record Fuel : Type 0 where
  pub fuse : Option ℕ
  pub room : ℕ
  pub changes : ℕ

-- what is left behind one call that took room for these bytes and changes
abbrev pub spent : Fuel → ℕ → ℕ → Fuel
spent f bytes changes = record { fuse = option_map (λ calls. calls - 1) f.fuse; room = f.room - bytes; changes = f.changes - changes }

-- one more call passes, and there is room for these bytes and changes
abbrev pub Suffices : Fuel → ℕ → ℕ → Type 0
Suffices f bytes changes = IfSome f.fuse (λ calls. 1 ≤ calls) × (bytes ≤ f.room) × (changes ≤ f.changes)

-- no call passes any more, or there is no room for these bytes or changes
abbrev pub Lacks : Fuel → ℕ → ℕ → Type 0
Lacks f bytes changes = (f.fuse ≡ Some 0) ⊎ (f.room < bytes) ⊎ (f.changes < changes)

-- where fuel is told, it sufficed for one call with these bytes and changes, and what is left is told
abbrev pub Spends : Option Fuel → Option Fuel → ℕ → ℕ → Type 0
Spends None new bytes changes = new ≡ None
Spends (Some f) new bytes changes = Suffices f bytes changes × (new ≡ Some (spent f bytes changes))

-- where fuel is told, it was too little for one call with these bytes and changes
abbrev pub Wants : Option Fuel → ℕ → ℕ → Type 0
Wants None bytes changes = ⊤
Wants (Some f) bytes changes = Lacks f bytes changes
