-- What a party becomes by texts, one behind the other.
use Rattle.std.specs.Prelude.{◌≡◌, ℕ, Bool, true, false, List, [], ◌∷◌}

-- whether another text comes, behind these or among them
abbrev pub has_more : List (List ℕ) → Bool → Bool
has_more [] more = more
has_more (text ∷ texts) more = true

-- `takes` tells what a party becomes by a text, behind which another comes or none
module _ {P : Type 0} (takes : P → List ℕ → Bool → P → Type 0) where
  -- it becomes this by these texts, behind which another comes or none
  abbrev pub ReachesBefore : Bool → P → List (List ℕ) → P → Type 0
  ReachesBefore more first [] last = last ≡ first
  ReachesBefore more first (text ∷ texts) last = (mid : P) × takes first text (has_more texts more) mid × ReachesBefore more mid texts last

  -- it becomes this by these texts, which are all
  abbrev pub ReachesBy : P → List (List ℕ) → P → Type 0
  ReachesBy first texts last = ReachesBefore false first texts last
