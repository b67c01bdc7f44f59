-- What a party becomes by the texts of its journal, and what it replied to the last of them.
use Rattle.std.specs.Prelude.{◌≡◌, ℕ, List, [], ◌∷◌, ◌++◌, Option, None, Some}
use Rattle.kept_journal.specs.Replays.{ReachesBy}

module _ {P R : Type 0} (takes : P → List ℕ → R → P → Type 0) where
  -- it becomes this by a text, whatever it replies
  abbrev pub Becomes : P → List ℕ → P → Type 0
  Becomes party text later = (reply : R) × takes party text reply later

  -- The last of these texts is this reply's: those before it led where it was taken.
  pub record EndsWith (first : P) (texts : List (List ℕ)) (reply : R) (last : P) : Type 0 where
    pub front : List (List ℕ)
    pub text : List ℕ
    pub before : P
    pub are : texts ≡ front ++ text ∷ []
    pub replays : ReachesBy Becomes first front before
    pub taken : takes before text reply last

  -- what was replied to the last of these texts; nothing where there are none
  abbrev pub RepliesLast : P → List (List ℕ) → Option R → P → Type 0
  RepliesLast first texts None last = texts ≡ []
  RepliesLast first texts (Some reply) last = EndsWith first texts reply last
