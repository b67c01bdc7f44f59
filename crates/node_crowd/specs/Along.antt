-- Facts at each place of several lists.
use Rattle.std.specs.Prelude.{ℕ, ◌≡◌, ◌+◌, List, [], ◌∷◌}

module _ {A B C D : Type 0} (R : A → B → C → D → Type 0) where
  -- four lists are as long as one another, and R holds of what they have at each place
  abbrev pub Along : List A → List B → List C → List D → Type 0
  Along [] bs cs ds = (bs ≡ []) × (cs ≡ []) × (ds ≡ [])
  Along (a ∷ hs) [] cs ds = ⊥
  Along (a ∷ hs) (b ∷ bs) [] ds = ⊥
  Along (a ∷ hs) (b ∷ bs) (c ∷ cs) [] = ⊥
  Along (a ∷ hs) (b ∷ bs) (c ∷ cs) (d ∷ ds) = R a b c d × Along hs bs cs ds

module _ {A B C : Type 0} (R : A → B → C → Type 0) where
  -- three lists are as long as one another, and R holds of what they have at each place
  abbrev pub Abreast : List A → List B → List C → Type 0
  Abreast [] bs cs = (bs ≡ []) × (cs ≡ [])
  Abreast (a ∷ hs) [] cs = ⊥
  Abreast (a ∷ hs) (b ∷ bs) [] = ⊥
  Abreast (a ∷ hs) (b ∷ bs) (c ∷ cs) = R a b c × Abreast hs bs cs

module _ {A B : Type 0} (R : ℕ → A → B → Type 0) where
  -- two lists are as long as one another, and R holds of each place and what they have there, where the first place has this number
  abbrev pub EachFrom : ℕ → List A → List B → Type 0
  EachFrom place [] [] = Unit {0}
  EachFrom place [] (b ∷ bs) = ⊥
  EachFrom place (a ∷ hs) [] = ⊥
  EachFrom place (a ∷ hs) (b ∷ bs) = R place a b × EachFrom (place + 1) hs bs
