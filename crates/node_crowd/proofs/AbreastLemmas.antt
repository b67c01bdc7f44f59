-- One place more of three lists.
use Rattle.std.proofs.Common.{◌≡◌, List, [], ◌∷◌, ◌++◌, refl, sym, ap, ◌∙◌, subst, append_assoc}
use Rattle.std.proofs.lemmas.List.{append-nil}
use Rattle.std.specs.List.{AllZip}
use Rattle.node_crowd.specs.Along.{Abreast}

module _ {A B D : Type 0} (R : A → B → D → Type 0) where
  -- ---- what a loop keeps that takes the first list and fills the two others: whatever the rest comes to

  abbrev pub StillOpens : List A → List A → List B → List D → Type 0
  StillOpens all left bs ds = (ms : List B) (ns : List D) → Abreast R left ms ns → Abreast R all (bs ++ ms) (ds ++ ns)

  pub opens_start : (all : List A) (bs : List B) (ds : List D) → bs ≡ [] → ds ≡ [] → StillOpens all all bs ds
  opens_start all bs ds none none' = λ ms ns rest. subst (λ l. Abreast R all (l ++ ms) (ds ++ ns)) (sym none) (subst (λ l. Abreast R all ms (l ++ ns)) (sym none') rest)

  pub opens_next : (all left left' : List A) (bs bs' : List B) (ds ds' : List D) (a : A) (b : B) (d : D) → left ≡ a ∷ left' → bs' ≡ bs ++ b ∷ [] → ds' ≡ ds ++ d ∷ [] → R a b d
      → StillOpens all left bs ds → StillOpens all left' bs' ds'
  opens_next all left left' bs bs' ds ds' a b d is is' is'' here still = λ ms ns rest.
      let whole : Abreast R left (b ∷ ms) (d ∷ ns) = subst (λ l. Abreast R l (b ∷ ms) (d ∷ ns)) (sym is) (here, rest) in
      subst (λ l. Abreast R all l (ds' ++ ns)) (sym (ap (λ l. l ++ ms) is' ∙ append_assoc bs (b ∷ []) ms))
      (subst (λ l. Abreast R all (bs ++ b ∷ ms) l) (sym (ap (λ l. l ++ ns) is'' ∙ append_assoc ds (d ∷ []) ns)) (still (b ∷ ms) (d ∷ ns) whole))

  pub opens_end : (all left : List A) (bs : List B) (ds : List D) → left ≡ [] → StillOpens all left bs ds → Abreast R all bs ds
  opens_end all left bs ds none still =
      let rest : Abreast R left [] [] = subst (λ l. Abreast R l [] []) (sym none) (refl, refl) in
      subst (λ l. Abreast R all l ds) (append-nil bs) (subst (λ l. Abreast R all (bs ++ []) l) (append-nil ds) (still [] [] rest))

  -- ---- the same of a loop that takes the first two and fills the third

  abbrev pub StillCloses : List A → List B → List A → List B → List D → Type 0
  StillCloses hs bs left left' ds = (ns : List D) → Abreast R left left' ns → Abreast R hs bs (ds ++ ns)

  pub closes_start : (hs left : List A) (bs left' : List B) (ds : List D) → left ≡ hs → left' ≡ bs → ds ≡ [] → StillCloses hs bs left left' ds
  closes_start hs left bs left' ds is is' none = λ ns rest. subst (λ l. Abreast R hs bs (l ++ ns)) (sym none) (subst (λ l. Abreast R l bs ns) is (subst (λ l. Abreast R left l ns) is' rest))

  pub closes_next : (hs left behind : List A) (bs left' behind' : List B) (ds ds' : List D) (a : A) (b : B) (d : D) → left ≡ a ∷ behind → left' ≡ b ∷ behind' → ds' ≡ ds ++ d ∷ [] → R a b d
      → StillCloses hs bs left left' ds → StillCloses hs bs behind behind' ds'
  closes_next hs left behind bs left' behind' ds ds' a b d is is' is'' here still = λ ns rest.
      let whole : Abreast R left left' (d ∷ ns) = subst (λ l. Abreast R l left' (d ∷ ns)) (sym is) (subst (λ l. Abreast R (a ∷ behind) l (d ∷ ns)) (sym is') (here, rest)) in
      subst (λ l. Abreast R hs bs l) (sym (ap (λ l. l ++ ns) is'' ∙ append_assoc ds (d ∷ []) ns)) (still (d ∷ ns) whole)

  pub closes_end : (hs left : List A) (bs left' : List B) (ds : List D) (P : A → B → Type 0) → left' ≡ [] → AllZip P left left' → StillCloses hs bs left left' ds → Abreast R hs bs ds
  closes_end hs left bs left' ds P none own still =
      let empty : left ≡ [] = nothing left (subst (λ l. AllZip P left l) none own) in
      let rest : Abreast R left left' [] = subst (λ l. Abreast R l left' []) (sym empty) (none, refl) in
      subst (λ l. Abreast R hs bs l) (append-nil ds) (still [] rest)
    where
      nothing : (left : List A) → AllZip P left [] → left ≡ []
      nothing [] all = refl
      nothing (a ∷ left) all = absurd all

-- the first of each of two lists
pub zip_heads : {A B : Type 0} (P : A → B → Type 0) (left behind : List A) (left' behind' : List B) (a : A) (b : B) → left ≡ a ∷ behind → left' ≡ b ∷ behind' → AllZip P left left'
    → P a b × AllZip P behind behind'
zip_heads P left behind left' behind' a b is is' all = subst (λ l. AllZip P (a ∷ behind) l) is' (subst (λ l. AllZip P l left') is all)

-- where the second has a first, the first has one too
pub zip_some : {A B : Type 0} (P : A → B → Type 0) (left : List A) (left' behind' : List B) (b : B) → left' ≡ b ∷ behind' → AllZip P left left' → left ≡ [] → ⊥
zip_some P left left' behind' b is all none =
    let gone : AllZip P [] (b ∷ behind') = subst (λ l. AllZip P [] l) is (subst (λ l. AllZip P l left') none all) in
    gone
