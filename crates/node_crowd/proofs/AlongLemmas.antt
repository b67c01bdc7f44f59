-- One place more of several lists.
use Rattle.std.proofs.Common.{◌≡◌, ℕ, zero, suc, ◌+◌, ◌<◌, ◌≤◌, List, [], ◌∷◌, ◌++◌, length, take, drop, get_or, set, refl, sym, ap, ◌∙◌, subst, append_assoc, arith}
use Rattle.std.proofs.lemmas.List.{append-nil, drop-set-lt, drop_all, drop_more, length-drop, take_all, take_more_set}
use Rattle.std.specs.List.{AllByRecursion, AllZip}
use Rattle.ar_base.proofs.Lists.{both-lists}
use Rattle.node_crowd.specs.Along.{Along, EachFrom}

-- ---- what is left of two lists

module _ {A B : Type 0} (R : A → B → Type 0) where
  pub zip_long : (hs : List A) (bs : List B) → AllZip R hs bs → length bs ≡ length hs
  zip_long [] [] all = refl
  zip_long [] (b ∷ bs) all = absurd all
  zip_long (a ∷ hs) [] all = absurd all
  zip_long (a ∷ hs) (b ∷ bs) all = let rest = zip_long hs bs all.1 in omega (arith, rest)

  pub zip_last : (hs : List A) (bs : List B) (a : A) (b : B) → AllZip R hs bs → R a b → AllZip R (hs ++ a ∷ []) (bs ++ b ∷ [])
  zip_last [] [] a b all here = (here, tt)
  zip_last [] (y ∷ bs) a b all here = absurd all
  zip_last (x ∷ hs) [] a b all here = absurd all
  zip_last (x ∷ hs) (y ∷ bs) a b all here = (all.0, zip_last hs bs a b all.1 here)

  zip_first : (hs : List A) (bs : List B) (a : A) (hs' : List A) (b : B) (bs' : List B) → hs ≡ a ∷ hs' → bs ≡ b ∷ bs' → AllZip R hs bs → R a b × AllZip R hs' bs'
  zip_first hs bs a hs' b bs' first second all = subst (λ l. AllZip R (a ∷ hs') l) second (subst (λ l. AllZip R l bs) first all)

  -- the first of what is left, and the rest, where a place of the second list is written
  pub zip_next : (hs : List A) (bs bs' : List B) (place : ℕ) (a : A) (b new : B) → place < length hs → place < length bs → bs' ≡ set bs place new
      → AllZip R (drop place hs) (drop place bs) → R (get_or hs place a) (get_or bs place b) × AllZip R (drop (place + 1) hs) (drop (place + 1) bs')
  zip_next hs bs bs' place a b new lt lt' is all =
      let first = zip_first (drop place hs) (drop place bs) (get_or hs place a) (drop (place + 1) hs) (get_or bs place b) (drop (place + 1) bs) (drop_more hs place a lt) (drop_more bs place b lt') all in
      (first.0, subst (λ l. AllZip R (drop (place + 1) hs) l) (sym (ap (drop (place + 1)) is ∙ drop-set-lt (place + 1) bs place new (omega arith))) first.1)

  -- the same where the second list is what an iterator has left
  pub zip_yield : (hs : List A) (left left' : List B) (place : ℕ) (a : A) (b : B) → left ≡ b ∷ left' → AllZip R (drop place hs) left
      → (place < length hs) × R (get_or hs place a) b × AllZip R (drop (place + 1) hs) left'
  zip_yield hs left left' place a b is all =
      let many = zip_long (drop place hs) left all in
      let some_left : 0 < length (drop place hs) = let one = ap length is in omega arith in
      let lt : place < length hs = omega (arith, length-drop place hs, some_left) in
      let first = zip_first (drop place hs) left (get_or hs place a) (drop (place + 1) hs) b left' (drop_more hs place a lt) is all in
      (lt, first.0, first.1)

-- ---- four lists

module _ {A B D : Type 0} (R : A → B → B → D → Type 0) where
  -- what a loop over places keeps that writes the second list and fills the fourth: whatever the rest comes to
  abbrev pub StillDeals : List A → List B → List B → List D → ℕ → Type 0
  StillDeals hs old bs ds place = (news : List B) (more : List D) → Along R (drop place hs) (drop place bs) news more → Along R hs old (take place bs ++ news) (ds ++ more)

  pub deals_next : (hs : List A) (old bs bs' : List B) (ds ds' : List D) (place : ℕ) (a : A) (b new : B) (d : D) → place < length hs → place < length bs
      → bs' ≡ set bs place new → ds' ≡ ds ++ d ∷ [] → R (get_or hs place a) (get_or bs place b) new d
      → StillDeals hs old bs ds place → StillDeals hs old bs' ds' (place + 1)
  deals_next hs old bs bs' ds ds' place a b new d lt lt' is is' here still = λ news more rest.
      let rest' : Along R (drop (place + 1) hs) (drop (place + 1) bs) news more =
      subst (λ l. Along R (drop (place + 1) hs) l news more) (ap (drop (place + 1)) is ∙ drop-set-lt (place + 1) bs place new (omega arith)) rest in
      let whole : Along R (drop place hs) (drop place bs) (new ∷ news) (d ∷ more) =
      subst (λ l. Along R l (drop place bs) (new ∷ news) (d ∷ more)) (sym (drop_more hs place a lt))
      (subst (λ l. Along R (get_or hs place a ∷ drop (place + 1) hs) l (new ∷ news) (d ∷ more)) (sym (drop_more bs place b lt')) (here, rest')) in
      let done : take (place + 1) bs' ++ news ≡ take place bs ++ new ∷ news =
      ap (λ l. l ++ news) (ap (take (place + 1)) is ∙ take_more_set bs place new lt') ∙ append_assoc (take place bs) (new ∷ []) news in
      let dealt : ds' ++ more ≡ ds ++ d ∷ more = ap (λ l. l ++ more) is' ∙ append_assoc ds (d ∷ []) more in
      subst (λ l. Along R hs old (take (place + 1) bs' ++ news) l) (sym dealt)
      (subst (λ l. Along R hs old l (ds ++ d ∷ more)) (sym done) (still (new ∷ news) (d ∷ more) whole))

  pub deals_end : (hs : List A) (old bs : List B) (ds : List D) (place : ℕ) → place ≡ length hs → length bs ≡ length hs → StillDeals hs old bs ds place → Along R hs old bs ds
  deals_end hs old bs ds place end many still =
      let none : drop place hs ≡ [] = drop_all place hs (omega arith) in
      let none' : drop place bs ≡ [] = drop_all place bs (omega arith) in
      let rest : Along R (drop place hs) (drop place bs) [] [] =
      subst (λ l. Along R l (drop place bs) [] []) (sym none) (none', refl, refl) in
      let done : take place bs ++ [] ≡ bs = append-nil (take place bs) ∙ take_all place bs (omega arith) in
      subst (λ l. Along R hs old bs l) (append-nil ds) (subst (λ l. Along R hs old l (ds ++ [])) done (still [] [] rest))

module _ {A B D : Type 0} (R : A → B → D → B → Type 0) where
  -- the same of a loop that writes the second list by what it takes of the third
  abbrev pub StillJoins : List A → List B → List B → List D → List D → ℕ → Type 0
  StillJoins hs old bs all left place = (news : List B) → Along R (drop place hs) (drop place bs) left news → Along R hs old all (take place bs ++ news)

  pub joins_next : (hs : List A) (old bs bs' : List B) (all left left' : List D) (place : ℕ) (a : A) (b new : B) (d : D) → place < length hs → place < length bs
      → bs' ≡ set bs place new → left ≡ d ∷ left' → R (get_or hs place a) (get_or bs place b) d new
      → StillJoins hs old bs all left place → StillJoins hs old bs' all left' (place + 1)
  joins_next hs old bs bs' all left left' place a b new d lt lt' is is' here still = λ news rest.
      let rest' : Along R (drop (place + 1) hs) (drop (place + 1) bs) left' news =
      subst (λ l. Along R (drop (place + 1) hs) l left' news) (ap (drop (place + 1)) is ∙ drop-set-lt (place + 1) bs place new (omega arith)) rest in
      let whole : Along R (drop place hs) (drop place bs) left (new ∷ news) =
      subst (λ l. Along R (drop place hs) (drop place bs) l (new ∷ news)) (sym is')
      (subst (λ l. Along R l (drop place bs) (d ∷ left') (new ∷ news)) (sym (drop_more hs place a lt))
      (subst (λ l. Along R (get_or hs place a ∷ drop (place + 1) hs) l (d ∷ left') (new ∷ news)) (sym (drop_more bs place b lt')) (here, rest'))) in
      let done : take (place + 1) bs' ++ news ≡ take place bs ++ new ∷ news =
      ap (λ l. l ++ news) (ap (take (place + 1)) is ∙ take_more_set bs place new lt') ∙ append_assoc (take place bs) (new ∷ []) news in
      subst (λ l. Along R hs old all l) (sym done) (still (new ∷ news) whole)

  pub joins_end : (hs : List A) (old bs : List B) (all left : List D) (place : ℕ) (S : A → D → Type 0) → left ≡ [] → length bs ≡ length hs → AllZip S (drop place hs) left
      → StillJoins hs old bs all left place → Along R hs old all bs
  joins_end hs old bs all left place S end many own still =
      let long = zip_long S (drop place hs) left own in
      let past : length hs ≤ place = let none = ap length end in omega (arith, length-drop place hs, long, none) in
      let none : drop place hs ≡ [] = drop_all place hs past in
      let none' : drop place bs ≡ [] = drop_all place bs (omega arith) in
      let rest : Along R (drop place hs) (drop place bs) left [] =
      subst (λ l. Along R (drop place hs) (drop place bs) l []) (sym end) (subst (λ l. Along R l (drop place bs) [] []) (sym none) (none', refl, refl)) in
      let done : take place bs ++ [] ≡ bs = append-nil (take place bs) ∙ take_all place bs (omega arith) in
      subst (λ l. Along R hs old all l) done (still [] rest)

-- ---- two lists, by the numbers of their places

module _ {A B : Type 0} (R : ℕ → A → B → Type 0) where
  pub each_at : (from : ℕ) (hs : List A) (bs : List B) (place : ℕ) (a : A) (b : B) → place < length hs → EachFrom R from hs bs
      → R (from + place) (get_or hs place a) (get_or bs place b)
  each_at from [] bs place a b lt each = absurd (omega arith)
  each_at from (x ∷ hs) [] place a b lt each = absurd each
  each_at from (x ∷ hs) (y ∷ bs) zero a b lt each = let same : from ≡ from + 0 = omega arith in subst (λ n. R n x y) same each.0
  each_at from (x ∷ hs) (y ∷ bs) (suc place) a b lt each =
      let same : from + 1 + place ≡ from + suc place = omega arith in
      subst (λ n. R n (get_or hs place a) (get_or bs place b)) same (each_at (from + 1) hs bs place a b (omega arith) each.1)

  pub each_long : (from : ℕ) (hs : List A) (bs : List B) → EachFrom R from hs bs → length bs ≡ length hs
  each_long from [] [] each = refl
  each_long from [] (y ∷ bs) each = absurd each
  each_long from (x ∷ hs) [] each = absurd each
  each_long from (x ∷ hs) (y ∷ bs) each = let rest = each_long (from + 1) hs bs each.1 in omega (arith, rest)

  module _ (Q : ℕ → A → B → Type 0) where
    pub each_then : (from : ℕ) (hs : List A) (bs : List B) → ((place : ℕ) (a : A) (b : B) → from ≤ place → R place a b → Q place a b) → EachFrom R from hs bs → EachFrom Q from hs bs
    each_then from [] [] then each = tt
    each_then from [] (y ∷ bs) then each = each
    each_then from (x ∷ hs) [] then each = each
    each_then from (x ∷ hs) (y ∷ bs) then each = (then from x y (omega arith) each.0, each_then (from + 1) hs bs (λ place a b le. then place a b (omega arith)) each.1)

    -- one place of the second list is written
    pub each_set : (from : ℕ) (hs : List A) (bs : List B) (place : ℕ) (a : A) (b new : B) → place < length hs
        → ((i : ℕ) (x : A) (y : B) → (i ≡ from + place → ⊥) → R i x y → Q i x y)
        → (R (from + place) (get_or hs place a) (get_or bs place b) → Q (from + place) (get_or hs place a) new)
        → EachFrom R from hs bs → EachFrom Q from hs (set bs place new)
    each_set from [] bs place a b new lt others here each = absurd (omega arith)
    each_set from (x ∷ hs) [] place a b new lt others here each = absurd each
    each_set from (x ∷ hs) (y ∷ bs) zero a b new lt others here each =
        let same : from ≡ from + 0 = omega arith in (
          subst (λ n. Q n x new) (sym same) (here (subst (λ n. R n x y) same each.0)),
          each_then (from + 1) hs bs (λ i p q le. others i p q (λ is. omega arith)) each.1,
        )
    each_set from (x ∷ hs) (y ∷ bs) (suc place) a b new lt others here each =
        let same : from + 1 + place ≡ from + suc place = omega arith in (
          others from x y (λ is. omega arith) each.0,
          each_set (from + 1) hs bs place a b new (omega arith) (λ i p q no. others i p q (λ is. no (omega arith)))
              (subst (λ n. R n (get_or hs place a) (get_or bs place b) → Q n (get_or hs place a) new) (sym same) here) each.1,
        )

pub all_at : {A : Type 0} (P : A → Type 0) (hs : List A) (place : ℕ) (a : A) → place < length hs → AllByRecursion P hs → P (get_or hs place a)
all_at P [] place a lt all = absurd (omega arith)
all_at P (x ∷ hs) zero a lt all = all.0
all_at P (x ∷ hs) (suc place) a lt all = all_at P hs place a (omega arith) all.1

-- the last of the first list, and what the second has there
pub zip_unlast : {A B : Type 0} (R : A → B → Type 0) (hs : List A) (a : A) (bs : List B) → AllZip R (hs ++ a ∷ []) bs
    → (front : List B) × (last : B) × (bs ≡ front ++ last ∷ []) × AllZip R hs front × R a last
zip_unlast R [] a [] all = absurd all
zip_unlast R [] a (b ∷ []) all = ([], b, refl, tt, all.0)
zip_unlast R [] a (b ∷ (c ∷ bs)) all = absurd all.1
zip_unlast R (x ∷ hs) a [] all = absurd all
zip_unlast R (x ∷ hs) a (b ∷ bs) all = let rest = zip_unlast R hs a bs all.1 in (b ∷ rest.0, rest.1, ap (λ l. b ∷ l) rest.2, (all.0, rest.3), rest.4)

-- ---- the same where the lists are as long as one another

module _ {A B : Type 0} (R : A → B → Type 0) where
  pub at_place : (hs : List A) (bs : List B) (place : ℕ) (h : A) (b : B) → place < length hs → length bs ≡ length hs → AllZip R (drop place hs) (drop place bs) → R (get_or hs place h) (get_or bs place b)
  at_place hs bs place h b lt long all = (zip_next R hs bs (set bs place b) place h b b lt (omega arith) refl all).0

  pub behind_place : (hs : List A) (bs bs' : List B) (place : ℕ) (h : A) (b new : B) → place < length hs → length bs ≡ length hs → bs' ≡ set bs place new
      → AllZip R (drop place hs) (drop place bs) → AllZip R (drop (place + 1) hs) (drop (place + 1) bs')
  behind_place hs bs bs' place h b new lt long is all = (zip_next R hs bs bs' place h b new lt (omega arith) is all).1

module _ {A B D : Type 0} (R : A → B → B → D → Type 0) where
  pub deals_start : (hs : List A) (old : List B) (ds : List D) → ds ≡ [] → StillDeals R hs old old ds 0
  deals_start hs old ds none news more along = subst (λ l. Along R hs old news (l ++ more)) (sym none) along

-- ---- a vector that was lent as a slice

pub refilled : {A : Type 0} (n : ℕ) (old new : List A) → n ≡ length old → length new ≡ length old → take n (new ++ drop (length new) old) ≡ new
refilled n old new many long =
    ap (λ l. take n (new ++ l)) (drop_all (length new) old (omega (arith, long))) ∙ ap (take n) (append-nil new) ∙ take_all n new (omega (arith, many, long))

-- ---- one item more of a list

pub all_more : {A : Type 0} (P : A → Type 0) (xs ys : List A) (x : A) → ys ≡ xs ++ x ∷ [] → P x → AllByRecursion P xs → AllByRecursion P ys
all_more P xs ys x is here all = subst (λ l. AllByRecursion P l) (sym is) (both-lists P xs (x ∷ []) all (here, tt))

-- ---- what is left of one list

module _ {A : Type 0} (P : A → Type 0) where
  -- the first of what is left
  pub left_here : (bs : List A) (place : ℕ) (b : A) → place < length bs → AllByRecursion P (drop place bs) → P (get_or bs place b)
  left_here bs place b lt all = (subst (λ l. AllByRecursion P l) (drop_more bs place b lt) all).0

  -- what is left behind it, where its place is written
  pub left_behind : (bs bs' : List A) (place : ℕ) (b new : A) → place < length bs → bs' ≡ set bs place new → AllByRecursion P (drop place bs) → AllByRecursion P (drop (place + 1) bs')
  left_behind bs bs' place b new lt is all =
      subst (λ l. AllByRecursion P l) (sym (ap (drop (place + 1)) is ∙ drop-set-lt (place + 1) bs place new (omega arith)))
      (subst (λ l. AllByRecursion P l) (drop_more bs place b lt) all).1
