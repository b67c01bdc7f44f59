-- A path from the top down: what it leads up to, and the strings on the way.
use Rattle.std.proofs.Common.{◌≡◌, ℕ, suc, ◌+◌, List, [], ◌∷◌, ◌++◌, length, length-append, add-zero, zero-add, refl, sym, ap, ◌∙◌, ◌⊎◌, inl, inr, ⊎_elim, arith}
use Rattle.sha2.specs.Sha256.{sha256}
use Rattle.ar_base.specs.Apart.{IsIn}
use Rattle.tree_proof.specs.Fold.{joined, path_value, strings_above}

-- the digests in turn, the last first
abbrev pub turned : List (List ℕ) → List (List ℕ)
turned [] = []
turned (s ∷ ss) = turned ss ++ s ∷ []

pub length-turned : (ss : List (List ℕ)) → length (turned ss) ≡ length ss
length-turned [] = refl
length-turned (s ∷ ss) = omega (arith, length-append (turned ss) (s ∷ []), length-turned ss)

pub turned-push : (ss : List (List ℕ)) (s : List ℕ) → turned (ss ++ s ∷ []) ≡ s ∷ turned ss
turned-push [] s = refl
turned-push (r ∷ ss) s = ap (λ rest. rest ++ r ∷ []) (turned-push ss s)

-- the value at a depth, from the steps at that depth and below it
abbrev pub value_down : ℕ → List ℕ → List ℕ → List (List ℕ) → List ℕ
value_down depth key value [] = value
value_down depth key value (s ∷ ss) = sha256 (joined key depth (value_down (suc depth) key value ss) s)

-- the strings that are hashed for it
abbrev pub strings_down : ℕ → List ℕ → List ℕ → List (List ℕ) → List (List ℕ)
strings_down depth key value [] = []
strings_down depth key value (s ∷ ss) = joined key depth (value_down (suc depth) key value ss) s ∷ strings_down (suc depth) key value ss

down-push : (depth : ℕ) (key value : List ℕ) (ss : List (List ℕ)) (s : List ℕ)
    → value_down depth key value (ss ++ s ∷ []) ≡ value_down depth key (sha256 (joined key (depth + length ss) value s)) ss
down-push depth key value [] s = rw (add-zero depth)
down-push depth key value (r ∷ ss) s =
    let at : suc depth + length ss ≡ depth + suc (length ss) = omega arith in
    ap (λ v. sha256 (joined key depth v r)) (down-push (suc depth) key value ss s ∙ ap (λ n. value_down (suc depth) key (sha256 (joined key n value s)) ss) at)

-- the fold upwards is the same
pub path_value-down : (key value : List ℕ) (steps : List (List ℕ)) → path_value key value steps ≡ value_down 0 key value (turned steps)
path_value-down key value [] = refl
path_value-down key value (s ∷ ss) =
    path_value-down key (sha256 (joined key (length ss) value s)) ss
    ∙ ap (λ n. value_down 0 key (sha256 (joined key n value s)) (turned ss)) (sym (zero-add (length (turned ss)) ∙ length-turned ss))
    ∙ sym (down-push 0 key value (turned ss) s)

strings-push : (depth : ℕ) (key value : List ℕ) (ss : List (List ℕ)) (s x : List ℕ) → IsIn (strings_down depth key value (ss ++ s ∷ [])) x
    → (x ≡ joined key (depth + length ss) value s) ⊎ IsIn (strings_down depth key (sha256 (joined key (depth + length ss) value s)) ss) x
strings-push depth key value [] s x (inl e) = inl (e ∙ rw (add-zero depth))
strings-push depth key value [] s x (inr i) = absurd i
strings-push depth key value (r ∷ ss) s x (inl e) =
    let at : suc depth + length ss ≡ depth + suc (length ss) = omega arith in
    let moved = down-push (suc depth) key value ss s ∙ ap (λ n. value_down (suc depth) key (sha256 (joined key n value s)) ss) at in
    inr (inl (e ∙ ap (λ v. joined key depth v r) moved))
strings-push depth key value (r ∷ ss) s x (inr i) =
    let at : suc depth + length ss ≡ depth + suc (length ss) = omega arith in
    ⊎_elim
    (λ (e : x ≡ joined key (suc depth + length ss) value s). inl (e ∙ ap (λ n. joined key n value s) at))
    (λ (j : IsIn (strings_down (suc depth) key (sha256 (joined key (suc depth + length ss) value s)) ss) x). inr (inr (rw at at j)))
    (strings-push (suc depth) key value ss s x i)

-- and so are its strings
pub strings_down-above : (key value : List ℕ) (steps : List (List ℕ)) (x : List ℕ) → IsIn (strings_down 0 key value (turned steps)) x → IsIn (strings_above key value steps) x
strings_down-above key value [] x i = i
strings_down-above key value (s ∷ ss) x i =
    let at : 0 + length (turned ss) ≡ length ss = zero-add (length (turned ss)) ∙ length-turned ss in
    ⊎_elim
    (λ (e : x ≡ joined key (0 + length (turned ss)) value s). inl (e ∙ ap (λ n. joined key n value s) at))
    (λ (j : IsIn (strings_down 0 key (sha256 (joined key (0 + length (turned ss)) value s)) (turned ss)) x).
    inr (strings_down-above key (sha256 (joined key (length ss) value s)) ss x (rw at at j)))
    (strings-push 0 key value (turned ss) s x i)
