-- The strings of a set of entries, by how many there are.
use Rattle.std.proofs.Common.{◌≡◌, ℕ, zero, suc, ◌+◌, ◌-◌, ◌<◌, ◌≤◌, List, [], ◌∷◌, ◌++◌, length, get_or, refl, sym, ap, ◌∙◌, subst, arith, append_assoc}
use Rattle.std.specs.Prelude.{OnOk, Result, Ok, Err}
use Rattle.std.specs.FinMap.{entries}
use Rattle.hash_tree.specs.Strings.{empty_string, entry_string, node_string}
use Rattle.hash_tree.specs.Entries.{Entry, Entries, AgreeAmong, HasAscendingKeys, entries_of, half, of_side}
use Rattle.hash_tree.specs.Root.{subtree_digest, strings_below, strings_of}
use Rattle.hash_tree.proofs.Few.{entries_of-entries}
use Rattle.hash_tree.proofs.ByCount.{agree-of_side, string-more, string-none, string-one, strings-more}
use Rattle.hash_tree.proofs.Maps.{ascending-of_side, entries-entries_of, half-entries_of}

-- what follows from an answer that is there
pub on-ok : {T E : Type 0} (r : Result T E) (P Q : Type 0) → (P → Q) → OnOk r P → OnOk r Q
on-ok (Ok x) P Q f p = f p
on-ok (Err e) P Q f p = p

-- what a half keeps
pub ascending-left : (es part : List Entry) (depth side : ℕ) → part ≡ of_side depth side es → HasAscendingKeys es → HasAscendingKeys part
ascending-left es part depth side is ascending = subst HasAscendingKeys (sym is) (ascending-of_side depth side es ascending)

pub agree-left : (es part : List Entry) (depth side : ℕ) → part ≡ of_side depth side es → AgreeAmong depth (entries_of es) → AgreeAmong (depth + 1) (entries_of part)
agree-left es part depth side is agree = subst (λ (rest : List Entry). AgreeAmong (depth + 1) (entries_of rest)) (sym is) (agree-of_side es depth side agree)

strings-none : (left : ℕ) (m : Entries) → entries m ≡ [] → strings_below left m ≡ empty_string ∷ []
unfolding strings_below
strings-none zero m none = ap (λ s. s ∷ []) (string-none zero m none)
strings-none (suc left) m none = rw (string-none (suc left) m none, none)

strings-one : (left : ℕ) (m : Entries) (e : Entry) → entries m ≡ e ∷ [] → strings_below left m ≡ entry_string e.0 e.1 ∷ []
unfolding strings_below
strings-one zero m e one = ap (λ s. s ∷ []) (string-one zero m e one)
strings-one (suc left) m e one = rw (string-one (suc left) m e one, one)

pub put-none : (old new : List (List ℕ)) (es : List Entry) (depth : ℕ) → length es < 1 → new ≡ old ++ empty_string ∷ [] → new ≡ old ++ strings_below (256 - depth) (entries_of es)
put-none old new [] depth none is = is ∙ ap (λ s. old ++ s) (sym (strings-none (256 - depth) (entries_of []) (entries-entries_of [] refl)))
put-none old new (e ∷ es) depth none is = absurd (omega arith)

pub put-one : (old new : List (List ℕ)) (es : List Entry) (depth : ℕ) (d : Entry) → HasAscendingKeys es → 1 ≤ length es → length es < 2
    → new ≡ old ++ entry_string (get_or es 0 d).0 (get_or es 0 d).1 ∷ [] → new ≡ old ++ strings_below (256 - depth) (entries_of es)
put-one old new [] depth d ascending some one is = absurd (omega arith)
put-one old new (e ∷ []) depth d ascending some one is =
    is ∙ ap (λ s. old ++ s) (sym (strings-one (256 - depth) (entries_of (e ∷ [])) e (entries-entries_of (e ∷ []) ascending)))
put-one old new (e ∷ f ∷ es) depth d ascending some one is = absurd (omega arith)

-- of several entries: the string of the node, and those of both halves
pub put-several : (old first second new : List (List ℕ)) (es left right : List Entry) (depth : ℕ) (l r : List ℕ) → HasAscendingKeys es → 2 ≤ length es → depth < 256
    → left ≡ of_side depth 0 es → right ≡ of_side depth 1 es → l ≡ subtree_digest (depth + 1) (entries_of left) → r ≡ subtree_digest (depth + 1) (entries_of right)
    → first ≡ old ++ node_string l r ∷ [] → second ≡ first ++ strings_below (256 - (depth + 1)) (entries_of left)
    → new ≡ second ++ strings_below (256 - (depth + 1)) (entries_of right) → new ≡ old ++ strings_below (256 - depth) (entries_of es)
put-several old first second new es left right depth l r ascending several below is_left is_right hl hr node one other =
    let n : ℕ = 256 - (depth + 1) in
    let so : 256 - depth ≡ suc n = omega arith in
    let many : 2 ≤ length (entries (entries_of es)) = rw (entries-entries_of es ascending) several in
    let at : n + depth ≡ 255 = omega arith in
    let zero_half : half depth 0 (entries_of es) ≡ entries_of left = half-entries_of depth 0 es ∙ ap entries_of (sym is_left) in
    let one_half : half depth 1 (entries_of es) ≡ entries_of right = half-entries_of depth 1 es ∙ ap entries_of (sym is_right) in
    let own = string-more n depth (entries_of es) at many in
    let whole = strings-more n depth (entries_of es) at many in
    let a : List (List ℕ) = strings_below n (entries_of left) in
    let b : List (List ℕ) = strings_below n (entries_of right) in
    let tail : strings_below (256 - depth) (entries_of es) ≡ node_string l r ∷ (a ++ b) =
    ap (λ k. strings_below k (entries_of es)) so ∙ whole ∙ rw (own, zero_half, one_half, hl, hr) in
    let flat : (old ++ node_string l r ∷ []) ++ a ++ b ≡ old ++ node_string l r ∷ (a ++ b) =
    append_assoc (old ++ node_string l r ∷ []) a b ∙ append_assoc old (node_string l r ∷ []) (a ++ b) in
    other ∙ ap (λ s. s ++ b) (one ∙ ap (λ s. s ++ a) node) ∙ flat ∙ ap (λ s. old ++ s) (sym tail)

-- behind the strings of a table's tree stand others
pub tree-and : (none tree new named : List (List ℕ)) (es : List Entry) (m : Entries) → none ≡ [] → es ≡ entries m → tree ≡ none ++ strings_below 256 (entries_of es) → new ≡ tree ++ named
    → new ≡ strings_of m ++ named
tree-and none tree new named es m nothing all first is =
    is ∙ ap (λ strings. strings ++ named) (first ∙ ap (λ strings. strings ++ strings_below 256 (entries_of es)) nothing ∙ ap (strings_below 256) (ap entries_of all ∙ entries_of-entries m))

-- three strings that were put behind the others, one after another
pub three : (old one two new : List (List ℕ)) (a b c : List ℕ) → one ≡ old ++ a ∷ [] → two ≡ one ++ b ∷ [] → new ≡ two ++ c ∷ [] → new ≡ old ++ a ∷ (b ∷ (c ∷ []))
three old one two new a b c first second third =
    third ∙ ap (λ s. s ++ c ∷ []) (second ∙ ap (λ s. s ++ b ∷ []) first)
    ∙ append_assoc (old ++ a ∷ []) (b ∷ []) (c ∷ []) ∙ append_assoc old (a ∷ []) (b ∷ (c ∷ []))
