-- The path of a key, by how many entries there are.
use Rattle.std.proofs.Common.{◌≡◌, ℕ, suc, ◌+◌, ◌-◌, ◌<◌, ◌≤◌, List, [], ◌∷◌, ◌++◌, length, get_or, sym, ap, ◌∙◌, append_assoc, arith}
use Rattle.std.specs.FinMap.{entries}
use Rattle.hash_tree.specs.Entries.{Entry, entries_of, HasAscendingKeys, bit, of_side}
use Rattle.hash_tree.specs.Root.{subtree_digest}
use Rattle.hash_tree.specs.Path.{bottom_below, steps_below}
use Rattle.hash_tree.proofs.Maps.{entries-entries_of, half-entries_of}
use Rattle.hash_tree.proofs.Paths.{bottom-more, bottom-none, bottom-one, steps-few, steps-more}
use Rattle.hash_tree.specs.declared.bottom.Bottom.TheVariants.{Empty, Other}

-- at a depth, of ascending entries
pub steps-parted : (es : List Entry) (key : List ℕ) (depth : ℕ) → HasAscendingKeys es → 2 ≤ length es → depth < 256
    → steps_below (256 - depth) key (entries_of es)
    ≡ steps_below (256 - (depth + 1)) key (entries_of (of_side depth (bit key depth) es)) ++ subtree_digest (depth + 1) (entries_of (of_side depth (1 - bit key depth) es)) ∷ []
steps-parted es key depth ascending several below =
    let left : 256 - depth ≡ suc (256 - (depth + 1)) = omega arith in
    let at : 255 - (256 - (depth + 1)) ≡ depth = omega arith in
    let many : 2 ≤ length (entries (entries_of es)) = rw (entries-entries_of es ascending) several in
    let whole = rw (at, half-entries_of depth (bit key depth) es, half-entries_of depth (1 - bit key depth) es) at (steps-more (256 - (depth + 1)) key (entries_of es) many) in
    ap (λ n. steps_below n key (entries_of es)) left ∙ whole

pub bottom-parted : (es : List Entry) (key : List ℕ) (depth : ℕ) → HasAscendingKeys es → 2 ≤ length es → depth < 256
    → bottom_below (256 - depth) key (entries_of es) ≡ bottom_below (256 - (depth + 1)) key (entries_of (of_side depth (bit key depth) es))
bottom-parted es key depth ascending several below =
    let left : 256 - depth ≡ suc (256 - (depth + 1)) = omega arith in
    let at : 255 - (256 - (depth + 1)) ≡ depth = omega arith in
    let many : 2 ≤ length (entries (entries_of es)) = rw (entries-entries_of es ascending) several in
    let whole = rw (at, half-entries_of depth (bit key depth) es) at (bottom-more (256 - (depth + 1)) key (entries_of es) many) in
    ap (λ n. bottom_below n key (entries_of es)) left ∙ whole

-- and where a list has fewer
pub steps-list_few : (es : List Entry) (key : List ℕ) (left : ℕ) → HasAscendingKeys es → length es < 2 → steps_below left key (entries_of es) ≡ []
steps-list_few es key left ascending few = steps-few left key (entries_of es) (rw (entries-entries_of es ascending) few)

pub bottom-list_none : (es : List Entry) (key : List ℕ) (left : ℕ) → HasAscendingKeys es → length es < 1 → bottom_below left key (entries_of es) ≡ Empty
bottom-list_none es key left ascending none = bottom-none left key (entries_of es) (rw (entries-entries_of es ascending) none)

pub bottom-list_one : (es : List Entry) (key : List ℕ) (left : ℕ) (d : Entry) → HasAscendingKeys es → 1 ≤ length es → length es < 2
    → bottom_below left key (entries_of es) ≡ Other (get_or es 0 d).0 (get_or es 0 d).1
bottom-list_one es key left d ascending some one =
    let same = entries-entries_of es ascending in
    bottom-one left key (entries_of es) d (rw same some) (rw same one) ∙ rw same

-- what the walk of the same half and the digest of the other make
pub steps-walked : (es : List Entry) (key : List ℕ) (depth : ℕ) (same other : List Entry) (old mid new : List (List ℕ)) (digest : List ℕ)
    → HasAscendingKeys es → 2 ≤ length es → depth < 256 → same ≡ of_side depth (bit key depth) es → other ≡ of_side depth (1 - bit key depth) es
    → mid ≡ old ++ steps_below (256 - (depth + 1)) key (entries_of same) → digest ≡ subtree_digest (depth + 1) (entries_of other) → new ≡ mid ++ digest ∷ []
    → new ≡ old ++ steps_below (256 - depth) key (entries_of es)
steps-walked es key depth same other old mid new digest ascending several below is_same is_other hm hd hn =
    let first = rw is_same at hm in
    let second = rw is_other at hd in
    hn ∙ rw (first, second) (append_assoc old _ _ ∙ ap (λ s. old ++ s) (sym (steps-parted es key depth ascending several below)))
