-- What a call that may fail leaves of a tree.
use Rattle.std.proofs.Common.{◌≡◌, ℕ, sym, ◌∙◌, subst, Result, Ok, Err}
use Rattle.std.specs.Prelude.{OnOk, OnErr}
use Rattle.hash_tree.specs.Entries.{Entries}
use Rattle.hash_tree.specs.Kept.{map_of, Keeps, IsKept}
use Rattle.hash_tree.specs.declared.node.Node.{Node}
use Rattle.hash_tree.proofs.Kept.{keeps-kept, keeps-map}

pub kept-after : {T E : Type 0} (r : Result T E) (depth : ℕ) (new old : Node) (m : Entries) → OnOk r (Keeps depth new m) → OnErr r (new ≡ old) → IsKept depth old → IsKept depth new
kept-after (Ok x) depth new old m kept same before = keeps-kept new depth m kept
kept-after (Err e) depth new old m kept same before = subst (IsKept depth) (sym same) before

pub map-after : {T E : Type 0} (r : Result T E) (depth : ℕ) (new : Node) (m n : Entries) → m ≡ n → OnOk r (Keeps depth new m) → OnOk r (map_of new ≡ n)
map-after (Ok x) depth new m n is kept = keeps-map new depth m kept ∙ is
map-after (Err e) depth new m n is kept = kept
