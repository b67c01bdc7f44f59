-- Maps from names: what is found in one that was changed at a name, and in a table that has ripened.
use Rattle.std.proofs.Common.{◌≡◌, ℕ, List, [], ◌∷◌, map, refl, sym, ap, ◌∙◌, Bool, true, false, cond, Some, None}
use Rattle.std.specs.Prelude.{not}
use Rattle.std.specs.Option.{option_map}
use Rattle.std.specs.Ordering.{eq_by_cmp}
use Rattle.std.specs.FinMap.{get, find, entries, get-entries, get-from_entries, get-retain_keys}
use Rattle.hash_tree.specs.Entries.{key_cmp}
use Rattle.hash_tree.proofs.Maps.{total, exact}
use Rattle.hash_tree.proofs.Changed.{same_key}
use Rattle.domain_table.specs.Tables.{Table}
use Rattle.domain_table.specs.Applying.{is_ripe, ripened, ripen}

-- what is found under a name of a list whose values were changed, each by its name
pub mapped_find : {V W : Type 0} (f : List ℕ → V → W) (es : List (List ℕ × V)) (name : List ℕ)
    → find key_cmp name (map (λ e. (e.0, f e.0 e.1)) es) ≡ option_map (f name) (find key_cmp name es)
mapped_find f [] name = refl
mapped_find f (e ∷ es) name =
    elim (eq_by_cmp key_cmp name e.0) as (λ b. eq_by_cmp key_cmp name e.0 ≡ b → cond b (Some (f e.0 e.1)) (find key_cmp name (map (λ d. (d.0, f d.0 d.1)) es)) ≡ option_map (f name) (cond b (Some e.1) (find key_cmp name es))) [
      | true ↦ λ t. ap (λ k. Some (f k e.1)) (sym (same_key name e.0 t))
      | false ↦ λ t. mapped_find f es name
    ] refl

-- the chain of a name at an epoch
pub get-ripen : (t : Table) (e : ℕ) (name : List ℕ) → get (ripen t e).chains name ≡ option_map (ripened t e name) (get t.chains name)
unfolding ripen
get-ripen t e name =
    get-from_entries total (map (λ d. (d.0, ripened t e d.0 d.1)) (entries t.chains)) name
    ∙ mapped_find (ripened t e) (entries t.chains) name
    ∙ ap (option_map (ripened t e name)) (sym (get-entries t.chains name))

turned : {A : Type 0} (b : Bool) (x y : A) → cond (not b) x y ≡ cond b y x
turned true x y = refl
turned false x y = refl

-- what waits for a name at an epoch
pub waiting-ripen : (t : Table) (e : ℕ) (name : List ℕ) → get (ripen t e).waiting name ≡ cond (is_ripe t e name) None (get t.waiting name)
unfolding ripen
waiting-ripen t e name =
    get-retain_keys t.waiting (λ k. not (is_ripe t e k)) name (λ x tied. ap (λ k. not (is_ripe t e k)) (sym (exact name x tied)))
    ∙ turned (is_ripe t e name) (get t.waiting name) None
