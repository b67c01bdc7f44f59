-- Texts that are appended one behind the other.
use Rattle.std.proofs.Common.{◌≡◌, ℕ, ◌<◌, List, ◌++◌, length, Result, Ok, Err, Vec, sym, ◌∙◌, ap, arith, append_assoc, length-append}
use Rattle.std.specs.declared.alloc.AllocError.{AllocError}
use Rattle.std.proofs.Common.{get_or, take, subst}
use Rattle.std.specs.List.{flat_map}
use Rattle.std.proofs.lemmas.List.Folds.{length-flat_map-take}
use Rattle.ar_base.specs.Appending.{Appends}

-- one text behind another
pub appends-then : {Z : Type 0} (a b : List ℕ) (old mid new : Vec ℕ Z) (result : Result (Unit {0}) AllocError)
    → Appends a old mid (Ok tt) → Appends b mid new result → Appends (a ++ b) old new result
appends-then a b old mid new (Ok _) first second = record {
  ok = grind (arith, append_assoc, first.ok, second.ok);
  len = grind (arith, length-append, first.len, second.len);
  part = tt;
  full = tt;
  capacity = omega (arith, first.capacity, second.capacity);
}
appends-then a b old mid new (Err e) first second = record {
  ok = tt;
  len = tt;
  part = (a ++ second.part.0, second.part.1 ∙ ap (λ xs. xs ++ second.part.0) first.ok ∙ append_assoc old.items a second.part.0);
  full = grind (arith, length-append, first.len, first.capacity, second.full);
  capacity = omega (arith, first.capacity, second.capacity);
}

-- a text of which the first part finds no memory
pub appends-stops : {Z : Type 0} (a b : List ℕ) (old new : Vec ℕ Z) (error : AllocError)
    → Appends a old new (Err error) → Appends (a ++ b) old new (Err error)
appends-stops a b old new error first = record {
  ok = tt;
  len = tt;
  part = first.part;
  full = grind (arith, length-append, first.full);
  capacity = first.capacity;
}

-- the texts of items, of which one finds no memory
pub item_stops : {Z X : Type 0} (f : X → List ℕ) (xs : List X) (i : ℕ) (d : X) (old mid new : Vec ℕ Z)
    (at_item result : Result (Unit {0}) AllocError) (error : AllocError)
    → i < length xs → Appends (flat_map f (take i xs)) old mid (Ok tt) → Appends (f (get_or xs i d)) mid new at_item
    → at_item ≡ Err error → result ≡ Err error → Appends (flat_map f xs) old new result
item_stops f xs i d old mid new at_item result error inside first second stopped same =
    let both : Appends (flat_map f (take i xs) ++ f (get_or xs i d)) old new (Err error) =
    appends-then _ _ _ _ _ _ first (subst (λ r. Appends (f (get_or xs i d)) mid new r) stopped second) in
    let within = length-flat_map-take f xs i d inside in
    subst (λ r. Appends (flat_map f xs) old new r) (sym same) (record {
      ok = tt;
      len = tt;
      part = both.part;
      full = grind (arith, length-append, both.full, within);
      capacity = both.capacity;
    })
