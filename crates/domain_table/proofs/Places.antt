-- Rows of a map by their places in it, lists in parts, and names that compare.
use Rattle.std.proofs.Common.{◌≡◌, ℕ, zero, suc, ◌+◌, ◌<◌, ◌≤◌, List, [], ◌∷◌, ◌++◌, map, length, get_or, take, drop, refl, sym, ap, ◌∙◌, arith, Bool, true, false, cond, Option, Some, None}
use Rattle.std.specs.Prelude.{slice_get, position, IfSome, IfNone}
use Rattle.std.specs.List.{position_or_len}
use Rattle.std.specs.Str.{bytes_eq}
use Rattle.std.specs.declared.cmp.Ordering.{Ordering}
use Rattle.std.specs.declared.cmp.Ordering.TheVariants.{Less, Equal, Greater}
use Rattle.std.specs.Ordering.{eq_by_cmp, is_eq, is_lt, ordering_reverse}
use Rattle.std.proofs.lemmas.Bool.{ltb-false}
use Rattle.std.proofs.lemmas.List.{get_or-map, length-map, map-append}
use Rattle.std.proofs.lemmas.List.Quantifiers.{position-Some}
use Rattle.std.proofs.lemmas.List.Sums.{fails_before_first}
use Rattle.std.proofs.lemmas.Map.Text.{is_eq-slice_cmp}
use Rattle.std.proofs.Math.Numerals.{suc-eq-add-one}
use Rattle.indexmap.specs.IndexMap.{set_value_at}
use Rattle.hash_tree.specs.Entries.{key_cmp}
use Rattle.hash_tree.proofs.Maps.{total}
use Rattle.hash_tree.proofs.Changed.{same_key}
use Rattle.domain_table.specs.declared.row.Row.{Row}
use Rattle.domain_table.specs.Rows.{IsMissing, Named, RowData, data_of, marks_of, rows_in}

-- ---- rows of a map

pub length_rows : (es : List Named) → length (rows_in es) ≡ length es
length_rows [] = refl
length_rows (e ∷ es) = ap suc (length_rows es)

pub get_row : (es : List Named) (i : ℕ) (d : Named) (e : RowData) → i < length es → get_or (rows_in es) i e ≡ data_of (get_or es i d)
get_row [] i d e l = absurd (omega (arith, l))
get_row (x ∷ es) zero d e l = refl
get_row (x ∷ es) (suc i) d e l = get_row es i d e (omega (arith, l))

-- an entry, where there are some
pub one_of : (es : List Named) (i : ℕ) → i < length es → Named
one_of [] i l = absurd (omega (arith, l))
one_of (e ∷ es) i l = e

-- what a map has at a place, by its values
pub row_is : (es : List Named) (i : ℕ) (d : Named) (r : Row) → slice_get (map (λ e. e.1) es) i ≡ Some r → (get_or es i d).1 ≡ r
row_is [] i d r is = absurd cc
row_is (x ∷ es) zero d r is = cc
row_is (x ∷ es) (suc i) d r is = row_is es i d r is

-- another row at a place
pub rows_set : (es : List Named) (i : ℕ) (r : Row) (d : Named) → i < length es → rows_in (set_value_at es i r) ≡ take i (rows_in es) ++ data_of ((get_or es i d).0, r) ∷ drop (i + 1) (rows_in es)
rows_set es i r d l = at es i l ∙ ap (λ n. take i (rows_in es) ++ data_of ((get_or es i d).0, r) ∷ drop n (rows_in es)) (suc-eq-add-one i) where
  at : (ys : List Named) (n : ℕ) → n < length ys → rows_in (set_value_at ys n r) ≡ take n (rows_in ys) ++ data_of ((get_or ys n d).0, r) ∷ drop (suc n) (rows_in ys)
  at [] n l = absurd (omega (arith, l))
  at (y ∷ ys) zero l = refl
  at (y ∷ ys) (suc n) l = ap (λ zs. data_of y ∷ zs) (at ys n (omega (arith, l)))

-- a row that says the same changes nothing of what the rows say
pub same_set : (es : List Named) (i : ℕ) (r : Row) (d : Named) → i < length es → data_of ((get_or es i d).0, r) ≡ data_of (get_or es i d) → rows_in (set_value_at es i r) ≡ rows_in es
same_set [] i r d l e = absurd (omega (arith, l))
same_set (x ∷ es) zero r d l e = ap (λ y. y ∷ rows_in es) e
same_set (x ∷ es) (suc i) r d l e = ap (λ ys. data_of x ∷ ys) (same_set es i r d (omega (arith, l)) e)

-- a row behind the others
pub rows_behind : (es : List Named) (e : Named) → rows_in (es ++ e ∷ []) ≡ rows_in es ++ data_of e ∷ []
rows_behind es e = map-append data_of es (e ∷ [])

-- ---- lists in parts

-- a list in three parts
pub split_at : {A : Type 0} (xs : List A) (i : ℕ) (d : A) → i < length xs → xs ≡ take i xs ++ get_or xs i d ∷ drop (i + 1) xs
split_at {A} xs i d l = at xs i l ∙ ap (λ n. take i xs ++ get_or xs i d ∷ drop n xs) (suc-eq-add-one i) where
  at : (ys : List A) (n : ℕ) → n < length ys → ys ≡ take n ys ++ get_or ys n d ∷ drop (suc n) ys
  at [] n l = absurd (omega (arith, l))
  at (y ∷ ys) zero l = refl
  at (y ∷ ys) (suc n) l = ap (λ zs. y ∷ zs) (at ys n (omega (arith, l)))

pub join_at : {A : Type 0} (xs : List A) (i : ℕ) → xs ≡ take i xs ++ drop i xs
join_at xs zero = refl
join_at [] (suc i) = refl
join_at (x ∷ xs) (suc i) = ap (λ ys. x ∷ ys) (join_at xs i)

pub marks_with : (front : List RowData) (r : RowData) (back : List RowData) → marks_of (front ++ r ∷ back) ≡ marks_of front ++ r.marks ∷ marks_of back
marks_with front r back = map-append (λ r. r.marks) front (r ∷ back)

-- ---- names that compare

greater : (o : Ordering) → is_lt o ≡ false → is_eq o ≡ false → o ≡ Greater
greater Less a b = absurd (cc)
greater Equal a b = absurd (cc)
greater Greater a b = refl

-- a name that is not less and does not tie is greater
pub is_greater : (name k : List ℕ) → is_lt (key_cmp k name) ≡ false → eq_by_cmp key_cmp name k ≡ false → key_cmp name k ≡ Less
is_greater name k not_less apart =
    let other : is_eq (key_cmp k name) ≡ false = ap is_eq (total.antisymm k name) ∙ back (key_cmp name k) apart in
    total.antisymm name k ∙ ap ordering_reverse (greater (key_cmp k name) not_less other) where
      back : (o : Ordering) → is_eq o ≡ false → is_eq (ordering_reverse o) ≡ false
      back Less e = refl
      back Equal e = absurd (cc)
      back Greater e = refl

-- ---- the place of a name among the keys

key_parts : (name k : List ℕ) → (bytes_eq name k ≡ true → k ≡ name) × (bytes_eq name k ≡ false → eq_by_cmp key_cmp name k ≡ false)
key_parts name k = ((λ e. sym (same_key name k (is_eq-slice_cmp name k ∙ e))), (λ e. is_eq-slice_cmp name k ∙ e))

-- where the keys have the name
pub found_at : (es : List Named) (name : List ℕ) (i : ℕ) → position (λ k. bytes_eq name k.items) (map (λ e. e.0) es) ≡ Some i → (i < length es) × ((d : Named) → (get_or es i d).0.items ≡ name)
found_at es name i is = (
  bound,
  λ d. (key_parts name (get_or es i d).0.items).0
      (ap (λ k. bytes_eq name k.items) (sym (get_or-map (λ e. e.0) es i d d.0 bound)) ∙ (position-Some (λ k. bytes_eq name k.items) (map (λ e. e.0) es) i d.0 is).1),
) where
  within : (d : Named) → i < length es
  within d = omega (arith, (position-Some (λ k. bytes_eq name k.items) (map (λ e. e.0) es) i d.0 is).0, length-map es (λ e. e.0))

  bound : i < length es
  bound = at es is within where
    at : (xs : List Named) → position (λ k. bytes_eq name k.items) (map (λ e. e.0) xs) ≡ Some i → ((d : Named) → i < length xs) → i < length xs
    at [] is h = absurd cc
    at (x ∷ xs) is h = h x

-- where they do not
pub missing_at : (es : List Named) (name : List ℕ) → position (λ k. bytes_eq name k.items) (map (λ e. e.0) es) ≡ None → IsMissing name es
missing_at es name is k d l =
    (key_parts name (get_or es k d).0.items).1
    (ap (λ k. bytes_eq name k.items) (sym (get_or-map (λ e. e.0) es k d d.0 l))
    ∙ fails_before_first (λ k. bytes_eq name k.items) (map (λ e. e.0) es) k d.0 (omega (arith, l, length-map es (λ e. e.0), far))) where
      none : (b : Bool) (n : ℕ) → cond b (Some n) None ≡ None → b ≡ false
      none true n e = absurd cc
      none false n e = refl

      far : length (map (λ e. e.0) es) ≤ position_or_len (λ k. bytes_eq name k.items) (map (λ e. e.0) es)
      far = ltb-false (position_or_len (λ k. bytes_eq name k.items) (map (λ e. e.0) es)) (length (map (λ e. e.0) es)) (none _ _ is)

pub found_when : (es : List Named) (name : List ℕ) (o : Option ℕ) → o ≡ position (λ k. bytes_eq name k.items) (map (λ e. e.0) es)
    → IfSome o (λ i. (i < length es) × ((d : Named) → (get_or es i d).0.items ≡ name))
found_when es name None is = tt
found_when es name (Some i) is = found_at es name i (sym is)

pub missing_when : (es : List Named) (name : List ℕ) (o : Option ℕ) → o ≡ position (λ k. bytes_eq name k.items) (map (λ e. e.0) es) → IfNone o (IsMissing name es)
missing_when es name None is = missing_at es name (sym is)
missing_when es name (Some i) is = tt
