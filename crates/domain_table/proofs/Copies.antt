-- Rows that are copied one by one, each of a name that none of those before has.
use Rattle.std.proofs.Common.{◌≡◌, ℕ, List, [], ◌∷◌, ◌++◌, map, refl, ap, sym, ◌∙◌, subst, Bool, false, cond, Vec, Global}
use Rattle.std.specs.List.{AllByRecursion, IsDistinct}
use Rattle.std.specs.Map.{keys_of}
use Rattle.std.specs.Ordering.{eq_by_cmp}
use Rattle.std.specs.Str.{bytes_eq}
use Rattle.std.proofs.lemmas.List.{map-append}
use Rattle.std.proofs.lemmas.List.Elements.{recursion_from_All, All-from_recursion}
use Rattle.std.proofs.lemmas.Map.Text.{is_eq-slice_cmp}
use Rattle.indexmap.specs.IndexMap.{insert_entry}
use Rattle.hash_tree.specs.Entries.{key_cmp}
use Rattle.hash_tree.proofs.Maps.{total}
use Rattle.std.specs.Cmp.{eq_by_cmp_equiv}
use Rattle.domain_table.specs.declared.row.Row.{Row}
use Rattle.domain_table.specs.Rows.{IsMissing, Named, RowData, data_of, rows_in}

-- whether two keys of the map are one
abbrev pub same_name : Vec ℕ Global → Vec ℕ Global → Bool
same_name a b = bytes_eq a.items b.items

-- the names of rows
abbrev names_of : List RowData → List (List ℕ)
names_of rows = map (λ r. r.name) rows

bytes_same : (a b : List ℕ) → bytes_eq a b ≡ eq_by_cmp key_cmp a b
bytes_same a b = sym (is_eq-slice_cmp a b)

-- a row of a name that none has comes behind all
pub added : (es : List Named) (name : Vec ℕ Global) (row : Row) → IsMissing name.items es → insert_entry same_name es name row ≡ es ++ (name, row) ∷ []
added es name row absent = at es (recursion_from_All (λ e. eq_by_cmp key_cmp name.items e.0.items ≡ false) es absent) where
  at : (fs : List Named) → AllByRecursion (λ e. eq_by_cmp key_cmp name.items e.0.items ≡ false) fs → insert_entry same_name fs name row ≡ fs ++ (name, row) ∷ []
  at [] all = refl
  at (f ∷ fs) all = ap (λ b. cond b ((f.0, row) ∷ fs) (f ∷ insert_entry same_name fs name row)) (bytes_same name.items f.0.items ∙ all.0) ∙ ap (λ gs. f ∷ gs) (at fs all.1)

-- one more is copied
pub copied : (all : List RowData) (before after left rest : List Named) (e f : Named) → after ≡ before ++ f ∷ [] → left ≡ e ∷ rest → data_of f ≡ data_of e
    → rows_in before ++ rows_in left ≡ all → rows_in after ++ rows_in rest ≡ all
copied all before after left rest e f is is_left same so_far =
    (λ j. rows_in (is j) ++ rows_in rest)
    ∙ ap (λ xs. xs ++ rows_in rest) (map-append data_of before (f ∷ []))
    ∙ sym (append_one (rows_in before) (data_of f) (rows_in rest))
    ∙ (λ j. rows_in before ++ same j ∷ rows_in rest)
    ∙ ap (λ es. rows_in before ++ rows_in es) (sym is_left)
    ∙ so_far where
      append_one : (xs : List RowData) (x : RowData) (ys : List RowData) → xs ++ x ∷ ys ≡ (xs ++ x ∷ []) ++ ys
      append_one [] x ys = refl
      append_one (y ∷ xs) x ys = ap (λ zs. y ∷ zs) (append_one xs x ys)

-- names that differ differ from those before
distinct_names : (es : List Named) → IsDistinct same_name (keys_of es) → IsDistinct bytes_eq (names_of (rows_in es))
unfolding IsDistinct
distinct_names [] is = is
distinct_names (e ∷ es) is = (others es is.0, distinct_names es is.1) where
  others : (fs : List Named) → AllByRecursion (λ k. same_name e.0 k ≡ false) (keys_of fs) → AllByRecursion (λ n. bytes_eq e.0.items n ≡ false) (names_of (rows_in fs))
  others [] all = all
  others (f ∷ fs) all = (all.0, others fs all.1)

before_next : (front : List Named) (name : List ℕ) (more : List (List ℕ)) → IsDistinct bytes_eq (names_of (rows_in front) ++ name ∷ more)
    → AllByRecursion (λ e. eq_by_cmp key_cmp name e.0.items ≡ false) front
unfolding IsDistinct
before_next [] name more is = tt
before_next (f ∷ front) name more is = (
  (eq_by_cmp_equiv total).symm name f.0.items ∙ sym (bytes_same f.0.items name) ∙ here (names_of (rows_in front)) is.0,
  before_next front name more is.1,
) where
  here : (xs : List (List ℕ)) → AllByRecursion (λ n. bytes_eq f.0.items n ≡ false) (xs ++ name ∷ more) → bytes_eq f.0.items name ≡ false
  here [] all = all.0
  here (x ∷ xs) all = here xs all.1

-- the next name is none of those that were copied
pub not_copied : (all before left rest : List Named) (e : Named) (name : List ℕ) → IsDistinct same_name (keys_of all) → rows_in before ++ rows_in left ≡ rows_in all → left ≡ e ∷ rest
    → name ≡ e.0.items → IsMissing name before
not_copied all before left rest e name distinct so_far is_left same =
    let names : names_of (rows_in all) ≡ names_of (rows_in before) ++ name ∷ names_of (rows_in rest) =
    ap names_of (sym so_far) ∙ map-append (λ r. r.name) (rows_in before) (rows_in left)
    ∙ ap (λ es. names_of (rows_in before) ++ names_of (rows_in es)) is_left
    ∙ (λ j. names_of (rows_in before) ++ sym same j ∷ names_of (rows_in rest)) in
    All-from_recursion (λ e. eq_by_cmp key_cmp name e.0.items ≡ false) before
    (before_next before name (names_of (rows_in rest)) (subst (IsDistinct bytes_eq) names (distinct_names all distinct)))
