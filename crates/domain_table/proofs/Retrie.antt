-- The entries of rows after one row's marks changed: what is found under each other key stays.
use Rattle.std.proofs.Common.{◌≡◌, ℕ, List, ◌∷◌, ◌++◌, map, refl, sym, ap, ◌∙◌, false, cond, Option, Some, None}
use Rattle.std.specs.List.{filter_map}
use Rattle.std.specs.Option.{option_map, option_or}
use Rattle.std.specs.Ordering.{eq_by_cmp}
use Rattle.std.specs.FinMap.{find}
use Rattle.hash_tree.specs.Entries.{key_cmp}
use Rattle.domain_table.specs.declared.row.Marks.{Marks}
use Rattle.domain_table.specs.Rows.{hit, marked, name_entry, pending_entry}
use Rattle.domain_table.proofs.RowLists.{marks_split, marks_join}

hit_apart : (q key : List ℕ) (o : Option (List ℕ)) → eq_by_cmp key_cmp q key ≡ false → hit q (option_map (λ v. (key, v)) o) ≡ None
hit_apart q key None apart = refl
hit_apart q key (Some v) apart = ap (λ b. cond b (Some v) None) apart

name_apart : (q : List ℕ) (m : Marks) (rest : Option (List ℕ)) → eq_by_cmp key_cmp q m.key ≡ false → cond (eq_by_cmp key_cmp q m.key) (Some m.value) rest ≡ rest
name_apart q m rest apart = ap (λ b. cond b (Some m.value) rest) apart

module _ (front : List Marks) (old new : Marks) (back : List Marks) (same_key : new.key ≡ old.key) (same_pending : new.pending_key ≡ old.pending_key) where
  from_parts : (q : List ℕ)
      → cond (eq_by_cmp key_cmp q new.key) (Some new.value) (find key_cmp q (map name_entry back)) ≡ cond (eq_by_cmp key_cmp q old.key) (Some old.value) (find key_cmp q (map name_entry back))
      → hit q (pending_entry new) ≡ hit q (pending_entry old) → find key_cmp q (marked (front ++ new ∷ back)) ≡ find key_cmp q (marked (front ++ old ∷ back))
  from_parts q names pendings =
      marks_split front new back q
      ∙ (λ i. option_or (option_or (find key_cmp q (map name_entry front)) (names i)) (option_or (find key_cmp q (filter_map pending_entry front)) (option_or (pendings i) (find key_cmp q (filter_map pending_entry back)))))
      ∙ sym (marks_split front old back q)

  names_apart : (q : List ℕ) → eq_by_cmp key_cmp q new.key ≡ false
      → cond (eq_by_cmp key_cmp q new.key) (Some new.value) (find key_cmp q (map name_entry back)) ≡ cond (eq_by_cmp key_cmp q old.key) (Some old.value) (find key_cmp q (map name_entry back))
  names_apart q apart =
      name_apart q new (find key_cmp q (map name_entry back)) apart
      ∙ sym (name_apart q old (find key_cmp q (map name_entry back)) (ap (eq_by_cmp key_cmp q) (sym same_key) ∙ apart))

  pendings_apart : (q : List ℕ) → eq_by_cmp key_cmp q new.pending_key ≡ false → hit q (pending_entry new) ≡ hit q (pending_entry old)
  pendings_apart q apart = hit_apart q new.pending_key new.pending_value apart ∙ sym (hit_apart q old.pending_key old.pending_value (ap (eq_by_cmp key_cmp q) (sym same_pending) ∙ apart))

  -- with another value of the name
  pub alike_name : new.pending_value ≡ old.pending_value → (q : List ℕ) → eq_by_cmp key_cmp q new.key ≡ false → find key_cmp q (marked (front ++ new ∷ back)) ≡ find key_cmp q (marked (front ++ old ∷ back))
  alike_name same q apart = from_parts q (names_apart q apart) (λ i. hit q (option_map (λ v. (same_pending i, v)) (same i)))

  -- with another value of what waits
  pub alike_pending : new.value ≡ old.value → (q : List ℕ) → eq_by_cmp key_cmp q new.pending_key ≡ false → find key_cmp q (marked (front ++ new ∷ back)) ≡ find key_cmp q (marked (front ++ old ∷ back))
  alike_pending same q apart = from_parts q (λ i. cond (eq_by_cmp key_cmp q (same_key i)) (Some (same i)) (find key_cmp q (map name_entry back))) (pendings_apart q apart)

  -- with others of both
  pub alike_both : (q : List ℕ) → eq_by_cmp key_cmp q new.key ≡ false → eq_by_cmp key_cmp q new.pending_key ≡ false → find key_cmp q (marked (front ++ new ∷ back)) ≡ find key_cmp q (marked (front ++ old ∷ back))
  alike_both q apart also = from_parts q (names_apart q apart) (pendings_apart q also)

-- with marks that come in, for which nothing waits
pub alike_came : (front : List Marks) (new : Marks) (back : List Marks) → new.pending_value ≡ None → (q : List ℕ) → eq_by_cmp key_cmp q new.key ≡ false
    → find key_cmp q (marked (front ++ new ∷ back)) ≡ find key_cmp q (marked (front ++ back))
alike_came front new back free q apart =
    marks_split front new back q
    ∙ (λ i. option_or (option_or (find key_cmp q (map name_entry front)) (name_apart q new (find key_cmp q (map name_entry back)) apart i))
    (option_or (find key_cmp q (filter_map pending_entry front)) (option_or (hit q (option_map (λ v. (new.pending_key, v)) (free i))) (find key_cmp q (filter_map pending_entry back)))))
    ∙ sym (marks_join front back q)
