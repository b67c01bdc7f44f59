-- Rows that are listed in the order of their names: where a row is put, and what stands beside a name.
use Rattle.std.proofs.Common.{◌≡◌, ℕ, zero, suc, ◌+◌, ◌<◌, ◌≤◌, List, [], ◌∷◌, ◌++◌, map, length, get_or, take, drop, refl, sym, ap, ◌∙◌, subst, arith, ⊎_elim, ◌⊎◌, inl, inr, Bool, true, false, cond, not, ◌&&◌}
use Rattle.std.specs.Prelude.{IsTrue, filter, ⊤}
use Rattle.std.specs.List.{AllByRecursion, AllWithin, insert}
use Rattle.std.specs.List.Sorted.{IsPartitionedBy, IsPartitionPoint}
use Rattle.std.specs.declared.cmp.Ordering.{Ordering}
use Rattle.std.specs.declared.cmp.Ordering.TheVariants.{Less, Equal, Greater}
use Rattle.std.specs.Ordering.{is_lt, ordering_reverse}
use Rattle.std.specs.FinMap.{is_sorted}
use Rattle.std.specs.FinMap.Entries.{below_all}
use Rattle.std.proofs.lemmas.Bool.{and_parts}
use Rattle.hash_tree.specs.Entries.{key_cmp}
use Rattle.hash_tree.proofs.Maps.{total, exact, less_is}
use Rattle.domain_table.specs.declared.row.Marks.{Marks}
use Rattle.domain_table.specs.declared.row.Listed.{Listed}
use Rattle.domain_table.specs.Rows.{RowData, by_name, chain_pair, listed, listed_in, marks_listed, marks_of, put_row, put_rows}

-- ---- names in order

less_or_same : (a b : List ℕ) → is_lt (key_cmp b a) ≡ false → (key_cmp a b ≡ Less) ⊎ (a ≡ b)
less_or_same a b h = at (key_cmp b a) refl where
  at : (o : Ordering) → key_cmp b a ≡ o → (key_cmp a b ≡ Less) ⊎ (a ≡ b)
  at Less e = let lt : is_lt (key_cmp b a) ≡ true = ap is_lt e in absurd (cc)
  at Equal e = inr (sym (exact b a e))
  at Greater e = inl (total.antisymm a b ∙ ap ordering_reverse e)

-- a lesser name is not greater
not_greater : (a b : List ℕ) → key_cmp a b ≡ Less → is_lt (key_cmp b a) ≡ false
not_greater a b less = ap is_lt (total.antisymm b a ∙ ap ordering_reverse less)

-- names none of which is less than one before it
abbrev pub Rise : List (List ℕ) → Type 0
Rise [] = ⊤
Rise (name ∷ names) = AllByRecursion (λ n. is_lt (key_cmp n name) ≡ false) names × Rise names

-- a name that is less than one is less than those behind it
still_less : (n a b : List ℕ) → is_lt (key_cmp b a) ≡ false → is_lt (key_cmp n a) ≡ true → is_lt (key_cmp n b) ≡ true
still_less n a b behind less =
    ⊎_elim
    (λ (h : key_cmp a b ≡ Less). ap is_lt (total.trans n a b (less_is (key_cmp n a) less) h))
    (λ (h : a ≡ b). ap (λ x. is_lt (key_cmp n x)) (sym h) ∙ less)
    (less_or_same a b behind)

abbrev pub is_not_before : List ℕ → List ℕ → Bool
is_not_before n name = not (is_lt (key_cmp n name))

abbrev pub comes_before : List ℕ → List ℕ → Bool
comes_before n name = is_lt (key_cmp name n)

pub down_behind : (n a b : List ℕ) → is_lt (key_cmp b a) ≡ false → is_not_before n b ≡ true → is_not_before n a ≡ true
down_behind n a b behind h = at (is_lt (key_cmp n a)) refl where
  at : (t : Bool) → is_lt (key_cmp n a) ≡ t → not (is_lt (key_cmp n a)) ≡ true
  at false e = ap not e
  at true e = let more : is_lt (key_cmp n b) ≡ true = still_less n a b behind e in let not_more : not (is_lt (key_cmp n b)) ≡ false = ap not more in absurd (cc)

pub down_before : (n a b : List ℕ) → is_lt (key_cmp b a) ≡ false → comes_before n b ≡ true → comes_before n a ≡ true
down_before n a b behind h =
    ⊎_elim
    (λ (e : key_cmp a b ≡ Less). ap is_lt (total.trans a b n e (less_is (key_cmp b n) h)))
    (λ (e : a ≡ b). ap (λ x. is_lt (key_cmp x n)) e ∙ h)
    (less_or_same a b behind)

name_at : (P : List ℕ → Type 0) (xs : List Listed) → AllByRecursion P (map (λ l. l.name.items) xs) → (j : ℕ) (d : Listed) → j < length xs → P (get_or xs j d).name.items
name_at P [] all j d l = absurd (omega (arith, l))
name_at P (x ∷ xs) all zero d l = all.0
name_at P (x ∷ xs) all (suc j) d l = name_at P xs all.1 j d (omega (arith, l))

-- a test that holds of what comes before where it holds
pub parted : (p : List ℕ → Bool) → ((a b : List ℕ) → is_lt (key_cmp b a) ≡ false → p b ≡ true → p a ≡ true) → (xs : List Listed) → Rise (map (λ l. l.name.items) xs) → IsPartitionedBy (λ l. p l.name.items) xs
parted p down [] rise i j d le l h = absurd (omega (arith, l))
parted p down (x ∷ xs) rise zero zero d le l h = h
parted p down (x ∷ xs) rise zero (suc j) d le l h = down x.name.items (get_or xs j d).name.items (name_at (λ n. is_lt (key_cmp n x.name.items) ≡ false) xs rise.0 j d (omega (arith, l))) h
parted p down (x ∷ xs) rise (suc i) zero d le l h = absurd (omega (arith, le))
parted p down (x ∷ xs) rise (suc i) (suc j) d le l h = parted p down xs rise.1 i j d (omega (arith, le)) (omega (arith, l)) h

-- ---- rows that are put in order

all_more : (a b : List ℕ) → key_cmp a b ≡ Less → (names : List (List ℕ)) → AllByRecursion (λ n. is_lt (key_cmp n b) ≡ false) names → AllByRecursion (λ n. is_lt (key_cmp n a) ≡ false) names
all_more a b less [] all = tt
all_more a b less (n ∷ names) all = (at (is_lt (key_cmp n a)) refl, all_more a b less names all.1) where
  at : (t : Bool) → is_lt (key_cmp n a) ≡ t → t ≡ false
  at false e = refl
  at true e = let more : is_lt (key_cmp n b) ≡ true = ap is_lt (total.trans n a b (less_is (key_cmp n a) e) less) in let not_more : is_lt (key_cmp n b) ≡ false = all.0 in absurd (cc)

put_all : (P : List ℕ → Type 0) (r : RowData) (rows : List RowData) → P r.name → AllByRecursion P (map (λ r. r.name) rows) → AllByRecursion P (map (λ r. r.name) (put_row r rows))
put_all P r [] here all = (here, tt)
put_all P r (s ∷ rows) here all = at (is_lt (key_cmp r.name s.name)) (put_all P r rows here all.1) where
  at : (b : Bool) → AllByRecursion P (map (λ r. r.name) (put_row r rows)) → AllByRecursion P (map (λ r. r.name) (cond b (r ∷ s ∷ rows) (s ∷ put_row r rows)))
  at true rest = (here, all)
  at false rest = (all.0, rest)

put_rise : (r : RowData) (rows : List RowData) → Rise (map (λ r. r.name) rows) → Rise (map (λ r. r.name) (put_row r rows))
put_rise r [] rise = (tt, tt)
put_rise r (s ∷ rows) rise = at (is_lt (key_cmp r.name s.name)) refl (put_rise r rows rise.1) where
  at : (b : Bool) → is_lt (key_cmp r.name s.name) ≡ b → Rise (map (λ r. r.name) (put_row r rows)) → Rise (map (λ r. r.name) (cond b (r ∷ s ∷ rows) (s ∷ put_row r rows)))
  at true less rest =
      let is : key_cmp r.name s.name ≡ Less = less_is (key_cmp r.name s.name) less in
      ((not_greater r.name s.name is, all_more r.name s.name is (map (λ r. r.name) rows) rise.0), rise)
  at false more rest = (put_all (λ n. is_lt (key_cmp n s.name) ≡ false) r rows more rise.0, rest)

puts_rise : (rows more : List RowData) → Rise (map (λ r. r.name) rows) → Rise (map (λ r. r.name) (put_rows rows more))
puts_rise rows [] rise = rise
puts_rise rows (r ∷ more) rise = puts_rise (put_row r rows) more (put_rise r rows rise)

pub put_last : (rows xs : List RowData) (r : RowData) → put_rows rows (xs ++ r ∷ []) ≡ put_row r (put_rows rows xs)
put_last rows [] r = refl
put_last rows (x ∷ xs) r = put_last (put_row x rows) xs r

-- ---- what is listed

listed_names : (xs : List Listed) → map (λ l. l.name.items) xs ≡ map (λ e. e.0) (listed_in xs)
listed_names [] = refl
listed_names (x ∷ xs) = ap (λ ns. x.name.items ∷ ns) (listed_names xs)

row_names : (rows : List RowData) → map (λ e. e.0) (map listed rows) ≡ map (λ r. r.name) rows
row_names [] = refl
row_names (r ∷ rows) = ap (λ ns. r.name ∷ ns) (row_names rows)

-- the names of a list of rows in order
pub rise_named : (list : List Listed) (xs : List RowData) → listed_in list ≡ map listed (by_name xs) → Rise (map (λ l. l.name.items) list)
rise_named list xs same =
    subst Rise (sym (listed_names list ∙ ap (map (λ e. e.0)) same ∙ row_names (by_name xs))) (puts_rise [] xs tt)

-- a row that is put at its place
pub put_listed : (xs : List Listed) (rows : List RowData) (r : RowData) (l : Listed) (i : ℕ) → i ≤ length xs → listed_in xs ≡ map listed rows → (l.name.items, l.marks) ≡ listed r
    → IsPartitionPoint (λ y. is_not_before r.name y.name.items ≡ true) (λ y. is_not_before r.name y.name.items ≡ false) xs i → listed_in (insert xs i l) ≡ map listed (put_row r rows)
put_listed [] [] r l zero le same own point = ap (λ e. e ∷ []) own
put_listed [] [] r l (suc i) le same own point = absurd (omega (arith, le))
put_listed [] (s ∷ rows) r l i le same own point = absurd (cc)
put_listed (x ∷ xs) [] r l i le same own point = absurd (cc)
put_listed (x ∷ xs) (s ∷ rows) r l zero le same own point = (λ j. own j ∷ same j) ∙ sym (ap (λ b. map listed (cond b (r ∷ s ∷ rows) (s ∷ put_row r rows))) less) where
  pair : (x.name.items, x.marks) ≡ listed s
  pair = cc

  passed : (b : Bool) → not b ≡ false → b ≡ true
  passed true e = refl
  passed false e = absurd (cc)

  less : is_lt (key_cmp r.name s.name) ≡ true
  less = ap (λ e. is_lt (key_cmp r.name e.0)) (sym pair) ∙ passed (is_lt (key_cmp r.name x.name.items)) (point.1 0 x (omega arith) (omega arith))
put_listed (x ∷ xs) (s ∷ rows) r l (suc i) le same own point =
    let tail : listed_in xs ≡ map listed rows = cc in
    let rest = put_listed xs rows r l i (omega (arith, le)) tail own (λ k d a b. point.0 (suc k) d (omega arith) (omega (arith, b)), λ k d a b. point.1 (suc k) d (omega (arith, a)) (omega (arith, b))) in
    (λ j. pair j ∷ rest j) ∙ sym (ap (λ b. map listed (cond b (r ∷ s ∷ rows) (s ∷ put_row r rows))) more) where
      pair : (x.name.items, x.marks) ≡ listed s
      pair = cc

      failed : (b : Bool) → not b ≡ true → b ≡ false
      failed true e = absurd (cc)
      failed false e = refl

      more : is_lt (key_cmp r.name s.name) ≡ false
      more = ap (λ e. is_lt (key_cmp r.name e.0)) (sym pair) ∙ failed (is_lt (key_cmp r.name x.name.items)) (point.0 0 x (omega arith) (omega arith))

pub put_named : (list : List Listed) (xs : List RowData) (r : RowData) (l : Listed) (i : ℕ) → i ≤ length list → listed_in list ≡ map listed (by_name xs) → (l.name.items, l.marks) ≡ listed r
    → (IsPartitionedBy (λ y. is_not_before r.name y.name.items) list
    → IsPartitionPoint (λ y. is_not_before r.name y.name.items ≡ true) (λ y. is_not_before r.name y.name.items ≡ false) list i)
    → listed_in (insert list i l) ≡ map listed (by_name (xs ++ r ∷ []))
put_named list xs r l i le same own point =
    put_listed list (by_name xs) r l i le same own (point (parted (is_not_before r.name) (down_behind r.name) list (rise_named list xs same)))
    ∙ ap (map listed) (sym (put_last [] xs r))

-- ---- what stands beside a name

below_rise : {V : Type 0} (x : List ℕ) (es : List (List ℕ × V)) → below_all key_cmp x es ≡ true → AllByRecursion (λ n. is_lt (key_cmp n x) ≡ false) (map (λ e. e.0) es)
below_rise x [] h = tt
below_rise x (e ∷ es) h =
    let parts = and_parts (is_lt (key_cmp x e.0)) (below_all key_cmp x es) h in
    (not_greater x e.0 (less_is (key_cmp x e.0) parts.0), below_rise x es parts.1)

sorted_rise : {V : Type 0} (es : List (List ℕ × V)) → IsTrue (is_sorted key_cmp es) → Rise (map (λ e. e.0) es)
sorted_rise [] h = tt
sorted_rise (e ∷ es) h =
    let parts = and_parts (below_all key_cmp e.0 es) (is_sorted key_cmp es) h in
    (below_rise e.0 es parts.0, sorted_rise es parts.1)

pub rise_sorted : (list : List Listed) → IsTrue (is_sorted key_cmp (listed_in list)) → Rise (map (λ l. l.name.items) list)
rise_sorted list h = subst Rise (sym (listed_names list)) (sorted_rise (listed_in list) h)

pub filter_taken : (q : List ℕ × Marks → Bool) (xs : List Listed) (i : ℕ) → i ≤ length xs → AllWithin (λ l. q (l.name.items, l.marks) ≡ true) xs 0 i → AllWithin (λ l. q (l.name.items, l.marks) ≡ false) xs i (length xs)
    → filter q (listed_in xs) ≡ listed_in (take i xs)
filter_taken q [] zero le passing failing = refl
filter_taken q [] (suc i) le passing failing = refl
filter_taken q (x ∷ xs) zero le passing failing =
    ap (λ b. cond b ((x.name.items, x.marks) ∷ filter q (listed_in xs)) (filter q (listed_in xs))) (failing 0 x (omega arith) (omega arith))
    ∙ filter_taken q xs zero (omega arith) (λ k d a b. absurd (omega (arith, b))) (λ k d a b. failing (suc k) d (omega arith) (omega (arith, b)))
filter_taken q (x ∷ xs) (suc i) le passing failing =
    ap (λ b. cond b ((x.name.items, x.marks) ∷ filter q (listed_in xs)) (filter q (listed_in xs))) (passing 0 x (omega arith) (omega arith))
    ∙ ap (λ es. (x.name.items, x.marks) ∷ es)
    (filter_taken q xs i (omega (arith, le)) (λ k d a b. passing (suc k) d (omega arith) (omega (arith, b))) (λ k d a b. failing (suc k) d (omega (arith, a)) (omega (arith, b))))

pub filter_dropped : (q : List ℕ × Marks → Bool) (xs : List Listed) (i : ℕ) → i ≤ length xs → AllWithin (λ l. q (l.name.items, l.marks) ≡ false) xs 0 i → AllWithin (λ l. q (l.name.items, l.marks) ≡ true) xs i (length xs)
    → filter q (listed_in xs) ≡ listed_in (drop i xs)
filter_dropped q [] zero le failing passing = refl
filter_dropped q [] (suc i) le failing passing = refl
filter_dropped q (x ∷ xs) zero le failing passing =
    ap (λ b. cond b ((x.name.items, x.marks) ∷ filter q (listed_in xs)) (filter q (listed_in xs))) (passing 0 x (omega arith) (omega arith))
    ∙ ap (λ es. (x.name.items, x.marks) ∷ es)
    (filter_dropped q xs zero (omega arith) (λ k d a b. absurd (omega (arith, b))) (λ k d a b. passing (suc k) d (omega arith) (omega (arith, b))))
filter_dropped q (x ∷ xs) (suc i) le failing passing =
    ap (λ b. cond b ((x.name.items, x.marks) ∷ filter q (listed_in xs)) (filter q (listed_in xs))) (failing 0 x (omega arith) (omega arith))
    ∙ filter_dropped q xs i (omega (arith, le)) (λ k d a b. failing (suc k) d (omega arith) (omega (arith, b))) (λ k d a b. passing (suc k) d (omega (arith, a)) (omega (arith, b)))

pub front_taken : (list : List Listed) (n : List ℕ) (i : ℕ) → i ≤ length list → IsTrue (is_sorted key_cmp (listed_in list))
    → (IsPartitionedBy (λ y. comes_before n y.name.items) list → IsPartitionPoint (λ y. comes_before n y.name.items ≡ true) (λ y. comes_before n y.name.items ≡ false) list i)
    → listed_in (take i list) ≡ filter (λ e. is_lt (key_cmp e.0 n)) (listed_in list)
front_taken list n i le rise point =
    let at = point (parted (comes_before n) (down_before n) list (rise_sorted list rise)) in
    sym (filter_taken (λ e. is_lt (key_cmp e.0 n)) list i le at.0 at.1)

pub back_dropped : (list : List Listed) (n : List ℕ) (i : ℕ) → i ≤ length list → IsTrue (is_sorted key_cmp (listed_in list))
    → (IsPartitionedBy (λ y. is_not_before n y.name.items) list → IsPartitionPoint (λ y. is_not_before n y.name.items ≡ true) (λ y. is_not_before n y.name.items ≡ false) list i)
    → listed_in (drop i list) ≡ filter (λ e. is_lt (key_cmp n e.0)) (listed_in list)
back_dropped list n i le rise point =
    let at = point (parted (is_not_before n) (down_behind n) list (rise_sorted list rise)) in
    sym (filter_dropped (λ e. is_lt (key_cmp n e.0)) list i le (λ k d a b. failed (is_lt (key_cmp n (get_or list k d).name.items)) (at.0 k d a b)) (λ k d a b. passed (is_lt (key_cmp n (get_or list k d).name.items)) (at.1 k d a b))) where
      failed : (b : Bool) → not b ≡ true → b ≡ false
      failed true e = absurd (cc)
      failed false e = refl

      passed : (b : Bool) → not b ≡ false → b ≡ true
      passed true e = refl
      passed false e = absurd (cc)

-- ---- the marks of what is listed

below_listed : (x : List ℕ) (rows : List RowData) → below_all key_cmp x (map listed rows) ≡ below_all key_cmp x (map chain_pair rows)
below_listed x [] = refl
below_listed x (r ∷ rows) = ap (λ b. is_lt (key_cmp x r.name) && b) (below_listed x rows)

sorted_listed : (rows : List RowData) → is_sorted key_cmp (map listed rows) ≡ is_sorted key_cmp (map chain_pair rows)
sorted_listed [] = refl
sorted_listed (r ∷ rows) = λ i. below_listed r.name rows i && sorted_listed rows i

pub list_sorted : (list : List Listed) (rows : List RowData) → listed_in list ≡ map listed rows → IsTrue (is_sorted key_cmp (map chain_pair rows)) → IsTrue (is_sorted key_cmp (listed_in list))
list_sorted list rows same rise = ap (is_sorted key_cmp) same ∙ sorted_listed rows ∙ rise

list_marks : (list : List Listed) → marks_listed list ≡ map (λ e. e.1) (listed_in list)
list_marks [] = refl
list_marks (x ∷ xs) = ap (λ ms. x.marks ∷ ms) (list_marks xs)

row_marks : (rows : List RowData) → map (λ e. e.1) (map listed rows) ≡ marks_of rows
row_marks [] = refl
row_marks (r ∷ rows) = ap (λ ms. r.marks ∷ ms) (row_marks rows)

filter_listed : (p : List ℕ → Bool) (rows : List RowData) → filter (λ e. p e.0) (map listed rows) ≡ map listed (filter (λ r. p r.name) rows)
filter_listed p [] = refl
filter_listed p (r ∷ rows) = at (p r.name) (filter_listed p rows) where
  at : (b : Bool) → filter (λ e. p e.0) (map listed rows) ≡ map listed (filter (λ r. p r.name) rows)
      → cond b (listed r ∷ filter (λ e. p e.0) (map listed rows)) (filter (λ e. p e.0) (map listed rows)) ≡ map listed (cond b (r ∷ filter (λ r. p r.name) rows) (filter (λ r. p r.name) rows))
  at true rest = ap (λ es. listed r ∷ es) rest
  at false rest = rest

-- of all that is listed
pub marks_all : (list : List Listed) (rows : List RowData) → listed_in list ≡ map listed rows → marks_listed list ≡ marks_of rows
marks_all list rows same = list_marks list ∙ ap (map (λ e. e.1)) same ∙ row_marks rows

-- of a part
pub marks_part : (p : List ℕ → Bool) (part list : List Listed) (rows : List RowData) → listed_in part ≡ filter (λ e. p e.0) (listed_in list) → listed_in list ≡ map listed rows
    → marks_listed part ≡ marks_of (filter (λ r. p r.name) rows)
marks_part p part list rows is same =
    list_marks part ∙ ap (map (λ e. e.1)) (is ∙ ap (filter (λ e. p e.0)) same ∙ filter_listed p rows) ∙ row_marks (filter (λ r. p r.name) rows)
