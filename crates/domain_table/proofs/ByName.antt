-- Rows in the order of their names: what stands before and behind one of them, and what is the same in any order.
use Rattle.std.proofs.Common.{◌≡◌, ℕ, ◌+◌, ◌<◌, List, [], ◌∷◌, ◌++◌, map, length, get_or, take, drop, refl, sym, ap, ◌∙◌, subst, arith, Bool, true, false, cond, ◌||◌, Some, None}
use Rattle.std.specs.Prelude.{All, IsTrue}
use Rattle.std.specs.List.{AllByRecursion, list_any}
use Rattle.std.specs.declared.cmp.Ordering.{Ordering}
use Rattle.std.specs.declared.cmp.Ordering.TheVariants.{Less, Equal, Greater}
use Rattle.std.specs.Ordering.{eq_by_cmp, is_eq, is_lt, ordering_reverse}
use Rattle.std.specs.FinMap.{find, get, get-from_entries, is_sorted}
use Rattle.std.specs.FinMap.Entries.{below_all}
use Rattle.std.proofs.lemmas.Bool.{and_from, and_parts}
use Rattle.std.proofs.lemmas.List.Elements.{All-map, All-from_recursion, recursion_from_All}
use Rattle.hash_tree.specs.Entries.{key_cmp}
use Rattle.hash_tree.proofs.Maps.{total, less_is}
use Rattle.domain_table.specs.Rows.{IsMissing, Named, RowData, any_ripe, by_name, chain_pair, data_in, data_of, greater, is_ripe_row, lesser, put_row, put_rows, rows_in, table_of}
use Rattle.domain_table.proofs.Places.{get_row, is_greater, length_rows, split_at}
use Rattle.domain_table.proofs.RowLists.{less_than_row, none_waits}

-- ---- names that compare

self : (o : Ordering) → o ≡ ordering_reverse o → is_lt o ≡ false
self Less e = absurd cc
self Equal e = refl
self Greater e = refl

not_self : (name : List ℕ) → is_lt (key_cmp name name) ≡ false
not_self name = self (key_cmp name name) (total.antisymm name name)

not_less : (a b : List ℕ) → is_lt (key_cmp a b) ≡ true → is_lt (key_cmp b a) ≡ false
not_less a b less = ap is_lt (total.antisymm b a ∙ ap ordering_reverse (less_is (key_cmp a b) less))

-- ---- a row among others, whatever it says

-- with a row of this name, what is put together is a front, the row, and a back
record Parts (name : List ℕ) (put : RowData → List RowData) : Type 0 where
  front : List RowData
  back : List RowData
  splits : (r : RowData) → r.name ≡ name → put r ≡ front ++ r ∷ back

put_part : (x : RowData) (front back : List RowData) (name : List ℕ) → Parts name (λ r. put_row x (front ++ r ∷ back))
put_part x [] back name = at (is_lt (key_cmp x.name name)) refl where
  at : (b : Bool) → is_lt (key_cmp x.name name) ≡ b → Parts name (λ r. put_row x (r ∷ back))
  at true is = record {
    front = x ∷ [];
    back = back;
    splits = λ r same. ap (λ b. cond b (x ∷ r ∷ back) (r ∷ put_row x back)) (ap (λ k. is_lt (key_cmp x.name k)) same ∙ is);
  }
  at false is = record {
    front = [];
    back = put_row x back;
    splits = λ r same. ap (λ b. cond b (x ∷ r ∷ back) (r ∷ put_row x back)) (ap (λ k. is_lt (key_cmp x.name k)) same ∙ is);
  }
put_part x (s ∷ front) back name = at (put_part x front back name) (is_lt (key_cmp x.name s.name)) refl where
  at : Parts name (λ r. put_row x (front ++ r ∷ back)) → (b : Bool) → is_lt (key_cmp x.name s.name) ≡ b → Parts name (λ r. put_row x (s ∷ (front ++ r ∷ back)))
  at rest true is = record {
    front = x ∷ s ∷ front;
    back = back;
    splits = λ r same. ap (λ b. cond b (x ∷ s ∷ (front ++ r ∷ back)) (s ∷ put_row x (front ++ r ∷ back))) is;
  }
  at rest false is = record {
    front = s ∷ rest.front;
    back = rest.back;
    splits = λ r same. ap (λ b. cond b (x ∷ s ∷ (front ++ r ∷ back)) (s ∷ put_row x (front ++ r ∷ back))) is ∙ ap (λ rows. s ∷ rows) (rest.splits r same);
  }

put_parts : (xs front back : List RowData) (name : List ℕ) → Parts name (λ r. put_rows (front ++ r ∷ back) xs)
put_parts [] front back name = record { front = front; back = back; splits = λ r same. refl }
put_parts (x ∷ xs) front back name =
    let one = put_part x front back name in
    let rest = put_parts xs one.front one.back name in
    record {
      front = rest.front;
      back = rest.back;
      splits = λ r same. ap (λ rows. put_rows rows xs) (one.splits r same) ∙ rest.splits r same;
    }

put_among : (rows : List RowData) (name : List ℕ) → Parts name (λ r. put_row r rows)
put_among [] name = record { front = []; back = []; splits = λ r same. refl }
put_among (s ∷ rows) name = at (put_among rows name) (is_lt (key_cmp name s.name)) refl where
  at : Parts name (λ r. put_row r rows) → (b : Bool) → is_lt (key_cmp name s.name) ≡ b → Parts name (λ r. put_row r (s ∷ rows))
  at rest true is = record {
    front = [];
    back = s ∷ rows;
    splits = λ r same. ap (λ b. cond b (r ∷ s ∷ rows) (s ∷ put_row r rows)) (ap (λ k. is_lt (key_cmp k s.name)) same ∙ is);
  }
  at rest false is = record {
    front = s ∷ rest.front;
    back = rest.back;
    splits = λ r same. ap (λ b. cond b (r ∷ s ∷ rows) (s ∷ put_row r rows)) (ap (λ k. is_lt (key_cmp k s.name)) same ∙ is) ∙ ap (λ rows. s ∷ rows) (rest.splits r same);
  }

put_both : (rows xs ys : List RowData) → put_rows rows (xs ++ ys) ≡ put_rows (put_rows rows xs) ys
put_both rows [] ys = refl
put_both rows (x ∷ xs) ys = put_both (put_row x rows) xs ys

named_parts : (front back : List RowData) (name : List ℕ) → Parts name (λ r. by_name (front ++ r ∷ back))
named_parts front back name =
    let one = put_among (by_name front) name in
    let rest = put_parts back one.front one.back name in
    record {
      front = rest.front;
      back = rest.back;
      splits = λ r same. put_both [] front (r ∷ back) ∙ ap (λ rows. put_rows rows back) (one.splits r same) ∙ rest.splits r same;
    }

-- ---- rows whose names ascend

all_above : (name : List ℕ) (rows : List RowData) → below_all key_cmp name (map chain_pair rows) ≡ true → (lesser name rows ≡ []) × (greater name rows ≡ rows)
all_above name [] h = (refl, refl)
all_above name (r ∷ rows) h =
    let parts = and_parts (is_lt (key_cmp name r.name)) (below_all key_cmp name (map chain_pair rows)) h in
    let rest = all_above name rows parts.1 in (
      ap (λ b. cond b (r ∷ lesser name rows) (lesser name rows)) (not_less name r.name parts.0) ∙ rest.0,
      ap (λ b. cond b (r ∷ greater name rows) (greater name rows)) parts.0 ∙ ap (λ xs. r ∷ xs) rest.1,
    )

sorted_parts : (front : List RowData) (d : RowData) (back : List RowData) → IsTrue (is_sorted key_cmp (map chain_pair (front ++ d ∷ back)))
    → (lesser d.name (front ++ d ∷ back) ≡ front) × (greater d.name (front ++ d ∷ back) ≡ back)
sorted_parts [] d back rise =
    let above = all_above d.name back (and_parts (below_all key_cmp d.name (map chain_pair back)) (is_sorted key_cmp (map chain_pair back)) rise).0 in (
      ap (λ b. cond b (d ∷ lesser d.name back) (lesser d.name back)) (not_self d.name) ∙ above.0,
      ap (λ b. cond b (d ∷ greater d.name back) (greater d.name back)) (not_self d.name) ∙ above.1,
    )
sorted_parts (x ∷ front) d back rise =
    let parts = and_parts (below_all key_cmp x.name (map chain_pair (front ++ d ∷ back))) (is_sorted key_cmp (map chain_pair (front ++ d ∷ back))) rise in
    let less : is_lt (key_cmp x.name d.name) ≡ true = ap is_lt (less_than_row x.name front d back parts.0) in
    let rest = sorted_parts front d back parts.1 in (
      ap (λ b. cond b (x ∷ lesser d.name (front ++ d ∷ back)) (lesser d.name (front ++ d ∷ back))) less ∙ ap (λ xs. x ∷ xs) rest.0,
      ap (λ b. cond b (x ∷ greater d.name (front ++ d ∷ back)) (greater d.name (front ++ d ∷ back))) (not_less x.name d.name less) ∙ rest.1,
    )

-- what stands around a row of rows, and around another row of its name in its place
around : (xs : List RowData) (i : ℕ) (d r : RowData) → i < length xs → IsTrue (is_sorted key_cmp (map chain_pair (by_name xs))) → r.name ≡ (get_or xs i d).name
    → by_name (take i xs ++ r ∷ drop (i + 1) xs) ≡ lesser (get_or xs i d).name (by_name xs) ++ r ∷ greater (get_or xs i d).name (by_name xs)
around xs i d r l rise same =
    let x = get_or xs i d in
    let parts = named_parts (take i xs) (drop (i + 1) xs) x.name in
    let old : by_name xs ≡ parts.front ++ x ∷ parts.back = ap by_name (split_at xs i d l) ∙ parts.splits x refl in
    let both = sorted_parts parts.front x parts.back (subst (λ (rows : List RowData). IsTrue (is_sorted key_cmp (map chain_pair rows))) old rise) in
    parts.splits r same ∙ (λ k. sym (ap (lesser x.name) old ∙ both.0) k ++ r ∷ sym (ap (greater x.name) old ∙ both.1) k)

pub named_split : (xs : List RowData) (i : ℕ) (d : RowData) → i < length xs → IsTrue (is_sorted key_cmp (map chain_pair (by_name xs)))
    → by_name xs ≡ lesser (get_or xs i d).name (by_name xs) ++ get_or xs i d ∷ greater (get_or xs i d).name (by_name xs)
named_split xs i d l rise = ap by_name (split_at xs i d l) ∙ around xs i d (get_or xs i d) l rise refl

pub named_changed : (xs ys : List RowData) (i : ℕ) (d r : RowData) → i < length xs → IsTrue (is_sorted key_cmp (map chain_pair (by_name xs))) → r.name ≡ (get_or xs i d).name
    → ys ≡ take i xs ++ r ∷ drop (i + 1) xs → by_name ys ≡ lesser (get_or xs i d).name (by_name xs) ++ r ∷ greater (get_or xs i d).name (by_name xs)
named_changed xs ys i d r l rise same is = ap by_name is ∙ around xs i d r l rise same

-- ---- a row that comes in

-- a row that comes in among others, one by one
abbrev AreAround : RowData → List RowData → Type 0
AreAround r rows = (rows ≡ lesser r.name rows ++ greater r.name rows) × (put_row r rows ≡ lesser r.name rows ++ r ∷ greater r.name rows)

turned : (o : Ordering) → is_eq o ≡ false → is_eq (ordering_reverse o) ≡ false
turned Less e = refl
turned Equal e = absurd cc
turned Greater e = refl

other : (a b : List ℕ) → eq_by_cmp key_cmp b a ≡ false → eq_by_cmp key_cmp a b ≡ false
other a b e = ap is_eq (total.antisymm a b) ∙ turned (key_cmp b a) e

below_further : (a b : List ℕ) (xs : List RowData) → is_lt (key_cmp a b) ≡ true → below_all key_cmp b (map chain_pair xs) ≡ true → below_all key_cmp a (map chain_pair xs) ≡ true
below_further a b [] less below = refl
below_further a b (x ∷ xs) less below =
    let both = and_parts (is_lt (key_cmp b x.name)) (below_all key_cmp b (map chain_pair xs)) below in
    and_from (is_lt (key_cmp a x.name)) (below_all key_cmp a (map chain_pair xs))
    (ap is_lt (total.trans a b x.name (less_is (key_cmp a b) less) (less_is (key_cmp b x.name) both.0)))
    (below_further a b xs less both.1)

put_before : (r s : RowData) (rows : List RowData) → below_all key_cmp s.name (map chain_pair rows) ≡ true → eq_by_cmp key_cmp r.name s.name ≡ false → AreAround r rows → AreAround r (s ∷ rows)
put_before r s rows below apart rest = at (is_lt (key_cmp r.name s.name)) refl where
  at : (b : Bool) → is_lt (key_cmp r.name s.name) ≡ b → AreAround r (s ∷ rows)
  at true is =
      let above = all_above r.name (s ∷ rows) (and_from (is_lt (key_cmp r.name s.name)) (below_all key_cmp r.name (map chain_pair rows)) is (below_further r.name s.name rows is below)) in (
        (λ k. sym above.0 k ++ sym above.1 k),
        ap (λ b. cond b (r ∷ s ∷ rows) (s ∷ put_row r rows)) is ∙ (λ k. sym above.0 k ++ r ∷ sym above.1 k),
      )
  at false is =
      let less : is_lt (key_cmp s.name r.name) ≡ true = ap is_lt (is_greater s.name r.name is (other s.name r.name apart)) in
      let front : lesser r.name (s ∷ rows) ≡ s ∷ lesser r.name rows = ap (λ b. cond b (s ∷ lesser r.name rows) (lesser r.name rows)) less in
      let back : greater r.name (s ∷ rows) ≡ greater r.name rows = ap (λ b. cond b (s ∷ greater r.name rows) (greater r.name rows)) is in (
        ap (λ xs. s ∷ xs) rest.0 ∙ (λ k. sym front k ++ sym back k),
        ap (λ b. cond b (r ∷ s ∷ rows) (s ∷ put_row r rows)) is ∙ ap (λ xs. s ∷ xs) rest.1 ∙ (λ k. sym front k ++ r ∷ sym back k),
      )

put_between : (r : RowData) (rows : List RowData) → IsTrue (is_sorted key_cmp (map chain_pair rows)) → AllByRecursion (λ x. eq_by_cmp key_cmp r.name x.name ≡ false) rows
    → AreAround r rows
put_between r [] rise apart = (refl, refl)
put_between r (s ∷ rows) rise apart =
    let parts = and_parts (below_all key_cmp s.name (map chain_pair rows)) (is_sorted key_cmp (map chain_pair rows)) rise in
    put_before r s rows parts.0 apart.0 (put_between r rows parts.1 apart.1)

-- ---- what is the same in any order

all_put : (P : RowData → Type 0) (r : RowData) (rows : List RowData) → P r → AllByRecursion P rows → AllByRecursion P (put_row r rows)
all_put P r [] one all = (one, tt)
all_put P r (s ∷ rows) one all = at (all_put P r rows one all.1) (is_lt (key_cmp r.name s.name)) where
  at : AllByRecursion P (put_row r rows) → (b : Bool) → AllByRecursion P (cond b (r ∷ s ∷ rows) (s ∷ put_row r rows))
  at rest true = (one, all)
  at rest false = (all.0, rest)

all_put_rows : (P : RowData → Type 0) (rows xs : List RowData) → AllByRecursion P rows → AllByRecursion P xs → AllByRecursion P (put_rows rows xs)
all_put_rows P rows [] all each = all
all_put_rows P rows (x ∷ xs) all each = all_put_rows P (put_row x rows) xs (all_put P x rows each.0 all) each.1

pub all_named : (P : RowData → Type 0) (xs : List RowData) → All P xs → All P (by_name xs)
all_named P xs all = All-from_recursion P (by_name xs) (all_put_rows P [] xs tt (recursion_from_All P xs all))

all_taken : (P : RowData → Type 0) (r : RowData) (rows : List RowData) → AllByRecursion P (put_row r rows) → P r × AllByRecursion P rows
all_taken P r [] all = (all.0, tt)
all_taken P r (s ∷ rows) all = at (all_taken P r rows) (is_lt (key_cmp r.name s.name)) all where
  at : (AllByRecursion P (put_row r rows) → P r × AllByRecursion P rows) → (b : Bool) → AllByRecursion P (cond b (r ∷ s ∷ rows) (s ∷ put_row r rows)) → P r × AllByRecursion P (s ∷ rows)
  at rest true all = (all.0, all.1)
  at rest false all = ((rest all.1).0, (all.0, (rest all.1).1))

all_taken_rows : (P : RowData → Type 0) (rows xs : List RowData) → AllByRecursion P (put_rows rows xs) → AllByRecursion P rows × AllByRecursion P xs
all_taken_rows P rows [] all = (all, tt)
all_taken_rows P rows (x ∷ xs) all =
    let rest = all_taken_rows P (put_row x rows) xs all in
    let one = all_taken P x rows rest.0 in (one.1, (one.0, rest.1))

pub all_came : (P : RowData → Type 0) (xs : List RowData) → All P (by_name xs) → All P xs
all_came P xs all = All-from_recursion P xs (all_taken_rows P [] xs (recursion_from_All P (by_name xs) all)).1

-- what holds of all rows holds of the one at a place of the map
pub of_row : (P : RowData → Type 0) (es : List Named) → All P (data_in es) → (i : ℕ) (d : Named) → i < length es → P (data_of (get_or es i d))
of_row P es all i d l = subst P (get_row es i d (data_of d) l) (all_came P (rows_in es) all i (data_of d) (omega (arith, l, length_rows es)))

length_put : (r : RowData) (rows : List RowData) → length (put_row r rows) ≡ length rows + 1
length_put r [] = refl
length_put r (s ∷ rows) = at (length_put r rows) (is_lt (key_cmp r.name s.name)) where
  at : length (put_row r rows) ≡ length rows + 1 → (b : Bool) → length (cond b (r ∷ s ∷ rows) (s ∷ put_row r rows)) ≡ length (s ∷ rows) + 1
  at rest true = omega arith
  at rest false = omega (arith, rest)

length_put_rows : (rows xs : List RowData) → length (put_rows rows xs) ≡ length rows + length xs
length_put_rows rows [] = omega arith
length_put_rows rows (x ∷ xs) = omega (arith, length_put_rows (put_row x rows) xs, length_put x rows)

pub length_named : (xs : List RowData) → length (by_name xs) ≡ length xs
length_named xs = omega (arith, length_put_rows [] xs)

-- whether some row passes a test
any_put : (p : RowData → Bool) (r : RowData) (rows : List RowData) → list_any p (put_row r rows) ≡ (p r || list_any p rows)
any_put p r [] = refl
any_put p r (s ∷ rows) = at (any_put p r rows) (is_lt (key_cmp r.name s.name)) where
  swap : (a b c : Bool) → (a || (b || c)) ≡ (b || (a || c))
  swap true true c = refl
  swap true false c = refl
  swap false true c = refl
  swap false false c = refl

  at : list_any p (put_row r rows) ≡ (p r || list_any p rows) → (b : Bool) → list_any p (cond b (r ∷ s ∷ rows) (s ∷ put_row r rows)) ≡ (p r || list_any p (s ∷ rows))
  at rest true = refl
  at rest false = ap (λ b. p s || b) rest ∙ swap (p s) (p r) (list_any p rows)

any_put_rows : (p : RowData → Bool) (rows xs : List RowData) → list_any p (put_rows rows xs) ≡ (list_any p rows || list_any p xs)
any_put_rows p rows [] = sym (or_false (list_any p rows)) where
  or_false : (b : Bool) → (b || false) ≡ b
  or_false true = refl
  or_false false = refl
any_put_rows p rows (x ∷ xs) = any_put_rows p (put_row x rows) xs ∙ ap (λ b. b || list_any p xs) (any_put p x rows) ∙ swap (p x) (list_any p rows) (list_any p xs) where
  swap : (a b c : Bool) → ((a || b) || c) ≡ (b || (a || c))
  swap true true c = refl
  swap true false c = refl
  swap false true c = refl
  swap false false c = refl

pub any_named : (e : ℕ) (xs : List RowData) → any_ripe e (by_name xs) ≡ any_ripe e xs
any_named e xs = any_put_rows (is_ripe_row e) [] xs

-- ---- a row that comes in

pub named_come : (xs : List RowData) (r : RowData) → IsTrue (is_sorted key_cmp (map chain_pair (by_name xs))) → All (λ x. eq_by_cmp key_cmp r.name x.name ≡ false) xs
    → (by_name xs ≡ lesser r.name (by_name xs) ++ greater r.name (by_name xs)) × (by_name (xs ++ r ∷ []) ≡ lesser r.name (by_name xs) ++ r ∷ greater r.name (by_name xs))
named_come xs r rise apart =
    let none = all_put_rows (λ x. eq_by_cmp key_cmp r.name x.name ≡ false) [] xs tt (recursion_from_All (λ x. eq_by_cmp key_cmp r.name x.name ≡ false) xs apart) in
    let both = put_between r (by_name xs) rise none in (both.0, put_both [] xs (r ∷ []) ∙ both.1)

pub lesser_less : (rows : List RowData) (name : List ℕ) → AllByRecursion (λ f. key_cmp f.name name ≡ Less) (lesser name rows)
lesser_less [] name = tt
lesser_less (r ∷ rows) name = at (lesser_less rows name) (is_lt (key_cmp r.name name)) refl where
  at : AllByRecursion (λ f. key_cmp f.name name ≡ Less) (lesser name rows) → (b : Bool) → is_lt (key_cmp r.name name) ≡ b → AllByRecursion (λ f. key_cmp f.name name ≡ Less) (cond b (r ∷ lesser name rows) (lesser name rows))
  at rest true is = (less_is (key_cmp r.name name) is, rest)
  at rest false is = rest

pub greater_greater : (rows : List RowData) (name : List ℕ) → below_all key_cmp name (map chain_pair (greater name rows)) ≡ true
greater_greater [] name = refl
greater_greater (r ∷ rows) name = at (greater_greater rows name) (is_lt (key_cmp name r.name)) refl where
  at : below_all key_cmp name (map chain_pair (greater name rows)) ≡ true → (b : Bool) → is_lt (key_cmp name r.name) ≡ b → below_all key_cmp name (map chain_pair (cond b (r ∷ greater name rows) (greater name rows))) ≡ true
  at rest true is = and_from (is_lt (key_cmp name r.name)) (below_all key_cmp name (map chain_pair (greater name rows))) is rest
  at rest false is = rest

-- ---- a name that no row has

none_found : (name : List ℕ) (rows : List RowData) → AllByRecursion (λ x. eq_by_cmp key_cmp name x.name ≡ false) rows → find key_cmp name (map chain_pair rows) ≡ None
none_found name [] apart = refl
none_found name (r ∷ rows) apart = ap (λ b. cond b (Some r.chain) (find key_cmp name (map chain_pair rows))) apart.0 ∙ none_found name rows apart.1

-- it is apart from each
pub missing_rows : (es : List Named) (name : List ℕ) → IsMissing name es → All (λ x. eq_by_cmp key_cmp name x.name ≡ false) (rows_in es)
missing_rows es name apart = All-map (λ x. eq_by_cmp key_cmp name x.name ≡ false) data_of es apart

pub missing_found : (es : List Named) (name : List ℕ) → IsMissing name es → find key_cmp name (map chain_pair (data_in es)) ≡ None
missing_found es name apart =
    none_found name (data_in es) (recursion_from_All (λ x. eq_by_cmp key_cmp name x.name ≡ false) (data_in es) (all_named (λ x. eq_by_cmp key_cmp name x.name ≡ false) (rows_in es) (missing_rows es name apart)))

pub missing : (es : List Named) (name : List ℕ) → IsMissing name es → (get (table_of (data_in es)).chains name ≡ None) × (get (table_of (data_in es)).waiting name ≡ None)
missing es name apart =
    let none = missing_found es name apart in
    (get-from_entries total (map chain_pair (data_in es)) name ∙ none, get-from_entries total _ name ∙ none_waits name (data_in es) none)
