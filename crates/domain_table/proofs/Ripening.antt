-- Rows that ripen one by one.
use Rattle.std.proofs.Common.{◌≡◌, ℕ, zero, suc, ◌+◌, ◌<◌, ◌≤◌, List, [], ◌∷◌, ◌++◌, map, length, get_or, take, drop, refl, sym, ap, ◌∙◌, arith, length-append, Bool, true, false, cond, ◌||◌, Some, None, Vec, Global}
use Rattle.std.proofs.Math.Numerals.{suc-eq-add-one}
use Rattle.std.specs.Prelude.{IsTrue, Result, Ok, option_and_then}
use Rattle.std.specs.List.{filter_map, cons_option, list_any}
use Rattle.std.specs.Map.{values_of}
use Rattle.std.specs.Option.{option_len, option_map}
use Rattle.std.specs.FinMap.{is_sorted, from_entries}
use Rattle.hash_tree.specs.Entries.{Entries, key_cmp}
use Rattle.cert_policy.specs.declared.manner.Manner.{Manner}
use Rattle.ar_cert.specs.Changes.{Change}
use Rattle.domain_table.specs.declared.refusal.ChangeRefusal.{ChangeRefusal}
use Rattle.domain_table.specs.declared.row.Row.{Row}
use Rattle.domain_table.specs.Tables.{Pending, Table, newest, size}
use Rattle.domain_table.specs.Applying.{after_answer, is_ripe_behind, apply, apply_each, change_list, judge, judge_ripe, ripen, taking_change}
use Rattle.domain_table.specs.Rows.{Named, RowData, any_ripe, chain_pair, data_of, pending_of, pending_pair, is_ripe_row, marked, marks_of, rows_in, table_of, waiting_in, with_row, AreRows, IsChanged, IsChangedIn, IsKept, IsRipeUpTo, data_in}
use Rattle.domain_table.proofs.ByName.{any_named, length_named}
use Rattle.domain_table.proofs.Places.{get_row, length_rows, split_at}
use Rattle.domain_table.proofs.Once.{nothing_waits}
use Rattle.domain_table.proofs.RipeRows.{ripe_data, ripe_table, size-ripen}
use Rattle.domain_table.proofs.Changed.{are_changed, waiting_now}
use Rattle.domain_table.proofs.ChangedRow.{changed_named, place_of, placed}

-- rows in which nothing is ripe are as they are at the epoch
unripe : (e : ℕ) (r : RowData) → is_ripe_row e r ≡ false → ripe_data e r ≡ r
unripe e r is = λ j. record {
  name = r.name;
  chain = cond (is j) (r.chain ++ change_list r.waiting) r.chain;
  waiting = cond (is j) None r.waiting;
  marks = r.marks;
}

no_ripe : (e : ℕ) (rows : List RowData) → any_ripe e rows ≡ false → map (ripe_data e) rows ≡ rows
no_ripe e [] none = refl
no_ripe e (r ∷ rows) none = at (is_ripe_row e r) refl none (no_ripe e rows) where
  at : (b : Bool) → is_ripe_row e r ≡ b → (b || any_ripe e rows) ≡ false → (any_ripe e rows ≡ false → map (ripe_data e) rows ≡ rows) → ripe_data e r ∷ map (ripe_data e) rows ≡ r ∷ rows
  at true is none rest = absurd (cc)
  at false is none rest = λ j. unripe e r is j ∷ rest none j

pub unripe_table : (rows : List RowData) (e : ℕ) → IsTrue (is_sorted key_cmp (map chain_pair rows)) → any_ripe e rows ≡ false → ripen (table_of rows) e ≡ table_of rows
unripe_table rows e rise none = sym (ripe_table rows e rise) ∙ ap table_of (no_ripe e rows none)

-- one more row that isn't ripe
done_step : (e : ℕ) (old : List RowData) (i : ℕ) (other : RowData) (back : List RowData) → i ≤ length old → any_ripe e (take i old) ≡ false → is_ripe_row e other ≡ false
    → any_ripe e (take (suc i) (take i old ++ other ∷ back)) ≡ false
done_step e old zero other back l done is = ap (λ b. b || false) is
done_step e [] (suc i) other back l done is = absurd (omega (arith, l))
done_step e (r ∷ old) (suc i) other back l done is = at (is_ripe_row e r) done (done_step e old i other back (omega (arith, l))) where
  at : (b : Bool) → (b || any_ripe e (take i old)) ≡ false
      → (any_ripe e (take i old) ≡ false → is_ripe_row e other ≡ false → any_ripe e (take (suc i) (take i old ++ other ∷ back)) ≡ false)
      → (b || any_ripe e (take (suc i) (take i old ++ other ∷ back))) ≡ false
  at true done rest = absurd (cc)
  at false done rest = rest done is

-- rows that say the same at an epoch ripen to the same table
alike : (e : ℕ) (front : List RowData) (r other : RowData) (back : List RowData) → chain_pair (ripe_data e other) ≡ chain_pair (ripe_data e r)
    → pending_pair (ripe_data e other) ≡ pending_pair (ripe_data e r) → table_of (map (ripe_data e) (front ++ other ∷ back)) ≡ table_of (map (ripe_data e) (front ++ r ∷ back))
alike e front r other back chain waiting = λ j. record { chains = from_entries (chains front j); waiting = from_entries (waits front j) } where
  chains : (fs : List RowData) → map chain_pair (map (ripe_data e) (fs ++ other ∷ back)) ≡ map chain_pair (map (ripe_data e) (fs ++ r ∷ back))
  chains [] = ap (λ p. p ∷ map chain_pair (map (ripe_data e) back)) chain
  chains (f ∷ fs) = ap (λ ps. chain_pair (ripe_data e f) ∷ ps) (chains fs)

  waits : (fs : List RowData) → filter_map pending_pair (map (ripe_data e) (fs ++ other ∷ back)) ≡ filter_map pending_pair (map (ripe_data e) (fs ++ r ∷ back))
  waits [] = ap (λ o. cons_option o (filter_map pending_pair (map (ripe_data e) back))) waiting
  waits (f ∷ fs) = ap (cons_option (pending_pair (ripe_data e f))) (waits fs)

-- what a map has at a place
pub at_place : (es : List Named) (i : ℕ) (r : Row) → i < length es → ((d : Named) → r ≡ (get_or es i d).1) → (name : Vec ℕ Global) × ((e : RowData) → get_or (rows_in es) i e ≡ data_of (name, r))
at_place [] i r l is = absurd (omega (arith, l))
at_place (x ∷ es) i r l is = ((get_or (x ∷ es) i x).0, λ e. get_row (x ∷ es) i x e l ∙ (λ k. data_of ((get_or (x ∷ es) i x).0, sym (is x) k)))

-- the row at the place isn't ripe
pub not_ripe_here : (e : ℕ) (first : List RowData) (es : List Named) (trie : Entries) (waiting i : ℕ) (d : RowData) → i < length es → is_ripe_row e (get_or (rows_in es) i d) ≡ false
    → IsRipeUpTo e first es trie waiting i → IsRipeUpTo e first es trie waiting (i + 1)
not_ripe_here e first es trie waiting i d l is up =
    let rows = rows_in es in
    let within : i < length rows = omega (arith, l, length_rows es) in
    let parts = split_at rows i d within in
    let done : any_ripe e (take (suc i) rows) ≡ false = ap (λ xs. any_ripe e (take (suc i) xs)) parts ∙ done_step e rows i (get_or rows i d) (drop (i + 1) rows) (omega (arith, within)) up.done is in
    record { are = up.are; tree = up.tree; count = up.count; wait = up.wait; done = ap (λ n. any_ripe e (take n rows)) (sym (suc-eq-add-one i)) ∙ done; same = up.same }

-- where a row was ripe and what waited was appended, one change less waits and the table ripens to the same
record Ripened (e : ℕ) (old new : List RowData) : Type 0 where
  are : AreRows new
  same : ripen (table_of new) e ≡ ripen (table_of old) e
  fewer : waiting_in new + 1 ≡ waiting_in old
  count : length new ≡ length old

-- what was ripe at a place in the order of names was appended
ripened_named : (e : ℕ) (old new : List RowData) (trie : Entries) (i : ℕ) (d : RowData) (p : Pending) → i < length old → is_ripe_row e (get_or old i d) ≡ true
    → (get_or old i d).waiting ≡ Some p → AreRows old → IsChanged old new trie i (get_or old i d) ((get_or old i d).chain ++ p.change ∷ []) None → Ripened e old new
ripened_named e old new trie i d p l ripe waits all changed =
    let r : RowData = get_or old i d in
    let chain : List Change = r.chain ++ p.change ∷ [] in
    let other : RowData = with_row r chain None changed.marks in
    let not_ripe : is_ripe_row e other ≡ false = nothing_waits e (newest chain) in
    let parts = split_at old i d l in
    let are = are_changed old new trie i d chain None l all changed in
    let chains : chain_pair (ripe_data e other) ≡ chain_pair (ripe_data e r) =
    (λ j. (r.name, cond (not_ripe j) (chain ++ change_list None) chain)) ∙ (λ j. (r.name, cond (sym ripe j) (r.chain ++ change_list (sym waits j)) r.chain)) in
    let pendings : pending_pair (ripe_data e other) ≡ pending_pair (ripe_data e r) =
    (λ j. option_map (λ q. (r.name, q)) (cond (not_ripe j) None None)) ∙ (λ j. option_map (λ q. (r.name, q)) (cond (sym ripe j) None r.waiting)) in
    let still = waiting_now old new trie i d chain None l all changed in
    let one : option_len r.waiting ≡ 1 = ap option_len waits in
    record {
      are = are;
      same = sym (ripe_table new e are.rise) ∙ ap (λ xs. table_of (map (ripe_data e) xs)) changed.rows ∙ alike e (take i old) r other (drop (i + 1) old) chains pendings
          ∙ ap (λ xs. table_of (map (ripe_data e) xs)) (sym parts) ∙ ripe_table old e all.rise;
      fewer = omega (arith, still, one);
      count = ap length changed.rows ∙ length-append (take i old) (other ∷ drop (i + 1) old) ∙ sym (length-append (take i old) (r ∷ drop (i + 1) old)) ∙ ap length (sym parts);
    }

-- what was ripe at a place of the map was appended
ripened_there : (e : ℕ) (old new : List Named) (trie : Entries) (i : ℕ) (d : RowData) (p : Pending) → i < length old → is_ripe_row e (get_or (rows_in old) i d) ≡ true
    → (get_or (rows_in old) i d).waiting ≡ Some p → AreRows (data_in old) → IsChangedIn old new trie i (get_or (rows_in old) i d) ((get_or (rows_in old) i d).chain ++ p.change ∷ []) None
    → Ripened e (data_in old) (data_in new)
ripened_there e old new trie i d p l ripe waits are changed =
    let r : RowData = get_or (rows_in old) i d in
    let within : i < length (rows_in old) = omega (arith, l, length_rows old) in
    let place = placed (rows_in old) i d within are.rise in
    let same : get_or (data_in old) (place_of r.name (data_in old)) r ≡ r = place.same in
    ripened_named e (data_in old) (data_in new) trie (place_of r.name (data_in old)) r p place.within (ap (is_ripe_row e) same ∙ ripe) (ap (λ (x : RowData). x.waiting) same ∙ waits) are
    (changed_named old new trie i d (λ x. x.chain ++ p.change ∷ []) None l are.rise changed)

pub one_fewer : (e : ℕ) (old new : List Named) (trie : Entries) (i : ℕ) (d : RowData) (p : Pending) → i < length old → is_ripe_row e (get_or (rows_in old) i d) ≡ true
    → (get_or (rows_in old) i d).waiting ≡ Some p → AreRows (data_in old) → IsChangedIn old new trie i (get_or (rows_in old) i d) ((get_or (rows_in old) i d).chain ++ p.change ∷ []) None
    → 1 ≤ waiting_in (data_in old)
one_fewer e old new trie i d p l ripe waits are changed =
    let there = ripened_there e old new trie i d p l ripe waits are changed in
    let fewer = there.fewer in
    omega (arith, fewer)

pub ripened_here : (e : ℕ) (first : List RowData) (old new : List Named) (before trie : Entries) (waiting still i : ℕ) (d : RowData) (p : Pending) → i < length old
    → is_ripe_row e (get_or (rows_in old) i d) ≡ true → (get_or (rows_in old) i d).waiting ≡ Some p
    → IsChangedIn old new trie i (get_or (rows_in old) i d) ((get_or (rows_in old) i d).chain ++ p.change ∷ []) None → still + 1 ≡ waiting
    → IsRipeUpTo e first old before waiting i → IsRipeUpTo e first new trie still (i + 1)
ripened_here e first old new before trie waiting still i d p l ripe waits changed less up =
    let rows = rows_in old in
    let r : RowData = get_or rows i d in
    let chain : List Change = r.chain ++ p.change ∷ [] in
    let other : RowData = with_row r chain None changed.marks in
    let within : i < length rows = omega (arith, l, length_rows old) in
    let there = ripened_there e old new trie i d p l ripe waits up.are changed in
    let done : any_ripe e (take (suc i) (rows_in new)) ≡ false =
    ap (λ xs. any_ripe e (take (suc i) xs)) changed.rows ∙ done_step e rows i other (drop (i + 1) rows) (omega (arith, within)) up.done (nothing_waits e (newest chain)) in
    let fewer = there.fewer in
    let was = up.wait in
    let count = there.count in
    let before_all = length_named (rows_in old) in
    let after_all = length_named (rows_in new) in
    let olds = length_rows old in
    let news = length_rows new in
    let so_many = up.count in
    record {
      are = there.are;
      tree = changed.tree;
      count = omega (arith, count, before_all, after_all, olds, news, so_many);
      wait = omega (arith, fewer, was, less);
      done = ap (λ n. any_ripe e (take n (rows_in new))) (sym (suc-eq-add-one i)) ∙ done;
      same = there.same ∙ up.same;
    }

-- rows of which none is ripe up to their end
all_done : (e : ℕ) (rows : List RowData) (i : ℕ) → length rows ≤ i → any_ripe e (take i rows) ≡ false → any_ripe e rows ≡ false
all_done e [] i l done = refl
all_done e (r ∷ rows) zero l done = absurd (omega (arith, l))
all_done e (r ∷ rows) (suc i) l done = at (is_ripe_row e r) done (all_done e rows i (omega (arith, l))) where
  at : (b : Bool) → (b || any_ripe e (take i rows)) ≡ false → (any_ripe e (take i rows) ≡ false → any_ripe e rows ≡ false) → (b || any_ripe e rows) ≡ false
  at true done rest = absurd (cc)
  at false done rest = rest done

pub ripened_all : (e : ℕ) (first : List RowData) (es : List Named) (trie : Entries) (waiting i : ℕ) → length es ≤ i → IsRipeUpTo e first es trie waiting i
    → table_of (data_in es) ≡ ripen (table_of first) e
ripened_all e first es trie waiting i l up =
    let all : length (rows_in es) ≤ i = omega (arith, l, length_rows es) in
    sym (unripe_table (data_in es) e up.are.rise (any_named e (rows_in es) ∙ all_done e (rows_in es) i all up.done)) ∙ up.same

pub ripe_at_first : (e : ℕ) (es : List Named) (trie : Entries) (waiting : ℕ) → AreRows (data_in es) → trie ≡ from_entries (marked (marks_of (data_in es))) → waiting ≡ waiting_in (data_in es)
    → IsRipeUpTo e (data_in es) es trie waiting 0
ripe_at_first e es trie waiting are tree wait = record { are = are; tree = tree; count = sym (length_named (rows_in es) ∙ length_rows es); wait = wait; done = refl; same = refl }

-- ---- the rows of a map without their names

-- whether what waits in some row is ripe
abbrev pub ripe_in : ℕ → List Row → Bool
ripe_in e rows = list_any (λ r. is_ripe_behind e (newest r.chain.items) (option_map pending_of r.waiting)) rows

pub ripe_in_all : (e : ℕ) (es : List Named) → ripe_in e (values_of es) ≡ any_ripe e (data_in es)
ripe_in_all e es = at es ∙ sym (any_named e (rows_in es)) where
  at : (fs : List Named) → ripe_in e (values_of fs) ≡ any_ripe e (rows_in fs)
  at [] = refl
  at (f ∷ fs) = ap (λ b. is_ripe_row e (data_of f) || b) (at fs)

-- ---- the table that rows are

-- nothing is ripe in the rows of a table
pub unripe_view : (es : List Named) (t : Table) (e : ℕ) → AreRows (data_in es) → table_of (data_in es) ≡ t → any_ripe e (data_in es) ≡ false → ripen t e ≡ t
unripe_view es t e are view none = ap (λ s. ripen s e) (sym view) ∙ unripe_table (data_in es) e are.rise none ∙ view

-- what is kept of rows that were copied and have ripened
pub kept_ripe : (rows copies new : List RowData) (before trie : Entries) (kept waiting still e : ℕ) → IsKept rows before kept waiting → copies ≡ rows → AreRows new → trie ≡ from_entries (marked (marks_of new))
    → table_of new ≡ ripen (table_of copies) e → still ≡ waiting_in new → IsKept new trie kept still
kept_ripe rows copies new before trie kept waiting still e is same are tree ripe left = record {
  are = are;
  tree = tree;
  count = is.count ∙ sym (ap size (ripe ∙ ap (λ xs. ripen (table_of xs) e) same) ∙ size-ripen rows e is.are.rise);
  most = is.most;
  wait = left;
}

-- ---- one change

pub apply_one : (t : Table) (e : ℕ) (c : Change) (m : Manner) → judge_ripe (ripen t e) c ≡ Ok m → apply t e (c ∷ []) ≡ Some (taking_change (ripen t e) e c m)
unfolding apply_each
apply_one t e c m judged = ap (λ o. option_and_then (λ s. apply_each s e []) (after_answer (ripen t e) e c o)) judged

pub judged_view : (t view : Table) (e : ℕ) (c : Change) (m : Manner) (answer : Result Manner ChangeRefusal) → view ≡ t → answer ≡ judge view e c → answer ≡ Ok m → judge_ripe (ripen t e) c ≡ Ok m
judged_view t view e c m answer same judged is = ap (λ s. judge_ripe (ripen s e) c) (sym same) ∙ sym judged ∙ is
