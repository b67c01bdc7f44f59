-- What a judgement tells of the change that it takes, and what is kept after it.
use Rattle.std.proofs.Common.{◌≡◌, ℕ, ◌+◌, ◌<◌, ◌≤◌, List, [], ◌∷◌, ◌++◌, map, length, get_or, take, drop, refl, sym, ap, ◌∙◌, subst, arith, Bool, true, false, cond, ◌&&◌, Option, Some, None, Vec, Global}
use Rattle.std.specs.Prelude.{IsTrue, All, unwrap_or, Result, Ok, Err, is_some, nat_le}
use Rattle.std.specs.FinMap.{get, find, insert, remove, empty, is_sorted, get-from_entries}
use Rattle.std.proofs.lemmas.Bool.{leb-false}
use Rattle.std.proofs.lemmas.List.Elements.{All-nil, All-append, All-cons, All-take, All-drop}
use Rattle.std.proofs.Math.Seq.{take-append_seam, drop-append_seam}
use Rattle.std.specs.Option.{option_len}
use Rattle.hash_tree.specs.Entries.{Entries, key_cmp}
use Rattle.hash_tree.proofs.Maps.{total}
use Rattle.cert_policy.specs.declared.refusal.PolicyRefusal.{PolicyRefusal}
use Rattle.cert_policy.specs.declared.refusal.PolicyRefusal.TheVariants.{NotPending}
use Rattle.cert_policy.specs.declared.manner.Manner.{Manner}
use Rattle.cert_policy.specs.declared.manner.Manner.TheVariants.{Full, Objected, Recovery}
use Rattle.cert_policy.specs.Clauses.{in_manner}
use Rattle.ar_cert.specs.Changes.{Change}
use Rattle.ar_cert.specs.Judging.{change_judgement}
use Rattle.domain_table.specs.declared.refusal.ChangeRefusal.{ChangeRefusal}
use Rattle.domain_table.specs.declared.refusal.ChangeRefusal.TheVariants as refusals
use Rattle.domain_table.specs.declared.row.Row.{Row}
use Rattle.domain_table.specs.Tables.{Pending, Table, chain_of, newest, size}
use Rattle.domain_table.specs.Applying.{judge, judge_ripe, manner_of, most_kept, ripen, taking_change, takes_a_place, with_room}
use Rattle.domain_table.specs.Tree.{tree_entries}
use Rattle.domain_table.specs.Rows.{Named, RowData, chain_pair, data_in, data_of, first_row, greater, lesser, rows_in, table_of, waiting_in, AreRows, IsMarked, IsMissing, IsChanged, IsChangedIn, IsCome, IsKept}
use Rattle.domain_table.proofs.RowLists.{came_chains, came_waiting, rise_came, places, places_split, size_rows, tree_rows, waiting_places, waiting_split}
use Rattle.domain_table.proofs.RipeRows.{size-ripen}
use Rattle.domain_table.proofs.Places.{length_rows, split_at}
use Rattle.domain_table.proofs.ByName.{greater_greater, lesser_less, missing}
use Rattle.domain_table.proofs.ChangedRow.{IsPlaced, changed_named, come_named, place_of, placed, waits_there}
use Rattle.domain_table.proofs.Changed.{are_changed, size_is, taken_full, taken_objected, taken_recovery, waiting_now}

-- ---- what is kept

pub kept_tree : (rows : List RowData) (trie : Entries) (kept waiting : ℕ) → IsKept rows trie kept waiting → trie ≡ tree_entries (table_of rows)
kept_tree rows trie kept waiting is = is.tree ∙ sym (tree_rows rows is.are)

pub kept_none : (es : List Named) (trie : Entries) → es ≡ [] → trie ≡ empty → IsKept (data_in es) trie 0 0
kept_none es trie none bare = subst (λ (xs : List Named). IsKept (data_in xs) trie 0 0) (sym none) (record {
  are = record { rise = refl; marked = All-nil IsMarked };
  tree = bare;
  count = sym (size_rows [] refl);
  most = omega arith;
  wait = refl;
})

-- ---- the judgement

pub judged_is : (rows : List RowData) (e kept : ℕ) (c : Change) → IsTrue (is_sorted key_cmp (map chain_pair rows)) → kept ≡ size (table_of rows)
    → with_room kept (manner_of (newest (chain_of (ripen (table_of rows) e) c.cert.name)) (get (ripen (table_of rows) e).waiting c.cert.name) c) ≡ judge (table_of rows) e c
unfolding judge_ripe
judged_is rows e kept c rise count =
    ap (λ n. with_room n (manner_of (newest (chain_of (ripen (table_of rows) e) c.cert.name)) (get (ripen (table_of rows) e).waiting c.cert.name) c)) (count ∙ sym (size-ripen rows e rise))

pub record MayTake (t : Table) (c : Change) (m : Manner) : Type 0 where
  pub manner : manner_of (newest (chain_of t c.cert.name)) (get t.waiting c.cert.name) c ≡ Ok m
  pub room : takes_a_place m ≡ true → size t < most_kept

pub may_take : (t : Table) (c : Change) (m : Manner) → judge_ripe t c ≡ Ok m → MayTake t c m
unfolding judge_ripe
may_take t c m judged = at (manner_of (newest (chain_of t c.cert.name)) (get t.waiting c.cert.name) c) refl judged where
  at : (o : Result Manner PolicyRefusal) → manner_of (newest (chain_of t c.cert.name)) (get t.waiting c.cert.name) c ≡ o → with_room (size t) o ≡ Ok m → MayTake t c m
  at (Err r) is e = absurd (cc)
  at (Ok n) is e = by (takes_a_place n && nat_le most_kept (size t)) refl e where
    by : (b : Bool) → (takes_a_place n && nat_le most_kept (size t)) ≡ b → cond {A = Result Manner ChangeRefusal} b (Err refusals.Full) (Ok n) ≡ Ok m → MayTake t c m
    by true w e = absurd (cc)
    by false w e =
        let same : n ≡ m = cc in
        record {
          manner = is ∙ ap Ok same;
          room = λ p.
              let no : nat_le most_kept (size t) ≡ false = ap (λ b. b && nat_le most_kept (size t)) (sym (ap takes_a_place same ∙ p)) ∙ w in
              leb-false most_kept (size t) no;
        }

-- a change that is taken where the name is absent is taken fully
pub first_full : (p : Option Pending) (c : Change) (m : Manner) → manner_of None p c ≡ Ok m → m ≡ Full
first_full p c m e = at (is_some c.objection) (change_judgement None c) e where
  at : (b : Bool) (o : Result (Unit {0}) PolicyRefusal) → cond {A = Result Manner PolicyRefusal} b (Err NotPending) (in_manner Full o) ≡ Ok m → m ≡ Full
  at true o e = absurd (cc)
  at false (Err r) e = absurd (cc)
  at false (Ok u) e = cc

-- ---- after a change behind others

-- what waits in a row is counted
pub row_counted : (old : List RowData) (before : Entries) (i : ℕ) (d : RowData) (kept waiting : ℕ) → IsKept old before kept waiting → i < length old → option_len (get_or old i d).waiting ≤ waiting
row_counted old before i d kept waiting is within =
    let row = ap waiting_in (split_at old i d within) ∙ waiting_split (take i old) (get_or old i d) (drop (i + 1) old) in
    let wait = is.wait in
    omega (arith, row, wait)

pub fewer_wait : (old : List RowData) (before : Entries) (kept waiting : ℕ) → IsKept old before kept waiting → waiting ≤ kept
fewer_wait old before kept waiting is =
    let size = size_rows old is.are.rise in
    let few = waiting_places old in
    let count = is.count in
    let wait = is.wait in
    omega (arith, size, few, count, wait)

-- the row has so many more changes than before, this many waited there and that many wait now
pub kept_after : (old new : List RowData) (before trie : Entries) (i : ℕ) (d : RowData) (chain : List Change) (waits : Option Pending) (kept waiting after still waited more : ℕ)
    → IsKept old before kept waiting → i < length old → IsChanged old new trie i (get_or old i d) chain waits → waited ≡ option_len (get_or old i d).waiting
    → length chain ≡ length (get_or old i d).chain + more → after + waited ≡ kept + (more + option_len waits) → still + waited ≡ waiting + option_len waits
    → kept + (more + option_len waits) ≤ most_kept → IsKept new trie after still
kept_after old new before trie i d chain waits kept waiting after still waited more is within changed had longer sum left most =
    let sizes = size_is old new trie i d chain waits within is.are changed in
    let now = waiting_now old new trie i d chain waits within is.are changed in
    let count = is.count in
    let wait = is.wait in
    record {
      are = are_changed old new trie i d chain waits within is.are changed;
      tree = changed.tree;
      count = omega (arith, sizes, count, sum, longer, had);
      most = omega (arith, sum, most);
      wait = omega (arith, now, wait, left, had);
    }

-- the same of a map
pub kept_in : (old new : List Named) (before trie : Entries) (i : ℕ) (d : RowData) (chain : RowData → List Change) (waits : Option Pending) (kept waiting after still waited more : ℕ)
    → IsKept (data_in old) before kept waiting → i < length old → IsChangedIn old new trie i (get_or (rows_in old) i d) (chain (get_or (rows_in old) i d)) waits → waited ≡ option_len (get_or (rows_in old) i d).waiting
    → ((r : RowData) → length (chain r) ≡ length r.chain + more) → after + waited ≡ kept + (more + option_len waits) → still + waited ≡ waiting + option_len waits
    → kept + (more + option_len waits) ≤ most_kept → IsKept (data_in new) trie after still
kept_in old new before trie i d chain waits kept waiting after still waited more is l changed had longer sum left most =
    let r : RowData = get_or (rows_in old) i d in
    let at : IsPlaced (data_in old) r = placed (rows_in old) i d (omega (arith, l, length_rows old)) is.are.rise in
    let p : ℕ = place_of r.name (data_in old) in
    kept_after (data_in old) (data_in new) before trie p r (chain (get_or (data_in old) p r)) waits kept waiting after still waited more is at.within
    (changed_named old new trie i d chain waits l is.are.rise changed) (had ∙ ap (λ (x : RowData). option_len x.waiting) (sym at.same))
    (longer (get_or (data_in old) p r)) sum left most

-- what waits in a row of a map is counted
pub counted_in : (old : List Named) (before : Entries) (i : ℕ) (row : Row) (n kept waiting : ℕ) → IsKept (data_in old) before kept waiting → i < length old
    → ((d : Named) → row ≡ (get_or old i d).1) → ((name : Vec ℕ Global) → n ≡ option_len (data_of (name, row)).waiting) → n ≤ waiting
counted_in [] before i row n kept waiting is l at counts = absurd (omega (arith, l))
counted_in (x ∷ old) before i row n kept waiting is l at counts =
    let r : RowData = get_or (rows_in (x ∷ old)) i (data_of x) in
    let here : IsPlaced (data_in (x ∷ old)) r = placed (rows_in (x ∷ old)) i (data_of x) (omega (arith, l, length_rows (x ∷ old))) is.are.rise in
    let most : option_len r.waiting ≤ waiting = subst (λ (y : RowData). option_len y.waiting ≤ waiting) here.same (row_counted (data_in (x ∷ old)) before (place_of r.name (data_in (x ∷ old))) r kept waiting is here.within) in
    let those : n ≡ option_len r.waiting = waits_there (x ∷ old) i row n (data_of x) l at counts in
    omega (arith, most, those)

-- ---- the table after a change behind others

module _ (old new : List Named) (trie : Entries) (i : ℕ) (d : RowData) (epoch : ℕ) (change : Change) (l : i < length old) (are : AreRows (data_in old)) (name : (get_or (rows_in old) i d).name ≡ change.cert.name) where
  abbrev here : RowData
  here = get_or (rows_in old) i d

  at : IsPlaced (data_in old) here
  at = placed (rows_in old) i d (omega (arith, l, length_rows old)) are.rise

  own : (get_or (data_in old) (place_of here.name (data_in old)) here).name ≡ change.cert.name
  own = ap (λ (x : RowData). x.name) at.same ∙ name

  pub full_in : IsChangedIn old new trie i here (here.chain ++ change ∷ []) None → table_of (data_in new) ≡ taking_change (table_of (data_in old)) epoch change Full
  full_in is =
      taken_full (data_in old) (data_in new) trie (place_of here.name (data_in old)) here epoch change at.within are own
      (changed_named old new trie i d (λ r. r.chain ++ change ∷ []) None l are.rise is)

  pub recovery_in : IsChangedIn old new trie i here here.chain (Some (record { change = change; since = epoch })) → table_of (data_in new) ≡ taking_change (table_of (data_in old)) epoch change Recovery
  recovery_in is =
      taken_recovery (data_in old) (data_in new) trie (place_of here.name (data_in old)) here epoch change at.within are own
      (changed_named old new trie i d (λ r. r.chain) (Some (record { change = change; since = epoch })) l are.rise is)

  pub objected_in : IsChangedIn old new trie i here here.chain None → table_of (data_in new) ≡ taking_change (table_of (data_in old)) epoch change Objected
  objected_in is =
      taken_objected (data_in old) (data_in new) trie (place_of here.name (data_in old)) here epoch change at.within are own
      (changed_named old new trie i d (λ r. r.chain) None l are.rise is)

-- ---- after the first change of a name

module _ (old new : List Named) (before trie : Entries) (kept waiting : ℕ) (change : Change) (is : IsKept (data_in old) before kept waiting) (come : IsCome old new trie change)
    (none : IsMissing change.cert.name old) where
  abbrev row : RowData
  row = first_row change.cert.name change come.marks

  abbrev front : List RowData
  front = lesser change.cert.name (data_in old)

  abbrev back : List RowData
  back = greater change.cert.name (data_in old)

  parts : data_in old ≡ front ++ back
  parts = (come_named old new trie change come is.are.rise none).0

  now : data_in new ≡ front ++ row ∷ back
  now = (come_named old new trie change come is.are.rise none).1

  absent : find key_cmp change.cert.name (map chain_pair (front ++ back)) ≡ None
  absent =
      ap (λ xs. find key_cmp change.cert.name (map chain_pair xs)) (sym parts)
      ∙ sym (get-from_entries total (map chain_pair (data_in old)) change.cert.name) ∙ (missing old change.cert.name none).0

  new_rise : IsTrue (is_sorted key_cmp (map chain_pair (data_in new)))
  new_rise =
      subst (λ (xs : List RowData). IsTrue (is_sorted key_cmp (map chain_pair xs))) (sym now)
      (rise_came front row back (subst (λ (xs : List RowData). IsTrue (is_sorted key_cmp (map chain_pair xs))) parts is.are.rise)
      (lesser_less (data_in old) change.cert.name) (greater_greater (data_in old) change.cert.name))

  all_marked : All IsMarked (front ++ back)
  all_marked = subst (All IsMarked) parts is.are.marked

  front_marked : All IsMarked front
  front_marked = subst (All IsMarked) (take-append_seam front back) (All-take IsMarked (length front) (front ++ back) all_marked)

  back_marked : All IsMarked back
  back_marked = subst (All IsMarked) (drop-append_seam front back) (All-drop IsMarked (length front) (front ++ back) all_marked)

  pub kept_come : kept < most_kept → IsKept (data_in new) trie (kept + 1) waiting
  kept_come room =
      let earlier = size_rows (data_in old) is.are.rise in
      let later = size_rows (data_in new) new_rise in
      let one = ap places parts in
      let two = ap places now ∙ places_split front row back in
      let count = is.count in
      let wait = is.wait in
      let free = ap waiting_in now ∙ waiting_split front row back in
      let all = ap waiting_in parts in
      record {
        are = record {
          rise = new_rise;
          marked = subst (All IsMarked) (sym now)
              (All-append IsMarked front (row ∷ back) front_marked (All-cons IsMarked row back come.is_marked back_marked));
        };
        tree = come.tree;
        count = omega (arith, earlier, later, one, two, count);
        most = omega (arith, room);
        wait = omega (arith, wait, free, all);
      }

  pub taken_come : (epoch : ℕ) → table_of (data_in new) ≡ taking_change (table_of (data_in old)) epoch change Full
  unfolding taking_change
  taken_come epoch =
      let bare : chain_of (table_of (data_in old)) change.cert.name ≡ [] = ap (λ o. unwrap_or o []) (missing old change.cert.name none).0 in
      let chains : (table_of (data_in new)).chains ≡ insert (table_of (data_in old)).chains change.cert.name (chain_of (table_of (data_in old)) change.cert.name ++ change ∷ []) =
      ap (λ xs. (table_of xs).chains) now ∙ came_chains front row back absent
      ∙ ap (λ xs. insert (table_of xs).chains change.cert.name (change ∷ [])) (sym parts)
      ∙ ap (λ xs. insert (table_of (data_in old)).chains change.cert.name (xs ++ change ∷ [])) (sym bare) in
      let waits : (table_of (data_in new)).waiting ≡ remove (table_of (data_in old)).waiting change.cert.name =
      ap (λ xs. (table_of xs).waiting) now ∙ came_waiting front row back absent refl
      ∙ ap (λ xs. remove (table_of xs).waiting change.cert.name) (sym parts) in
      λ j. record { chains = chains j; waiting = waits j }

  pub come_full : (m : Manner) → MayTake (table_of (data_in old)) change m → m ≡ Full
  come_full m may =
      let free = missing old change.cert.name none in
      first_full None change m ((λ j. manner_of (newest (unwrap_or (sym free.0 j) [])) (sym free.1 j) change) ∙ may.manner)
