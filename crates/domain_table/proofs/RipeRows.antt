-- Rows at an epoch are the table that has ripened, and have as many changes as before.
use Rattle.std.proofs.Common.{◌≡◌, ℕ, ◌+◌, ◌<◌, List, [], ◌∷◌, ◌++◌, map, length, get_or, take, drop, refl, sym, ap, ◌∙◌, subst, arith, Bool, true, false, cond, ◌&&◌, length-append, Option, Some, None}
use Rattle.std.specs.Prelude.{IsTrue, All, unwrap_or, if◌then◌else◌}
use Rattle.std.specs.List.{filter_map, cons_option, AllByRecursion}
use Rattle.std.specs.Option.{option_len, option_map, option_or}
use Rattle.std.specs.Ordering.{eq_by_cmp, is_lt}
use Rattle.std.specs.FinMap.Entries.{below_all}
use Rattle.std.specs.FinMap.{get, find, is_sorted, same_map, get-from_entries}
use Rattle.std.proofs.lemmas.List.Elements.{recursion_from_All}
use Rattle.hash_tree.specs.Entries.{key_cmp}
use Rattle.hash_tree.proofs.Maps.{total, exact}
use Rattle.hash_tree.proofs.Changed.{same_key, own_key}
use Rattle.domain_table.specs.Tables.{Pending, Table, chain_of, newest, size}
use Rattle.domain_table.specs.Applying.{is_ripe, is_ripe_behind, ripened, change_list, ripen}
use Rattle.domain_table.specs.Rows.{RowData, chain_pair, pending_pair, table_of, is_ripe_row, newest_at, pending_at}
use Rattle.domain_table.proofs.Maps.{get-ripen, waiting-ripen}
use Rattle.domain_table.proofs.RowLists.{split_map, between, Between, none_waits, waits_at, places, size_rows}
use Rattle.domain_table.proofs.Places.{split_at}
use Rattle.domain_table.proofs.Newest.{newest-push}
use Rattle.ar_cert.specs.Certificate.{Certificate}
use Rattle.ar_base.proofs.Shown.{or_none}

-- what stands under the name of a row
pub record Stands (t : Table) (r : RowData) : Type 0 where
  pub chain : get t.chains r.name ≡ Some r.chain
  pub waits : get t.waiting r.name ≡ r.waiting

pub stands_between : (front : List RowData) (r : RowData) (back : List RowData) → IsTrue (is_sorted key_cmp (map chain_pair (front ++ r ∷ back))) → Stands (table_of (front ++ r ∷ back)) r
stands_between front r back rise =
    let parts : Between front r back = between front r back rise in
    record {
      chain = get-from_entries total (map chain_pair (front ++ r ∷ back)) r.name ∙ split_map chain_pair front r back r.name
          ∙ (λ i. option_or (parts.before i) (cond (own_key r.name i) (Some r.chain) (find key_cmp r.name (map chain_pair back))));
      waits = get-from_entries total (filter_map pending_pair (front ++ r ∷ back)) r.name ∙ waits_at front r back r.name
          ∙ (λ i. option_or (none_waits r.name front parts.before i) (option_or (cond (own_key r.name i) r.waiting None) (none_waits r.name back parts.behind i)))
          ∙ or_none r.waiting;
    }

pub stands : (rows : List RowData) → IsTrue (is_sorted key_cmp (map chain_pair rows)) → All (Stands (table_of rows)) rows
stands rows rise k d l =
    let parts = split_at rows k d l in
    subst (λ (xs : List RowData). Stands (table_of xs) (get_or rows k d)) (sym parts)
    (stands_between (take k rows) (get_or rows k d) (drop (k + 1) rows) (subst (λ (xs : List RowData). IsTrue (is_sorted key_cmp (map chain_pair xs))) parts rise))

-- so a name is ripe where its row is
pub ripe_row : (t : Table) (e : ℕ) (r : RowData) → Stands t r → is_ripe t e r.name ≡ is_ripe_row e r
ripe_row t e r is = λ i. is_ripe_behind e (newest (unwrap_or (is.chain i) [])) (is.waits i)

-- a row at an epoch
abbrev pub ripe_data : ℕ → RowData → RowData
ripe_data e r = record {
  name = r.name;
  chain = if is_ripe_row e r then r.chain ++ change_list r.waiting else r.chain;
  waiting = if is_ripe_row e r then None else r.waiting;
  marks = r.marks;
}

ripe_chains : (t : Table) (e : ℕ) (rows : List RowData) → AllByRecursion (Stands t) rows → (q : List ℕ)
    → find key_cmp q (map chain_pair (map (ripe_data e) rows)) ≡ option_map (ripened t e q) (find key_cmp q (map chain_pair rows))
ripe_chains t e [] all q = refl
ripe_chains t e (r ∷ rows) all q = at (eq_by_cmp key_cmp q r.name) refl (ripe_chains t e rows all.1 q) where
  at : (b : Bool) → eq_by_cmp key_cmp q r.name ≡ b → find key_cmp q (map chain_pair (map (ripe_data e) rows)) ≡ option_map (ripened t e q) (find key_cmp q (map chain_pair rows))
      → cond b (Some (ripe_data e r).chain) (find key_cmp q (map chain_pair (map (ripe_data e) rows))) ≡ option_map (ripened t e q) (cond b (Some r.chain) (find key_cmp q (map chain_pair rows)))
  at true tied rest =
      let same : r.name ≡ q = sym (same_key q r.name tied) in
      let ripe : is_ripe_row e r ≡ is_ripe t e q = sym (ripe_row t e r all.0) ∙ ap (is_ripe t e) same in
      let waits : r.waiting ≡ get t.waiting q = sym all.0.waits ∙ ap (get t.waiting) same in
      λ i. Some (cond (ripe i) (r.chain ++ change_list (waits i)) r.chain)
  at false apart rest = rest

ripe_waits : (t : Table) (e : ℕ) (rows : List RowData) → AllByRecursion (Stands t) rows → (q : List ℕ)
    → find key_cmp q (filter_map pending_pair (map (ripe_data e) rows)) ≡ cond (is_ripe t e q) None (find key_cmp q (filter_map pending_pair rows))
ripe_waits t e [] all q = none (is_ripe t e q) where
  none : (b : Bool) → None ≡ cond {A = Option Pending} b None None
  none true = refl
  none false = refl
ripe_waits t e (r ∷ rows) all q = by r.waiting (is_ripe_row e r) refl (ripe_waits t e rows all.1 q) where
  by : (w : Option Pending) (b : Bool) → is_ripe_row e r ≡ b
      → find key_cmp q (filter_map pending_pair (map (ripe_data e) rows)) ≡ cond (is_ripe t e q) None (find key_cmp q (filter_map pending_pair rows))
      → find key_cmp q (cons_option (option_map (λ p. (r.name, p)) (cond b None w)) (filter_map pending_pair (map (ripe_data e) rows)))
      ≡ cond (is_ripe t e q) None (find key_cmp q (cons_option (option_map (λ p. (r.name, p)) w) (filter_map pending_pair rows)))
  by None true is rest = rest
  by None false is rest = rest
  by (Some p) true is rest = at (eq_by_cmp key_cmp q r.name) refl where
    at : (b : Bool) → eq_by_cmp key_cmp q r.name ≡ b → find key_cmp q (filter_map pending_pair (map (ripe_data e) rows)) ≡ cond (is_ripe t e q) None (cond b (Some p) (find key_cmp q (filter_map pending_pair rows)))
    at false apart = rest
    at true tied =
        let ripe : is_ripe t e q ≡ true = ap (is_ripe t e) (same_key q r.name tied) ∙ ripe_row t e r all.0 ∙ is in
        rest ∙ ap (λ b. cond b None (find key_cmp q (filter_map pending_pair rows))) ripe ∙ sym (ap (λ b. cond b None (Some p)) ripe)
  by (Some p) false is rest = at (eq_by_cmp key_cmp q r.name) refl where
    at : (b : Bool) → eq_by_cmp key_cmp q r.name ≡ b
        → cond b (Some p) (find key_cmp q (filter_map pending_pair (map (ripe_data e) rows))) ≡ cond (is_ripe t e q) None (cond b (Some p) (find key_cmp q (filter_map pending_pair rows)))
    at false apart = rest
    at true tied =
        let ripe : is_ripe t e q ≡ false = ap (is_ripe t e) (same_key q r.name tied) ∙ ripe_row t e r all.0 ∙ is in
        sym (ap (λ b. cond b None (Some p)) ripe)

pub ripe_table : (rows : List RowData) (e : ℕ) → IsTrue (is_sorted key_cmp (map chain_pair rows)) → table_of (map (ripe_data e) rows) ≡ ripen (table_of rows) e
ripe_table rows e rise =
    let all = recursion_from_All (Stands (table_of rows)) rows (stands rows rise) in
    let chains : (table_of (map (ripe_data e) rows)).chains ≡ (ripen (table_of rows) e).chains = same_map total exact _ _ (λ q.
    get-from_entries total (map chain_pair (map (ripe_data e) rows)) q ∙ ripe_chains (table_of rows) e rows all q
    ∙ ap (option_map (ripened (table_of rows) e q)) (sym (get-from_entries total (map chain_pair rows) q)) ∙ sym (get-ripen (table_of rows) e q)) in
    let waiting : (table_of (map (ripe_data e) rows)).waiting ≡ (ripen (table_of rows) e).waiting = same_map total exact _ _ (λ q.
    get-from_entries total (filter_map pending_pair (map (ripe_data e) rows)) q ∙ ripe_waits (table_of rows) e rows all q
    ∙ ap (cond (is_ripe (table_of rows) e q) None) (sym (get-from_entries total (filter_map pending_pair rows) q)) ∙ sym (waiting-ripen (table_of rows) e q)) in
    λ i. record { chains = chains i; waiting = waiting i }

-- names still ascend
pub ripe_rise : (rows : List RowData) (e : ℕ) → is_sorted key_cmp (map chain_pair (map (ripe_data e) rows)) ≡ is_sorted key_cmp (map chain_pair rows)
ripe_rise [] e = refl
ripe_rise (r ∷ rows) e = λ i. below r.name rows i && ripe_rise rows e i where
  below : (x : List ℕ) (rs : List RowData) → below_all key_cmp x (map chain_pair (map (ripe_data e) rs)) ≡ below_all key_cmp x (map chain_pair rs)
  below x [] = refl
  below x (s ∷ rs) = ap (λ b. is_lt (key_cmp x s.name) && b) (below x rs)

ripe_places : (rows : List RowData) (e : ℕ) → places (map (ripe_data e) rows) ≡ places rows
ripe_places [] e = refl
ripe_places (r ∷ rows) e = ap2 (one r.waiting (is_ripe_row e r) refl) (ripe_places rows e) where
  ap2 : {a b c d : ℕ} → a ≡ b → c ≡ d → a + c ≡ b + d
  ap2 p q = λ i. p i + q i

  one : (w : Option Pending) (b : Bool) → is_ripe_behind e (newest r.chain) w ≡ b
      → length (cond b (r.chain ++ change_list w) r.chain) + option_len (cond b None w) ≡ length r.chain + option_len w
  one None true is = omega (arith, length-append r.chain [])
  one None false is = refl
  one (Some p) true is = omega (arith, length-append r.chain (p.change ∷ []))
  one (Some p) false is = refl

pub size-ripen : (rows : List RowData) (e : ℕ) → IsTrue (is_sorted key_cmp (map chain_pair rows)) → size (ripen (table_of rows) e) ≡ size (table_of rows)
size-ripen rows e rise =
    ap size (sym (ripe_table rows e rise)) ∙ size_rows (map (ripe_data e) rows) (ripe_rise rows e ∙ rise) ∙ ripe_places rows e ∙ sym (size_rows rows rise)

-- ---- a name at an epoch

-- the newest certificate and what waits, by the row of the name
pub judged_row : (rows : List RowData) (e : ℕ) (k : ℕ) (d : RowData) → IsTrue (is_sorted key_cmp (map chain_pair rows)) → k < length rows
    → (newest (chain_of (ripen (table_of rows) e) (get_or rows k d).name) ≡ newest_at e (Some (get_or rows k d)))
    × (get (ripen (table_of rows) e).waiting (get_or rows k d).name ≡ pending_at e (Some (get_or rows k d)))
judged_row rows e k d rise l =
    let r : RowData = get_or rows k d in
    let t : Table = table_of rows in
    let stands : Stands t r = stands rows rise k d l in
    let ripe : is_ripe t e r.name ≡ is_ripe_row e r = ripe_row t e r stands in (
      ap (λ o. newest (unwrap_or o [])) (get-ripen t e r.name ∙ ap (option_map (ripened t e r.name)) stands.chain)
          ∙ (λ i. newest (cond (ripe i) (r.chain ++ change_list (stands.waits i)) r.chain))
          ∙ at r.waiting (is_ripe_row e r) refl,
      waiting-ripen t e r.name ∙ (λ i. cond (ripe i) None (stands.waits i)),
    ) where
      at : (w : Option Pending) (b : Bool) → is_ripe_behind e (newest (get_or rows k d).chain) w ≡ b
          → newest (cond b ((get_or rows k d).chain ++ change_list w) (get_or rows k d).chain) ≡ cond b (option_map (λ p. p.change.cert) w) (newest (get_or rows k d).chain)
      at w false is = refl
      at (Some p) true is = newest-push (get_or rows k d).chain p.change
      at None true is = never (newest (get_or rows k d).chain) is where
        never : (o : Option Certificate) → is_ripe_behind e o None ≡ true → newest ((get_or rows k d).chain ++ []) ≡ None
        never None is = absurd (cc)
        never (Some old) is = absurd (cc)

-- and where no row has the name
pub judged_none : (rows : List RowData) (e : ℕ) (name : List ℕ) → find key_cmp name (map chain_pair rows) ≡ None
    → (newest (chain_of (ripen (table_of rows) e) name) ≡ None) × (get (ripen (table_of rows) e).waiting name ≡ None)
judged_none rows e name absent =
    let t : Table = table_of rows in
    let chain : get t.chains name ≡ None = get-from_entries total (map chain_pair rows) name ∙ absent in
    let waits : get t.waiting name ≡ None = get-from_entries total (filter_map pending_pair rows) name ∙ none_waits name rows absent in (
      ap (λ o. newest (unwrap_or o [])) (get-ripen t e name ∙ ap (option_map (ripened t e name)) chain),
      waiting-ripen t e name ∙ ap (cond (is_ripe t e name) None) waits ∙ none (is_ripe t e name),
    ) where
      none : (b : Bool) → cond {A = Option Pending} b None None ≡ None
      none true = refl
      none false = refl
