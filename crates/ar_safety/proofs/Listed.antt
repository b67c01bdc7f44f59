-- The tables that honest logs voted for or decided are among the listed ones, and their strings among the hashed.
use Rattle.std.proofs.Common.{◌≡◌, ℕ, zero, suc, ◌<◌, inl, inr, List, [], ◌∷◌, length, get_or, ◌==◌, refl, sym, ap, ◌∙◌, subst, arith, false, cond, Option, Some, None}
use Rattle.std.specs.Prelude.{Contains, flat_map}
use Rattle.std.specs.List.{cons_option, filter_map, find}
use Rattle.std.specs.Option.{option_map}
use Rattle.std.proofs.lemmas.Bool.{cases_eq, eqb-true}
use Rattle.std.proofs.lemmas.List.Elements.{Contains-append_left, Contains-append_right}
use Rattle.ar_base.specs.Apart.{IsIn}
use Rattle.ar_base.proofs.Apart.{in_front, in_rest}
use Rattle.ar_cert.specs.Changes.{Change}
use Rattle.ar_statement.specs.Claims.{log_party}
use Rattle.domain_table.specs.Applying.{apply}
use Rattle.domain_table.specs.Tables.{Table}
use Rattle.domain_table.specs.Tree.{table_strings}
use Rattle.domain_table.proofs.Trees.{Listed, listed}
use Rattle.epoch_log.specs.Record.{LogRecord, base_of, ending}
use Rattle.epoch_log.specs.declared.entries.Ended.{Ended}
use Rattle.epoch_log.specs.declared.entries.How.{How}
use Rattle.epoch_log.specs.declared.entries.How.TheVariants.{Decided}
use Rattle.epoch_log.specs.declared.entries.Voted.{Voted}
use Rattle.ar_council.proofs.Lists.{find-some}
use Rattle.ar_safety.specs.Hashed.{ended_table, hashed, judged_strings, listed_tables, log_tables, tables_below, voted_table}
use Rattle.ar_safety.specs.Records.{IsHonestLog, Records, is_dishonest}

-- what one element of a list gives is among what all give
in-given : {X Y : Type 0} (f : X → Option Y) (xs : List X) (x : X) (y : Y) → Contains xs x → f x ≡ Some y → Contains (filter_map f xs) y
in-given f [] x y there gives = absurd (omega (arith, there.1))
in-given {X} {Y} f (z ∷ xs) x y there gives = by there.0 there.1 there.2 (in-given f xs x y)
  where
    behind : (o : Option Y) → Contains (filter_map f xs) y → Contains (cons_option o (filter_map f xs)) y
    behind None rest = rest
    behind (Some w) rest = Contains-append_right (w ∷ []) (filter_map f xs) y rest

    by : (k : ℕ) → k < length (z ∷ xs) → get_or (z ∷ xs) k x ≡ x → (Contains xs x → f x ≡ Some y → Contains (filter_map f xs) y) → Contains (filter_map f (z ∷ xs)) y
    by zero within is rest =
        let here : f z ≡ Some y = ap f is ∙ gives
        in subst (λ (o : Option Y). Contains (cons_option o (filter_map f xs)) y) (sym here) (0, omega arith, refl)
    by (suc k) within is rest = behind (f z) (rest (k, omega (arith, within), is) gives)

-- and so are the strings of one table
pub in-strings : (tables : List Table) (t : Table) (x : List ℕ) → Contains tables t → IsIn (table_strings t) x → IsIn (flat_map table_strings tables) x
in-strings [] t x there is = absurd (omega (arith, there.1))
in-strings (z ∷ tables) t x there is = by there.0 there.1 there.2 (in-strings tables t x)
  where
    by : (k : ℕ) → k < length (z ∷ tables) → get_or (z ∷ tables) k t ≡ t → (Contains tables t → IsIn (table_strings t) x → IsIn (flat_map table_strings tables) x) → IsIn (flat_map table_strings (z ∷ tables)) x
    by zero within same rest = in_front (table_strings z) (flat_map table_strings tables) x (subst (λ w. IsIn (table_strings w) x) (sym same) is)
    by (suc k) within same rest = in_rest (table_strings z) (flat_map table_strings tables) x (rest (k, omega (arith, within), same) is)

-- the tables of an honest log are listed
below : (r : Records) (n log : ℕ) → log < n → is_dishonest r (log_party log) ≡ false → (t : Table) → Contains (log_tables (r.logs log)) t → Contains (tables_below r n) t
unfolding tables_below
below r zero log less good t there = absurd (omega (arith, less))
below r (suc n) log less good t there = elim (cases_eq log n) [
  | inl here ↦
      let good-n : is_dishonest r (log_party n) ≡ false = subst (λ k. is_dishonest r (log_party k) ≡ false) here good in
      let own : Contains (cond (is_dishonest r (log_party n)) [] (log_tables (r.logs n))) t =
      rw good-n (subst (λ k. Contains (log_tables (r.logs k)) t) here there) in
      Contains-append_left (cond (is_dishonest r (log_party n)) [] (log_tables (r.logs n))) (tables_below r n) t own
  | inr other ↦
      Contains-append_right (cond (is_dishonest r (log_party n)) [] (log_tables (r.logs n))) (tables_below r n) t (below r n log (omega (arith, less, other)) good t there)
]

pub table-listed : (r : Records) (log : ℕ) → IsHonestLog r log → (t : Table) → Contains (log_tables (r.logs log)) t → Contains (listed_tables r) t
table-listed r log is t there = below r r.council.logs log is.known is.honest t there

-- and the strings of a listed table are hashed
pub table-hashed : (r : Records) (t : Table) → Contains (listed_tables r) t → Listed (hashed r) t
table-hashed r t there =
    listed (hashed r) t (λ x within. in_front (flat_map table_strings (listed_tables r)) (flat_map judged_strings r.judged) x (in-strings (listed_tables r) t x there within))

-- the table of a vote of an honest log
pub voted-listed : (r : Records) (log : ℕ) → IsHonestLog r log → (v : Voted) → Contains (r.logs log).voted v → (t : Table) → apply (base_of (r.logs log).ended v.epoch) v.epoch v.changes ≡ Some t → Contains (listed_tables r) t
voted-listed r log is v there t leads =
    let l : LogRecord = r.logs log in
    let votes : List Table = filter_map (voted_table l.ended) l.voted in
    let ends : List Table = filter_map (λ (x : Ended). ended_table l.ended x.epoch x.how) l.ended in
    table-listed r log is t (Contains-append_left votes ends t (in-given (voted_table l.ended) l.voted v t there leads))

-- where an epoch ended, its entry is there
pub ended-entry : (ended : List Ended) (epoch : ℕ) (how : How) → ending ended epoch ≡ Some how → (x : Ended) × (Contains ended x × (x.epoch ≡ epoch) × (x.how ≡ how))
unfolding ending
ended-entry ended epoch how is = by (find (λ (x : Ended). x.epoch == epoch) ended) refl
  where
    by : (o : Option Ended) → find (λ (x : Ended). x.epoch == epoch) ended ≡ o → (x : Ended) × (Contains ended x × (x.epoch ≡ epoch) × (x.how ≡ how))
    by None e = let none : ◌≡◌ {A = Option How} None (Some how) = sym (ap (option_map (λ (x : Ended). x.how)) e) ∙ is in absurd cc
    by (Some x) e =
        let found = find-some (λ (y : Ended). y.epoch == epoch) ended x e in
        let some : Some x.how ≡ Some how = sym (ap (option_map (λ (y : Ended). y.how)) e) ∙ is in
        (x, (found.0, eqb-true x.epoch epoch found.1, cc))

-- the table of an epoch that an honest log decided
pub decided-listed : (r : Records) (log : ℕ) → IsHonestLog r log → (epoch : ℕ) (changes : List Change) (to : List ℕ) → ending (r.logs log).ended epoch ≡ Some (Decided changes to)
    → (t : Table) → apply (base_of (r.logs log).ended epoch) epoch changes ≡ Some t → Contains (listed_tables r) t
decided-listed r log is epoch changes to ended t leads =
    let l : LogRecord = r.logs log in
    let votes : List Table = filter_map (voted_table l.ended) l.voted in
    let ends : List Table = filter_map (λ (x : Ended). ended_table l.ended x.epoch x.how) l.ended in
    let e = ended-entry l.ended epoch (Decided changes to) ended in
    let same : ended_table l.ended e.0.epoch e.0.how ≡ Some t =
    ap (λ n. ended_table l.ended n e.0.how) e.1.1 ∙ ap (ended_table l.ended epoch) e.1.2 ∙ leads in
    table-listed r log is t (Contains-append_right votes ends t
    (in-given (λ (x : Ended). ended_table l.ended x.epoch x.how) l.ended e.0 t e.1.0 same))
