-- Where changes lead, taken one by one.
use Rattle.std.proofs.Common.{◌≡◌, ℕ, ◌+◌, ◌-◌, ◌<◌, ◌≤◌, ◌^◌, List, [], ◌∷◌, length, get_or, take, drop, refl, sym, ap, ◌∙◌, subst, arith, Some, ◌⊎◌, inl, inr}
use Rattle.std.specs.Prelude.{All, Result, Ok, Err, option_and_then, unwrap_or}
use Rattle.std.proofs.Math.Seq.{take-length}
use Rattle.std.specs.List.{AllByRecursion}
use Rattle.std.proofs.lemmas.List.Elements.{All-cons, All-from_recursion, All-nil, recursion_from_All}
use Rattle.cert_policy.specs.declared.manner.Manner.{Manner}
use Rattle.ar_cert.specs.Changes.{Change, IsChange}
use Rattle.domain_table.specs.Applying.{after_answer, apply, apply_each, judge, ripen, taking_change}
use Rattle.domain_table.specs.Sound.{IsSound}
use Rattle.domain_table.specs.Tables.{Table}
use Rattle.domain_table.specs.declared.refusal.ChangeRefusal.{ChangeRefusal}
use Rattle.domain_table.proofs.Once.{one_by_one}
use Rattle.epoch_log.proofs.Applying.{sound-applied}
use Rattle.log_sending.specs.Judged.{behind_one, judged_from}
use Rattle.log_sending.specs.Leading.{table_behind, table_in}
use Rattle.log_sending.specs.declared.refusal.LogRefusal.{LogRefusal}
use Rattle.log_sending.specs.declared.refusal.LogRefusal.TheVariants as refusals

-- ---- one change

pub one_taken : (t new : Table) (e i : ℕ) (c : Change) → Some new ≡ apply t e (c ∷ []) → table_behind (judge t e c) i (ripen t e) e c ≡ Ok new
unfolding apply_each
one_taken t new e i c is = by (judge t e c) is
  where
    by : (answer : Result Manner ChangeRefusal) → Some new ≡ option_and_then (λ u. apply_each u e []) (after_answer (ripen t e) e c answer) → table_behind answer i (ripen t e) e c ≡ Ok new
    by (Ok manner) same = ap (λ o. let r : Result Table LogRefusal = Ok (unwrap_or o new) in r) (sym same)
    by (Err refusal) same = absurd cc

pub one_refused : (t : Table) (e i : ℕ) (c : Change) (refusal : ChangeRefusal) → judge t e c ≡ Err refusal → table_behind (judge t e c) i (ripen t e) e c ≡ Err (refusals.BadChange i refusal)
one_refused t e i c refusal is = ap (λ answer. table_behind answer i (ripen t e) e c) is

-- ---- and the next

abbrev table-or : Result Table LogRefusal → Table → Table
table-or (Ok t) other = t
table-or (Err refusal) other = other

-- the table behind a change that is taken
behind-taken : (t new : Table) (e i : ℕ) (c : Change) → table_behind (judge t e c) i (ripen t e) e c ≡ Ok new → apply t e (c ∷ []) ≡ Some new
unfolding apply_each
behind-taken t new e i c is = by (judge t e c) is
  where
    by : (answer : Result Manner ChangeRefusal) → table_behind answer i (ripen t e) e c ≡ Ok new → option_and_then (λ u. apply_each u e []) (after_answer (ripen t e) e c answer) ≡ Some new
    by (Ok manner) same = ap (λ r. Some (table-or r new)) same
    by (Err refusal) same = absurd cc

pub sound-behind : (t new : Table) (e i : ℕ) (c : Change) → e < 2 ^ 64 → IsSound t → IsChange c → table_behind (judge t e c) i (ripen t e) e c ≡ Ok new → IsSound new
sound-behind t new e i c low sound is-change is =
    sound-applied t new e (c ∷ []) low sound (All-cons IsChange c [] is-change (All-nil IsChange)) (behind-taken t new e i c is)

-- it has nothing more to ripen
settled : (t new : Table) (e i : ℕ) (c : Change) → IsSound t → table_behind (judge t e c) i (ripen t e) e c ≡ Ok new → ripen new e ≡ new
unfolding apply_each
settled t new e i c sound is =
    let is-applied : apply t e (c ∷ []) ≡ Some new = behind-taken t new e i c is in
    let again : Some (ripen new e) ≡ Some new = sym (ap (λ o. option_and_then (λ u. apply u e []) o) is-applied) ∙ sym (one_by_one t e c [] sound) ∙ is-applied in
    ap (λ o. unwrap_or o new) again

more : (t new : Table) (e i : ℕ) (c : Change) (rest : List Change) → IsSound t → table_behind (judge t e c) i (ripen t e) e c ≡ Ok new
    → judged_from i (ripen t e) e (c ∷ rest) ≡ judged_from (i + 1) (ripen new e) e rest
unfolding judged_from
more t new e i c rest sound is =
    by (judge t e c) is ∙ ap (λ u. judged_from (i + 1) u e rest) (sym (settled t new e i c sound is))
  where
    by : (answer : Result Manner ChangeRefusal) → table_behind answer i (ripen t e) e c ≡ Ok new
        → behind_one answer i (λ manner. judged_from (i + 1) (taking_change (ripen t e) e c manner) e rest) ≡ judged_from (i + 1) new e rest
    by (Ok manner) same = ap (λ r. judged_from (i + 1) (table-or r new) e rest) same
    by (Err refusal) same = absurd cc

refused : (t : Table) (e i : ℕ) (c : Change) (rest : List Change) (refusal : LogRefusal) → table_behind (judge t e c) i (ripen t e) e c ≡ Err refusal
    → table_in (judged_from i (ripen t e) e (c ∷ rest)) ≡ Err refusal
unfolding judged_from
refused t e i c rest refusal is = by (judge t e c) is
  where
    by : (answer : Result Manner ChangeRefusal) → table_behind answer i (ripen t e) e c ≡ Err refusal
        → table_in (behind_one answer i (λ manner. judged_from (i + 1) (taking_change (ripen t e) e c manner) e rest)) ≡ Err refusal
    by (Ok manner) same = absurd cc
    by (Err why) same = same

-- ---- as a loop has them

-- the rest behind the first
first-of : (cs : List Change) (c : Change) → 1 ≤ length cs → c ≡ get_or cs 0 c → cs ≡ c ∷ take (length cs - 1) (drop 1 cs)
first-of [] c some is = absurd (omega (arith, some))
first-of (first ∷ rest) c some is =
    let less : length (first ∷ rest) - 1 ≡ length rest = omega arith in
    let tail : take (length (first ∷ rest) - 1) rest ≡ rest = ap (λ n. take n rest) less ∙ take-length rest in
    ap (λ f. f ∷ rest) (sym is) ∙ ap (λ l. c ∷ l) (sym tail)

pub each_more : (t new : Table) (e i : ℕ) (cs : List Change) (c : Change) → IsSound t → 1 ≤ length cs → c ≡ get_or cs 0 c → table_behind (judge t e c) i (ripen t e) e c ≡ Ok new
    → judged_from i (ripen t e) e cs ≡ judged_from (i + 1) (ripen new e) e (take (length cs - 1) (drop 1 cs))
each_more t new e i cs c sound some is taking_change =
    ap (judged_from i (ripen t e) e) (first-of cs c some is) ∙ more t new e i c (take (length cs - 1) (drop 1 cs)) sound taking_change

pub each_refused : (t : Table) (e i : ℕ) (cs : List Change) (c : Change) (refusal : LogRefusal) → 1 ≤ length cs → c ≡ get_or cs 0 c
    → (refusal ≡ refusals.Memory) ⊎ (table_behind (judge t e c) i (ripen t e) e c ≡ Err refusal)
    → (refusal ≡ refusals.Memory) ⊎ (table_in (judged_from i (ripen t e) e cs) ≡ Err refusal)
each_refused t e i cs c refusal some is (inl wants) = inl wants
each_refused t e i cs c refusal some is (inr why) =
    inr (ap (λ l. table_in (judged_from i (ripen t e) e l)) (first-of cs c some is) ∙ refused t e i c (take (length cs - 1) (drop 1 cs)) refusal why)

pub each_none : (t : Table) (e i : ℕ) (cs : List Change) → length cs < 1 → table_in (judged_from i (ripen t e) e cs) ≡ Ok (ripen t e)
unfolding judged_from
each_none t e i [] none = refl
each_none t e i (c ∷ cs) none = absurd (omega (arith, none))

-- what the rest of a list keeps
pub each_sound : (t new : Table) (e i : ℕ) (cs : List Change) (c : Change) → e < 2 ^ 64 → IsSound t → All IsChange cs → 1 ≤ length cs → c ≡ get_or cs 0 c
    → table_behind (judge t e c) i (ripen t e) e c ≡ Ok new → IsSound new × All IsChange (take (length cs - 1) (drop 1 cs))
each_sound t new e i cs c low sound are some is taking_change =
    let all : AllByRecursion IsChange (c ∷ take (length cs - 1) (drop 1 cs)) =
    recursion_from_All IsChange (c ∷ take (length cs - 1) (drop 1 cs)) (subst (All IsChange) (first-of cs c some is) are) in
    (sound-behind t new e i c low sound all.0 taking_change, All-from_recursion IsChange (take (length cs - 1) (drop 1 cs)) all.1)
