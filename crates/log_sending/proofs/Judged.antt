-- A list of changes that is judged is one that is applied.
use Rattle.std.proofs.Common.{◌≡◌, ℕ, suc, ◌+◌, List, [], ◌∷◌, take, refl, sym, ap, ◌∙◌, subst, arith, Some}
use Rattle.std.specs.Prelude.{Result, Ok, Err, option_and_then, bytes_eq, slice_get, unwrap_or}
use Rattle.std.specs.Result.{result_ok}
use Rattle.std.proofs.lemmas.Slice.Eq.{bytes_eq-Decides}
use Rattle.cert_policy.specs.declared.manner.Manner.{Manner}
use Rattle.ar_cert.specs.Changes.{Change}
use Rattle.domain_table.specs.declared.refusal.ChangeRefusal.{ChangeRefusal}
use Rattle.domain_table.specs.Applying.{after_answer, apply, apply_each, judge_ripe, ripen, taking_change}
use Rattle.domain_table.specs.Tables.{Table}
use Rattle.domain_table.specs.Tree.{root_of}
use Rattle.log_sending.specs.Checks.{all_taken, same_root}
use Rattle.log_sending.specs.Leading.{table_in}
use Rattle.log_sending.specs.Judged.{TableJudgement, behind_one, judged, judged_from}
use Rattle.log_sending.specs.declared.refusal.LogRefusal.{LogRefusal}
use Rattle.log_sending.specs.declared.refusal.LogRefusal.TheVariants as refusals
use Rattle.log_sending.proofs.Checked.{holds}

step : (index : ℕ) (table : Table) (epoch : ℕ) (change : Change) (changes : List Change) (answer : Result Manner ChangeRefusal)
    → ((manner : Manner) → result_ok (judged_from (index + 1) (taking_change table epoch change manner) epoch changes) ≡ apply_each (taking_change table epoch change manner) epoch changes)
    → result_ok (behind_one answer index (λ manner. judged_from (index + 1) (taking_change table epoch change manner) epoch changes))
    ≡ option_and_then (λ t. apply_each t epoch changes) (after_answer table epoch change answer)
step index table epoch change changes (Ok manner) rest = rest manner
step index table epoch change changes (Err refusal) rest = refl

-- from a ripe table
pub judged-each : (changes : List Change) (index : ℕ) (table : Table) (epoch : ℕ) → result_ok (judged_from index table epoch changes) ≡ apply_each table epoch changes
unfolding judged_from apply_each
judged-each [] index table epoch = refl
judged-each (change ∷ changes) index table epoch =
    step index table epoch change changes (judge_ripe table change)
    (λ manner. judged-each changes (index + 1) (taking_change table epoch change manner) epoch)

pub judged-applies : (table : Table) (epoch : ℕ) (changes : List Change) → result_ok (judged table epoch changes) ≡ apply table epoch changes
judged-applies table epoch changes = judged-each changes 0 (ripen table epoch) epoch

-- the table that a judgement gives is the one to which the changes lead
pub judged-table : (table after : Table) (epoch : ℕ) (changes : List Change) → table_in (judged table epoch changes) ≡ Ok after → apply table epoch changes ≡ Some after
judged-table table after epoch changes is = sym (judged-applies table epoch changes) ∙ by (judged table epoch changes) is
  where
    by : (j : TableJudgement) → table_in j ≡ Ok after → result_ok j ≡ Some after
    by (Ok found) same = ap result_ok same
    by (Err refused) same = absurd cc

pub table-judged : (table after : Table) (epoch : ℕ) (changes : List Change) → apply table epoch changes ≡ Some after → table_in (judged table epoch changes) ≡ Ok after
table-judged table after epoch changes is = by (judged table epoch changes) (judged-applies table epoch changes ∙ is)
  where
    by : (j : TableJudgement) → result_ok j ≡ Some after → table_in j ≡ Ok after
    by (Ok found) same = ap (λ o. let r : Result Table LogRefusal = Ok (unwrap_or o after) in r) same
    by (Err refused) same = absurd cc

-- what is refused is refused by the table behind the changes before it
abbrev Refuses : Table → ℕ → List Change → ℕ → ChangeRefusal → Type 0
Refuses table epoch changes place refusal =
    (before : Table) × (change : Change) × (apply_each table epoch (take place changes) ≡ Some before)
    × (slice_get changes place ≡ Some change) × (judge_ripe before change ≡ Err refusal)

refused-here : (table : Table) (epoch : ℕ) (change : Change) (changes : List Change) (refusal : ChangeRefusal) → judge_ripe table change ≡ Err refusal
    → Refuses table epoch (change ∷ changes) 0 refusal
unfolding apply_each
refused-here table epoch change changes refusal is = (table, change, refl, refl, is)

refused-later : (table : Table) (epoch : ℕ) (change : Change) (changes : List Change) (manner : Manner) (place : ℕ) (refusal : ChangeRefusal) → judge_ripe table change ≡ Ok manner
    → Refuses (taking_change table epoch change manner) epoch changes place refusal → Refuses table epoch (change ∷ changes) (suc place) refusal
unfolding apply_each
refused-later table epoch change changes manner place refusal is rest = (
  rest.0,
  rest.1,
  ap (λ answer. option_and_then (λ t. apply_each t epoch (take place changes)) (after_answer table epoch change answer)) is ∙ rest.2,
  rest.3,
  rest.4,
)

abbrev refused-in : TableJudgement → ℕ × ChangeRefusal → ℕ × ChangeRefusal
refused-in (Ok table) other = other
refused-in (Err refused) other = refused

-- the place of what is refused, counted from an index
refused-each : (changes : List Change) (index : ℕ) (table : Table) (epoch at : ℕ) (refusal : ChangeRefusal) → judged_from index table epoch changes ≡ Err (at, refusal)
    → (place : ℕ) × ((index + place ≡ at) × Refuses table epoch changes place refusal)
unfolding judged_from
refused-each [] index table epoch at refusal is = absurd cc
refused-each (change ∷ changes) index table epoch at refusal is =
    by (judge_ripe table change) refl is (λ manner. refused-each changes (index + 1) (taking_change table epoch change manner) epoch at refusal)
  where
    by : (answer : Result Manner ChangeRefusal) → judge_ripe table change ≡ answer
        → behind_one answer index (λ manner. judged_from (index + 1) (taking_change table epoch change manner) epoch changes) ≡ Err (at, refusal)
        → ((manner : Manner) → judged_from (index + 1) (taking_change table epoch change manner) epoch changes ≡ Err (at, refusal)
        → (place : ℕ) × ((index + 1 + place ≡ at) × Refuses (taking_change table epoch change manner) epoch changes place refusal))
        → (place : ℕ) × ((index + place ≡ at) × Refuses table epoch (change ∷ changes) place refusal)
    by (Ok manner) was same each =
        let rest = each manner same in
        (suc rest.0, (omega (arith, rest.1.0), refused-later table epoch change changes manner rest.0 refusal was rest.1.1))
    by (Err other) was same each =
        let here : index ≡ at = ap (λ j. (refused-in j (index, other)).0) same in
        let why : other ≡ refusal = ap (λ j. (refused-in j (index, other)).1) same in
        (0, (omega (arith, here), refused-here table epoch change changes refusal (was ∙ ap (λ r. Err r) why)))

pub judged-refused : (table : Table) (epoch : ℕ) (changes : List Change) (index : ℕ) (refusal : ChangeRefusal) → judged table epoch changes ≡ Err (index, refusal)
    → (before : Table) × (change : Change) × (apply table epoch (take index changes) ≡ Some before)
    × (slice_get changes index ≡ Some change) × (judge_ripe before change ≡ Err refusal)
judged-refused table epoch changes index refusal is =
    let found = refused-each changes 0 (ripen table epoch) epoch index refusal is in
    let same : found.0 ≡ index = omega (arith, found.1.0) in
    subst (λ k. Refuses (ripen table epoch) epoch changes k refusal) same found.1.1

-- where no change is refused and the root is the message's, the changes apply to a table with this root
pub applied : (table : Table) (epoch : ℕ) (changes : List Change) (to : List ℕ) → all_taken (judged table epoch changes) ≡ Ok tt
    → same_root (judged table epoch changes) to ≡ Ok tt → (after : Table) × ((apply table epoch changes ≡ Some after) × (root_of after ≡ to))
applied table epoch changes to fine root = by (judged table epoch changes) refl fine root
  where
    by : (j : TableJudgement) → judged table epoch changes ≡ j → all_taken j ≡ Ok tt → same_root j to ≡ Ok tt
        → (after : Table) × ((apply table epoch changes ≡ Some after) × (root_of after ≡ to))
    by (Ok after) was fine root = (
      after,
      (
        sym (judged-applies table epoch changes) ∙ ap result_ok was,
        sym ((bytes_eq-Decides to (root_of after)).0 (holds (bytes_eq to (root_of after)) (refusals.WrongRoot (root_of after)) root)),
      ),
    )
    by (Err refused) was fine root = absurd cc
