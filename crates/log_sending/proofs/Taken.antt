-- What a walk over the queue takes.
use Rattle.std.proofs.Common.{◌≡◌, ℕ, zero, suc, ◌+◌, ◌-◌, ◌≤◌, List, [], ◌∷◌, length, refl, ap, ◌∙◌, arith, Bool, true, false, cond, eqb, nat_le, Some}
use Rattle.std.specs.Prelude.{Result, Ok, Err, option_and_then}
use Rattle.std.specs.List.{AllByRecursion}
use Rattle.std.proofs.lemmas.Bool.{leb-true}
use Rattle.std.proofs.lemmas.List.Sums.{sum_by-cons}
use Rattle.cert_policy.specs.declared.manner.Manner.{Manner}
use Rattle.ar_cert.specs.Changes.{Change, change_text}
use Rattle.domain_table.specs.declared.refusal.ChangeRefusal.{ChangeRefusal}
use Rattle.domain_table.specs.Applying.{after_answer, apply_each, judge_ripe, taking_change}
use Rattle.domain_table.specs.Tables.{Table}
use Rattle.log_sending.specs.Walk.{StandIn, bytes_of, taken_first, walk}

-- ---- it applies

abbrev Applies : Table → ℕ → List Change → Type 0
Applies table epoch changes = (after : Table) × (apply_each table epoch changes ≡ Some after)

applies-none : (table : Table) (epoch : ℕ) → Applies table epoch []
unfolding apply_each
applies-none table epoch = (table, refl)

applies-one : (table : Table) (epoch : ℕ) (change : Change) (changes : List Change) (manner : Manner) → judge_ripe table change ≡ Ok manner
    → Applies (taking_change table epoch change manner) epoch changes → Applies table epoch (change ∷ changes)
unfolding apply_each
applies-one table epoch change changes manner was rest =
    (rest.0, ap (λ answer. option_and_then (λ t. apply_each t epoch changes) (after_answer table epoch change answer)) was ∙ rest.1)

applies-first : (answer : Result Manner ChangeRefusal) (table : Table) (epoch left : ℕ) (change : Change) (over : List Change) (rest : Manner → List Change)
    → judge_ripe table change ≡ answer → Applies table epoch over → ((manner : Manner) → Applies (taking_change table epoch change manner) epoch (rest manner))
    → Applies table epoch (taken_first answer change left over rest)
applies-first (Err refusal) table epoch left change over rest was passed each = passed
applies-first (Ok manner) table epoch left change over rest was passed each = by (nat_le (length (change_text change)) left)
  where
    by : (b : Bool) → Applies table epoch (cond b (change ∷ rest manner) [])
    by true = applies-one table epoch change (rest manner) manner was (each manner)
    by false = applies-none table epoch

applies-if : (b : Bool) (table : Table) (epoch : ℕ) (changes : List Change) → Applies table epoch changes → Applies table epoch (cond b [] changes)
applies-if true table epoch changes some = applies-none table epoch
applies-if false table epoch changes some = some

-- the changes that are taken apply
pub walk-applies : (queue : List Change) (epoch many left : ℕ) (table : Table) → (after : Table) × (apply_each table epoch (walk epoch table many left queue) ≡ Some after)
unfolding walk
walk-applies [] epoch many left table = applies-none table epoch
walk-applies (change ∷ queue) epoch many left table =
    applies-if (eqb many 0) table epoch
    (taken_first (judge_ripe table change) change left (walk epoch table many left queue)
    (λ manner. walk epoch (taking_change table epoch change manner) (many - 1) (left - length (change_text change)) queue))
    (applies-first (judge_ripe table change) table epoch left change (walk epoch table many left queue)
    (λ manner. walk epoch (taking_change table epoch change manner) (many - 1) (left - length (change_text change)) queue)
    refl (walk-applies queue epoch many left table)
    (λ manner. walk-applies queue epoch (many - 1) (left - length (change_text change)) (taking_change table epoch change manner)))

-- ---- it is of the queue

all-first : (P : Change → Type 0) (answer : Result Manner ChangeRefusal) (left : ℕ) (change : Change) (over : List Change) (rest : Manner → List Change)
    → P change → AllByRecursion P over → ((manner : Manner) → AllByRecursion P (rest manner)) → AllByRecursion P (taken_first answer change left over rest)
all-first P (Err refusal) left change over rest here passed each = passed
all-first P (Ok manner) left change over rest here passed each = by (nat_le (length (change_text change)) left)
  where
    by : (b : Bool) → AllByRecursion P (cond b (change ∷ rest manner) [])
    by true = (here, each manner)
    by false = tt

all-if : (P : Change → Type 0) (b : Bool) (changes : List Change) → AllByRecursion P changes → AllByRecursion P (cond b [] changes)
all-if P true changes all = tt
all-if P false changes all = all

-- what holds of each change of the queue holds of each that is taken
pub walk-all : (P : Change → Type 0) (queue : List Change) (epoch many left : ℕ) (table : Table) → AllByRecursion P queue → AllByRecursion P (walk epoch table many left queue)
unfolding walk
walk-all P [] epoch many left table all = tt
walk-all P (change ∷ queue) epoch many left table all =
    all-if P (eqb many 0)
    (taken_first (judge_ripe table change) change left (walk epoch table many left queue)
    (λ manner. walk epoch (taking_change table epoch change manner) (many - 1) (left - length (change_text change)) queue))
    (all-first P (judge_ripe table change) left change (walk epoch table many left queue)
    (λ manner. walk epoch (taking_change table epoch change manner) (many - 1) (left - length (change_text change)) queue)
    all.0 (walk-all P queue epoch many left table all.1)
    (λ manner. walk-all P queue epoch (many - 1) (left - length (change_text change)) (taking_change table epoch change manner) all.1))

-- ---- it is few, and short

abbrev Fits : ℕ → ℕ → List Change → Type 0
Fits many left changes = (length changes ≤ many) × (bytes_of changes ≤ left)

at-least : (n : ℕ) → eqb n 0 ≡ false → 1 ≤ n
at-least zero some = absurd cc
at-least (suc n) some = omega arith

fits-one : (many left : ℕ) (change : Change) (changes : List Change) → 1 ≤ many → length (change_text change) ≤ left
    → Fits (many - 1) (left - length (change_text change)) changes → Fits many left (change ∷ changes)
fits-one many left change changes positive short more =
    let step : bytes_of (change ∷ changes) ≡ length (change_text change) + bytes_of changes = sum_by-cons (λ (c : Change). length (change_text c)) change changes in
    (omega (arith, more.0, positive), omega (arith, step, more.1, short))

fits-first : (answer : Result Manner ChangeRefusal) (many left : ℕ) (change : Change) (over : List Change) (rest : Manner → List Change)
    → eqb many 0 ≡ false → Fits many left over → ((manner : Manner) → Fits (many - 1) (left - length (change_text change)) (rest manner))
    → Fits many left (taken_first answer change left over rest)
fits-first (Err refusal) many left change over rest some passed each = passed
fits-first (Ok manner) many left change over rest some passed each = by (nat_le (length (change_text change)) left) refl
  where
    by : (b : Bool) → nat_le (length (change_text change)) left ≡ b → Fits many left (cond b (change ∷ rest manner) [])
    by true within =
        fits-one many left change (rest manner) (at-least many some) (leb-true (length (change_text change)) left within) (each manner)
    by false past = (omega arith, omega arith)

fits-if : (b : Bool) (many left : ℕ) (changes : List Change) → eqb many 0 ≡ b → (eqb many 0 ≡ false → Fits many left changes) → Fits many left (cond b [] changes)
fits-if true many left changes is fits = (omega arith, omega arith)
fits-if false many left changes is fits = fits is

-- so many changes at most are taken, and their texts are no longer than what was left
pub walk-fits : (queue : List Change) (epoch many left : ℕ) (table : Table)
    → (length (walk epoch table many left queue) ≤ many) × (bytes_of (walk epoch table many left queue) ≤ left)
unfolding walk
walk-fits [] epoch many left table = (omega arith, omega arith)
walk-fits (change ∷ queue) epoch many left table =
    fits-if (eqb many 0) many left
    (taken_first (judge_ripe table change) change left (walk epoch table many left queue)
    (λ manner. walk epoch (taking_change table epoch change manner) (many - 1) (left - length (change_text change)) queue))
    refl
    (λ some. fits-first (judge_ripe table change) many left change (walk epoch table many left queue)
    (λ manner. walk epoch (taking_change table epoch change manner) (many - 1) (left - length (change_text change)) queue)
    some (walk-fits queue epoch many left table)
    (λ manner. walk-fits queue epoch (many - 1) (left - length (change_text change)) (taking_change table epoch change manner)))

-- ---- it stands in the queue in its order

stands-later : (changes : List Change) (first : Change) (queue : List Change) → StandIn changes queue → StandIn changes (first ∷ queue)
stands-later [] first queue there = tt
stands-later (change ∷ changes) first queue there = (first ∷ there.0, there.1, ap (λ l. first ∷ l) there.2, there.3)

stands-first : (answer : Result Manner ChangeRefusal) (left : ℕ) (change : Change) (queue over : List Change) (rest : Manner → List Change)
    → StandIn over queue → ((manner : Manner) → StandIn (rest manner) queue) → StandIn (taken_first answer change left over rest) (change ∷ queue)
stands-first (Err refusal) left change queue over rest passed each = stands-later over change queue passed
stands-first (Ok manner) left change queue over rest passed each = by (nat_le (length (change_text change)) left)
  where
    by : (b : Bool) → StandIn (cond b (change ∷ rest manner) []) (change ∷ queue)
    by true = ([], queue, refl, each manner)
    by false = tt

stands-if : (b : Bool) (changes queue : List Change) → StandIn changes queue → StandIn (cond b [] changes) queue
stands-if true changes queue there = tt
stands-if false changes queue there = there

pub walk-stands : (queue : List Change) (epoch many left : ℕ) (table : Table) → StandIn (walk epoch table many left queue) queue
unfolding walk
walk-stands [] epoch many left table = tt
walk-stands (change ∷ queue) epoch many left table =
    stands-if (eqb many 0)
    (taken_first (judge_ripe table change) change left (walk epoch table many left queue)
    (λ manner. walk epoch (taking_change table epoch change manner) (many - 1) (left - length (change_text change)) queue))
    (change ∷ queue)
    (stands-first (judge_ripe table change) left change queue (walk epoch table many left queue)
    (λ manner. walk epoch (taking_change table epoch change manner) (many - 1) (left - length (change_text change)) queue)
    (walk-stands queue epoch many left table)
    (λ manner. walk-stands queue epoch (many - 1) (left - length (change_text change)) (taking_change table epoch change manner)))
