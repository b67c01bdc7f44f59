-- What stays of endings and bases when one more epoch ends.
use Rattle.std.proofs.Common.{◌≡◌, ◌≢◌, ℕ, zero, suc, ◌+◌, ◌<◌, ◌^◌, ◌≤◌, ◌⊎◌, inl, inr, List, [], ◌∷◌, ◌++◌, length, get_or, refl, sym, ap, ◌∙◌, arith, Bool, true, false, cond, ◌==◌, eqb, Option, Some, None}
use Rattle.std.specs.Prelude.{All}
use Rattle.std.specs.Option.{option_map, option_or}
use Rattle.std.specs.List.{find}
use Rattle.std.proofs.lemmas.Bool.{cases_lt, eq-eqb, ne_eqb}
use Rattle.std.proofs.lemmas.List.Elements.{recursion_from_All}
use Rattle.std.proofs.lemmas.List.Folds.{find-append}
use Rattle.std.proofs.lemmas.List.{length-append}
use Rattle.std.proofs.lemmas.Option.{get_or_from_slice_get, slice_get-get_or, slice_get_within}
use Rattle.std.proofs.Math.ListN.{get_or-append}
use Rattle.std.proofs.Math.Seq.{get_or-append_seam}
use Rattle.ar_cert.specs.Changes.{Change}
use Rattle.ar_council.proofs.Lists.{find-none}
use Rattle.epoch_log.specs.Honest.{EndsInOrder}
use Rattle.epoch_log.specs.Record.{after_ending, base_of, current, ending}
use Rattle.epoch_log.specs.declared.entries.Ended.{Ended}
use Rattle.epoch_log.specs.declared.entries.How.{How}
use Rattle.epoch_log.specs.declared.entries.How.TheVariants.{Decided, Skipped}
use Rattle.ar_base.proofs.Shown.{or_none}

abbrev pub with : List Ended → ℕ → How → List Ended
with ended epoch how = ended ++ record { epoch = epoch; how = how } ∷ []

-- the ending of another epoch stays
pub ending-other : (ended : List Ended) (epoch : ℕ) (how : How) (e : ℕ) → epoch ≢ e → ending (with ended epoch how) e ≡ ending ended e
unfolding ending
ending-other ended epoch how e other =
    let no : eqb epoch e ≡ false = ne_eqb epoch e other in
    let x : Ended = record { epoch = epoch; how = how } in
    let p : Ended → Bool = λ y. y.epoch == e in
    let none : find p (x ∷ []) ≡ None = ap (λ b. cond b (Some x) None) no in
    ap (option_map (λ y. y.how)) (find-append p ended (x ∷ []) ∙ ap (option_or (find p ended)) none ∙ or_none (find p ended))

-- each ended epoch is from 1 up to the number of endings
pub epochs-within : (ended : List Ended) → EndsInOrder ended → (k : ℕ) (d : Ended) → k < length ended → (get_or ended k d).epoch ≡ k + 1
epochs-within ended order k d within = order.in_order k (get_or ended k d) (slice_get-get_or ended k d within)

-- no epoch from the current one on has ended, and none is 0
pub ending-none : (ended : List Ended) → EndsInOrder ended → (e : ℕ) → (e ≡ 0) ⊎ (length ended < e) → ending ended e ≡ None
unfolding ending
ending-none ended order e out =
    let p : Ended → Bool = λ y. y.epoch == e in
    let fails : All (λ y. p y ≡ false) ended =
    λ k d within. ne_eqb (get_or ended k d).epoch e (λ same.
    let at = epochs-within ended order k d within in
    elim out [ inl none ↦ omega (arith, same, none, at) | inr more ↦ omega (arith, same, more, at, within) ]) in
    ap (option_map (λ y. y.how)) (find-none p ended (recursion_from_All (λ y. p y ≡ false) ended fails))

-- an epoch that ended is below the current one, and not 0
pub ending-within : (ended : List Ended) → EndsInOrder ended → (e : ℕ) (how : How) → ending ended e ≡ Some how → (1 ≤ e) × (e ≤ length ended)
ending-within ended order e how is =
    let not-out : (e ≡ 0) ⊎ (length ended < e) → ⊥ = λ out. let none = ending-none ended order e out in absurd cc in (
      elim (cases_lt 0 e) [ inl more ↦ omega (arith, more) | inr none ↦ absurd (not-out (inl (omega (arith, none)))) ],
      elim (cases_lt (length ended) e) [ inl more ↦ absurd (not-out (inr more)) | inr within ↦ within ],
    )

-- the epoch that ends has this ending
pub ending-here : (ended : List Ended) (how : How) → EndsInOrder ended → ending (with ended (current ended) how) (current ended) ≡ Some how
unfolding ending
ending-here ended how order =
    let e : ℕ = current ended in
    let x : Ended = record { epoch = e; how = how } in
    let p : Ended → Bool = λ y. y.epoch == e in
    let yes : eqb e e ≡ true = eq-eqb e e refl in
    let here : find p (x ∷ []) ≡ Some x = ap (λ b. cond b (Some x) None) yes in
    let fails : All (λ y. p y ≡ false) ended =
    λ k d within. ne_eqb (get_or ended k d).epoch e (λ same. omega (arith, same, epochs-within ended order k d within, within)) in
    let none : find p ended ≡ None = find-none p ended (recursion_from_All (λ y. p y ≡ false) ended fails) in
    ap (option_map (λ y. y.how)) (find-append p ended (x ∷ []) ∙ ap (λ o. option_or o (find p (x ∷ []))) none ∙ here)

-- the bases up to an epoch stay when that epoch ends
pub base-stays : (ended : List Ended) (epoch : ℕ) (how : How) (e : ℕ) → e ≤ epoch → base_of (with ended epoch how) e ≡ base_of ended e
unfolding base_of
base-stays ended epoch how zero le = refl
base-stays ended epoch how (suc e) le =
    let before = base-stays ended epoch how e (omega (arith, le)) in
    let same = ending-other ended epoch how e (λ is. omega (arith, is, le)) in
    ap (λ o. after_ending e o (base_of (with ended epoch how) e)) same ∙ ap (after_ending e (ending ended e)) before

-- the order is kept
pub order-kept : (ended : List Ended) (how : How) → EndsInOrder ended → current ended < 2 ^ 63 → EndsInOrder (with ended (current ended) how)
order-kept ended how order room =
    let x : Ended = record { epoch = current ended; how = how } in
    record {
      in_order = λ k y at.
          let within = slice_get_within (ended ++ x ∷ []) k y at in
          let many = length-append ended (x ∷ []) in
          let is = get_or_from_slice_get (ended ++ x ∷ []) k y x at in
          elim (cases_lt k (length ended)) [
            | inl before ↦
                let old = get_or-append ended (x ∷ []) x k before in
                let at-k = epochs-within ended order k x before in
                ap (λ (z : Ended). z.epoch) (sym is ∙ old) ∙ at-k
            | inr last ↦
                let here : k ≡ length ended = omega (arith, last, within, many) in
                let seam = get_or-append_seam ended x [] x in
                let at-k = ap (λ n. get_or (ended ++ x ∷ []) n x) here in
                ap (λ (z : Ended). z.epoch) (sym is ∙ at-k ∙ seam) ∙ omega (arith, here)
          ];
      in_range = omega (arith, room, length-append ended (x ∷ []));
    }

-- the table behind an epoch that was not decided is its base
pub base-undecided : (ended : List Ended) (e : ℕ) → ((changes : List Change) (to : List ℕ) → ending ended e ≢ Some (Decided changes to)) → base_of ended (suc e) ≡ base_of ended e
unfolding base_of
base-undecided ended e never = by (ending ended e) refl
  where
    by : (o : Option How) → ending ended e ≡ o → after_ending e o (base_of ended e) ≡ base_of ended e
    by None is = refl
    by (Some (Skipped statuses)) is = refl
    by (Some (Decided changes to)) is = absurd (never changes to is)

-- the table behind the newest decision is the one that stands
pub base-newest : (ended : List Ended) (e n : ℕ) → ((f : ℕ) (changes : List Change) (to : List ℕ) → e < f → ending ended f ≢ Some (Decided changes to))
    → base_of ended (suc e + n) ≡ base_of ended (suc e)
base-newest ended e zero last = ap (base_of ended) (omega arith)
base-newest ended e (suc n) last =
    let rest = base-newest ended e n last in
    let next : suc e + suc n ≡ suc (suc e + n) = omega arith in
    ap (base_of ended) next ∙ base-undecided ended (suc e + n) (λ changes to. last (suc e + n) changes to (omega arith)) ∙ rest
