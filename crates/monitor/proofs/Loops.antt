-- What is put behind the others, one after the other.
use Rattle.std.proofs.Common.{◌≡◌, ℕ, zero, suc, ◌+◌, ◌-◌, ◌<◌, ◌≤◌, List, [], ◌∷◌, ◌++◌, length, take, drop, get_or, refl, ap, sym, ◌∙◌, arith, append_assoc}
use Rattle.std.specs.Prelude.{Option, Some, None}
use Rattle.std.specs.List.{cons_option, filter_map}
use Rattle.std.specs.Result.{result_ok}
use Rattle.std.specs.Option.{option_or}
use Rattle.std.proofs.Math.Seq.{drop-cons, take-suc}
use Rattle.std.proofs.lemmas.List.Elements.{filter_map-append}
use Rattle.std.proofs.lemmas.List.FromFn.{map-range_with_len_more}
use Rattle.ar_statement.specs.Claims.{party}
use Rattle.ar_statement.specs.declared.party.Party.{Party}
use Rattle.ar_statement.specs.declared.party.Role.{Role}
use Rattle.party_keys.specs.Directory.{Directory}
use Rattle.monitor.specs.declared.item.Item.{Item}
use Rattle.monitor.specs.Items.{AscendByLine, Sworn, sworn_in, sworn_of}
use Rattle.monitor.specs.Reports.{conflict_of, conflict_with, conflicts_of, first_conflict, members}
use Rattle.monitor.specs.declared.report.Conflict.{Conflict}

-- what is given of one more stands behind what is given of those before
pub more : {X Y : Type 0} (f : X → Option Y) (xs : List X) (i : ℕ) (x : X) (before after : List Y)
    → i < length xs → get_or xs i x ≡ x → before ≡ filter_map f (take i xs) → after ≡ before ++ filter_map f (x ∷ [])
    → after ≡ filter_map f (take (i + 1) xs)
more f xs i x before after inside is so told =
    let one : i + 1 ≡ suc i = omega arith in
    let longer = ap (λ n. take n xs) one ∙ take-suc xs i x inside ∙ ap (λ y. take i xs ++ y ∷ []) is in
    told ∙ (ap (λ ys. ys ++ filter_map f (x ∷ [])) so ∙ (sym (filter_map-append f (take i xs) (x ∷ [])) ∙ sym (ap (filter_map f) longer)))

-- the same of one party more of a role, behind what was there
pub one-more : (role : Role) (n : ℕ) (sworn : List Sworn) (first before after : List Conflict)
    → before ≡ first ++ conflicts_of role n sworn → after ≡ before ++ filter_map (conflict_of sworn) (party role n ∷ [])
    → after ≡ first ++ conflicts_of role (n + 1) sworn
one-more role n sworn first before after so is =
    let named : Party → Option Conflict = conflict_of sworn in
    let longer : members role (n + 1) ≡ members role n ++ party role n ∷ [] = map-range_with_len_more (party role) 0 n n (omega arith) in
    is ∙ ap (λ (xs : List Conflict). xs ++ filter_map named (party role n ∷ [])) so
    ∙ append_assoc first (conflicts_of role n sworn) (filter_map named (party role n ∷ []))
    ∙ ap (λ (xs : List Conflict). first ++ xs) (sym (filter_map-append named (members role n) (party role n ∷ [])) ∙ sym (ap (filter_map named) longer))

-- ---- the first statement that contradicts one before it

-- a statement that contradicts none before it is passed
pub passed : (who : Party) (xs : List Sworn) (k : ℕ) (x : Sworn) → k < length xs → get_or xs k x ≡ x → conflict_with who (take k xs) x ≡ None
    → first_conflict who (take (k + 1) xs) (drop (k + 1) xs) ≡ first_conflict who (take k xs) (drop k xs)
unfolding first_conflict
passed who xs k x within is none =
    let one : k + 1 ≡ suc k = omega arith in
    let front : take (k + 1) xs ≡ take k xs ++ x ∷ [] = ap (λ n. take n xs) one ∙ take-suc xs k x within ∙ ap (λ y. take k xs ++ y ∷ []) is in
    let rest : drop k xs ≡ x ∷ drop (k + 1) xs = drop-cons xs k x within ∙ ap (λ y. y ∷ drop (suc k) xs) is ∙ ap (λ n. x ∷ drop n xs) (sym one) in
    let step : first_conflict who (take k xs) (x ∷ drop (k + 1) xs) ≡ first_conflict who (take k xs ++ x ∷ []) (drop (k + 1) xs) =
    ap (λ o. option_or o (first_conflict who (take k xs ++ x ∷ []) (drop (k + 1) xs))) none in
    sym (ap (first_conflict who (take k xs)) rest ∙ step ∙ ap (λ f. first_conflict who f (drop (k + 1) xs)) (sym front))

-- one that does is found
pub found : (who : Party) (xs : List Sworn) (k : ℕ) (x : Sworn) (c : Conflict) → k < length xs → get_or xs k x ≡ x → conflict_with who (take k xs) x ≡ Some c
    → first_conflict who (take k xs) (drop k xs) ≡ Some c
unfolding first_conflict
found who xs k x c within is some =
    let rest : drop k xs ≡ x ∷ drop (suc k) xs = drop-cons xs k x within ∙ ap (λ y. y ∷ drop (suc k) xs) is in
    ap (first_conflict who (take k xs)) rest ∙ ap (λ o. option_or o (first_conflict who (take k xs ++ x ∷ []) (drop (suc k) xs))) some

drop-all : {X : Type 0} (xs : List X) (k : ℕ) → length xs ≤ k → drop k xs ≡ []
drop-all [] zero le = refl
drop-all [] (suc k) le = refl
drop-all (x ∷ xs) zero le = absurd (omega (arith, le))
drop-all (x ∷ xs) (suc k) le = drop-all xs k (omega (arith, le))

-- behind the last there is none
pub ended : (who : Party) (xs : List Sworn) (k : ℕ) → length xs ≤ k → first_conflict who (take k xs) (drop k xs) ≡ None
unfolding first_conflict
ended who xs k le = ap (first_conflict who (take k xs)) (drop-all xs k le)

-- ---- how many there are

-- the lines of items count at least as they stand
pub climbs : (items : List Item) (k : ℕ) (d : Item) → AscendByLine items → k < length items → k < (get_or items k d).line
climbs items zero d a within = a.least zero d within
climbs items (suc k) d a within =
    let below = climbs items k d a (omega (arith, within)) in
    let step = a.in_order k (suc k) d (omega arith) within in
    omega (arith, below, step)

-- what is given of a list is no more than the list
pub fewer : {X Y : Type 0} (f : X → Option Y) (xs : List X) → length (filter_map f xs) ≤ length xs
fewer {X} {Y} f [] = omega arith
fewer {X} {Y} f (x ∷ xs) = by (f x) (fewer f xs)
  where
    by : (o : Option Y) → length (filter_map f xs) ≤ length xs → length (cons_option o (filter_map f xs)) ≤ suc (length xs)
    by None rest = omega (arith, rest)
    by (Some y) rest = omega (arith, rest)

pub few : (keys : Directory) (items : List Item) (d : Item) → AscendByLine items → 0 < length items → length (sworn_of keys items) ≤ (get_or items (length items - 1) d).line
few keys items d a some =
    let last = climbs items (length items - 1) d a (omega (arith, some)) in
    let all = fewer (λ i. result_ok (sworn_in keys i)) items in
    omega (arith, last, all, some)
