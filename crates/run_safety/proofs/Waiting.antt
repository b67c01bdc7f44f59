-- To how many parties the messages of a pool are yet to be delivered, and that a delivery leaves one fewer.
use Rattle.std.proofs.Common.{◌≡◌, ℕ, ◌+◌, ◌*◌, ◌≤◌, List, [], ◌∷◌, ◌++◌, length, get_or, refl, sym, ap, ◌∙◌, subst, arith, Bool, true, false, not, ◌&&◌, ◌||◌, cond, Option, Some}
use Rattle.std.specs.Prelude.{find, map, slice_get, slice_set}
use Rattle.std.specs.List.{count_by, list_any, range_with_len, sum_by}
use Rattle.std.proofs.lemmas.Bool.{and_parts, not-true}
use Rattle.std.proofs.lemmas.List.Folds.{list_any-append}
use Rattle.std.proofs.lemmas.List.FromFn.{length-map-range_with_len}
use Rattle.std.proofs.lemmas.List.Sums.{count_by-le-length, length-filter, sum_by-append, sum_by-cons, sum_by-le-sum_by, sum_by-set}
use Rattle.std.proofs.lemmas.Option.{get_or_from_slice_get, same_Some, slice_get_within}
use Rattle.ar_statement.specs.Claims.{is_party, log_party}
use Rattle.ar_statement.specs.declared.party.Party.{Party}
use Rattle.ar_statement.proofs.Statements.{is_party-self}
use Rattle.ar_world.specs.Delivering.{addressed, is_sender}
use Rattle.ar_world.specs.ar_nodes.Pool.{delivered_to}
use Rattle.ar_world.specs.ar_nodes.Pool.{Pooled}
use Rattle.report_text.specs.declared.happening.Target.{Target}
use Rattle.report_text.specs.declared.happening.Target.TheVariants as target
use Rattle.ar_base.proofs.Shown.{find-true}

-- ---- what a test passes

-- one for what passes
abbrev one-if : Bool → ℕ
one-if b = cond b 1 0

weaker : (was is : Bool) → (is ≡ true → was ≡ true) → one-if is ≤ one-if was
weaker true true within = omega arith
weaker true false within = omega arith
weaker false true within = let e : false ≡ true = within refl in absurd cc
weaker false false within = omega arith

-- Where the first that passed does not any more, and none passes that did not, fewer pass.
one-fewer : {X : Type 0} (was is : X → Bool) (xs : List X) (x : X) → find was xs ≡ Some x → is x ≡ false → ((y : X) → is y ≡ true → was y ≡ true)
    → count_by is xs + 1 ≤ count_by was xs
one-fewer was is [] x found gone within = absurd cc
one-fewer was is (y ∷ ys) x found gone within =
    rw (sum_by-cons (λ z. one-if (is z)) y ys, sum_by-cons (λ z. one-if (was z)) y ys)
    (by (was y) (is y) refl refl found (λ later. one-fewer was is ys x later gone within))
  where
    by : (a b : Bool) → was y ≡ a → is y ≡ b → cond a (Some y) (find was ys) ≡ Some x → (find was ys ≡ Some x → count_by is ys + 1 ≤ count_by was ys)
        → one-if b + count_by is ys + 1 ≤ one-if a + count_by was ys
    by true true p q found rest = let same = same_Some y x found in let e : true ≡ false = sym q ∙ ap is same ∙ gone in absurd cc
    by true false p q found rest =
        let no_more = sum_by-le-sum_by (λ z. one-if (is z)) (λ z. one-if (was z)) ys (λ z. weaker (was z) (is z) (within z)) in omega arith
    by false true p q found rest = let e : false ≡ true = sym p ∙ within y q in absurd cc
    by false false p q found rest = let fewer = rest found in omega arith

-- ---- one message

-- a message is yet to be delivered to a party that takes deliveries
abbrev pub waits : (Party → Bool) → Pooled → Party → Bool
waits takes p who = takes who && not (list_any (is_party who) p.delivered)

-- to how many of those that it is addressed to, of so many logs
abbrev pub waiting : (Party → Bool) → ℕ → Pooled → ℕ
waiting takes logs p = count_by (waits takes p) (addressed logs p.from p.to)

-- the message with this party among those that it was delivered to
abbrev had-by : Party → Pooled → Pooled
had-by who p = record p { delivered = p.delivered ++ who ∷ [] }

-- a message that waited for a party was not delivered to it
had-now : (takes : Party → Bool) (p : Pooled) (who : Party) → waits takes p who ≡ true → delivered_to who p ≡ had-by who p
had-now takes p who waited =
    let two = and_parts (takes who) (not (list_any (is_party who) p.delivered)) waited in
    let new : list_any (is_party who) p.delivered ≡ false = not-true (list_any (is_party who) p.delivered) two.1 in
    ap (λ b. cond b p (had-by who p)) new

-- what waits then
waits-then : (takes : Party → Bool) (p : Pooled) (who other : Party) (had : Bool) → list_any (is_party other) (who ∷ []) ≡ had
    → waits takes (had-by who p) other ≡ (takes other && not (list_any (is_party other) p.delivered || had))
waits-then takes p who other had is =
    ap (λ b. takes other && not b) (list_any-append (is_party other) p.delivered (who ∷ []))
    ∙ ap (λ b. takes other && not (list_any (is_party other) p.delivered || b)) is

taken-out : (a b : Bool) → (a && not (b || true)) ≡ false
taken-out true true = refl
taken-out true false = refl
taken-out false b = refl

no-more : (a b c : Bool) → (a && not (b || c)) ≡ true → (a && not b) ≡ true
no-more true true c h = absurd cc
no-more true false c h = refl
no-more false b c h = absurd cc

-- Delivered to the first it waits for, a message waits for fewer.
waiting-falls : (takes : Party → Bool) (logs : ℕ) (p : Pooled) (who : Party) → find (waits takes p) (addressed logs p.from p.to) ≡ Some who
    → waiting takes logs (delivered_to who p) + 1 ≤ waiting takes logs p
waiting-falls takes logs p who found =
    let now = had-now takes p who (find-true (waits takes p) (addressed logs p.from p.to) who found) in
    let is : list_any (is_party who) (who ∷ []) ≡ true = ap (λ b. b || false) (is_party-self who) in
    let gone = waits-then takes p who who true is ∙ taken-out (takes who) (list_any (is_party who) p.delivered) in
    subst (λ (q : Pooled). waiting takes logs q + 1 ≤ waiting takes logs p) (sym now)
    (one-fewer (waits takes p) (waits takes (had-by who p)) (addressed logs p.from p.to) who found gone (λ other still.
    no-more (takes other) (list_any (is_party other) p.delivered) (list_any (is_party other) (who ∷ []))
    (sym (waits-then takes p who other (list_any (is_party other) (who ∷ [])) refl) ∙ still)))

-- ---- a pool

-- to how many in all
abbrev pub waiting-in : (Party → Bool) → ℕ → List Pooled → ℕ
waiting-in takes logs pool = sum_by (waiting takes logs) pool

addressed-few : (logs : ℕ) (from : Option Party) (to : Target) → logs ≤ 16 → length (addressed logs from to) ≤ 16
addressed-few logs from target.Nobody few = omega arith
addressed-few logs from target.Logs few =
    let others : Party → Bool = λ who. not (is_sender from who) in
    let all : List Party = map log_party (range_with_len 0 logs) in
    let kept = length-filter others all in
    let most = count_by-le-length others all in
    let many = length-map-range_with_len log_party 0 logs in
    omega arith
addressed-few logs from (target.One who) few = omega arith

waiting-few : (takes : Party → Bool) (logs : ℕ) (p : Pooled) → logs ≤ 16 → waiting takes logs p ≤ 16
waiting-few takes logs p few =
    let most = count_by-le-length (waits takes p) (addressed logs p.from p.to) in
    let short = addressed-few logs p.from p.to few in
    omega arith

-- each message waits for 16 at most
pub pool-few : (takes : Party → Bool) (logs : ℕ) (pool : List Pooled) → logs ≤ 16 → waiting-in takes logs pool ≤ 16 * length pool
pool-few takes logs [] few = omega arith
pool-few takes logs (p ∷ more) few =
    let both = sum_by-cons (waiting takes logs) p more in
    let here = waiting-few takes logs p few in
    let rest = pool-few takes logs more few in
    omega arith

-- A message is delivered to the first it waits for, and others come behind the pool: one fewer is waited for, beside those.
pub pool-falls : (takes : Party → Bool) (logs : ℕ) (pool new : List Pooled) (place : ℕ) (p : Pooled) (who : Party) → logs ≤ 16 → slice_get pool place ≡ Some p
    → find (waits takes p) (addressed logs p.from p.to) ≡ Some who
    → waiting-in takes logs (slice_set pool place (delivered_to who p) ++ new) + 1 ≤ waiting-in takes logs pool + 16 * length new
pool-falls takes logs pool new place p who few there found =
    let f : Pooled → ℕ = waiting takes logs in
    let all = sum_by-append f (slice_set pool place (delivered_to who p)) new in
    let one = sum_by-set f pool place (delivered_to who p) p (slice_get_within pool place p there) in
    let was : f (get_or pool place p) ≡ f p = ap f (get_or_from_slice_get pool place p p there) in
    let falls = waiting-falls takes logs p who found in
    let rest = pool-few takes logs new few in
    omega arith
