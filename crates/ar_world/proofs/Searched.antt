-- The messages in front of which nothing is due need no second look: a delivery leaves nothing due before the message that it
-- was of.
use Rattle.std.proofs.Common.{◌≡◌, ◌∙◌, ◌<◌, ◌≤◌, ℕ, zero, suc, ◌+◌, ◌-◌, List, [], ◌∷◌, ◌++◌, drop, take, length, refl, sym, ap, arith, Bool, not, ◌&&◌, Option, Some, None, is_some, IfOk, IfSome, Ok}
use Rattle.std.specs.Prelude.{find, slice_set}
use Rattle.std.proofs.lemmas.Option.{same_Some}
use Rattle.ar_base.proofs.Shown.{if-chained}
use Rattle.ar_nodes.proofs.Noted.{noted-is}
use Rattle.ar_nodes.specs.Pool.{Pooled, delivered_to, set_numbered}
use Rattle.ar_statement.specs.Claims.{has_party}
use Rattle.ar_statement.specs.declared.party.Party.{Party}
use Rattle.owner_check.specs.declared.answer.Outcome.{Outcome}
use Rattle.ar_world.specs.Delivering.{NothingDue, addressed, can_deliver, deliver_line, delivery, due_from, due_or, due_to, next_due, next_due_behind, taker_at}
use Rattle.ar_world.specs.Finding.{message_at, room}
use Rattle.ar_world.specs.State.{World}
use Rattle.ar_world.proofs.Deliveries.{can-take}
use Rattle.ar_world.proofs.Sends.{Sends, delivery-sends, noted, noted-takers}

-- ---- a search that begins behind them

passed-here : (w : World) (n : ℕ) (o : Option Party) (later : Option (ℕ × Party)) → due_or n o later ≡ None → (o ≡ None) × (later ≡ None)
passed-here w n None later h = (refl, h)
passed-here w n (Some who) later h = absurd cc

passed : (w : World) (n i : ℕ) (pool : List Pooled) → due_from w n (take i pool) ≡ None → due_from w (n + i) (drop i pool) ≡ due_from w n pool
unfolding due_from
passed w n zero pool h = ap (λ k. due_from w k pool) (let e : n + zero ≡ n = omega arith in e)
passed w n (suc i) [] h = refl
passed w n (suc i) (p ∷ more) h =
    let none = passed-here w n (due_to w p) (due_from w (n + 1) (take i more)) h in
    ap (λ k. due_from w k (drop i more)) (let e : n + suc i ≡ n + 1 + i = omega arith in e)
    ∙ passed w (n + 1) i more none.1
    ∙ ap (λ o. due_or n o (due_from w (n + 1) more)) (sym none.0)

pub searched : (w : World) (front : ℕ) → NothingDue w front → next_due_behind w front ≡ next_due w
searched w front none = ap (λ k. due_from w k (drop front w.pool)) (let e : front + 1 ≡ 1 + front = omega arith in e) ∙ passed w 1 front w.pool none

-- at first nothing was searched
pub none_searched : (w : World) → NothingDue w 0
unfolding due_from
none_searched w = refl

-- ---- the message that is due

-- the place of a message that is due, among messages the first of which has this number, and that nothing is due before it
record IsNext (w : World) (n : ℕ) (pool : List Pooled) (due : ℕ × Party) : Type 0 where
  place : ℕ
  number : due.0 ≡ n + place
  inside : place < length pool
  before : due_from w n (take place pool) ≡ None

next-here : (w : World) (n : ℕ) (p : Pooled) (more : List Pooled) (due : ℕ × Party) (o : Option Party) (later : Option (ℕ × Party)) → due_to w p ≡ o
    → due_or n o later ≡ Some due → (later ≡ Some due → IsNext w (n + 1) more due) → IsNext w n (p ∷ more) due
unfolding due_from
next-here w n p more due (Some who) later is h rest =
    let number : n ≡ due.0 = ap (λ (d : ℕ × Party). d.0) (same_Some (n, who) due h) in
    record { place = 0; number = omega arith; inside = omega arith; before = refl }
next-here w n p more due None later is h rest =
    let it = rest h in
    let number = it.number in
    let inside = it.inside in
    record { place = suc it.place; number = omega (arith, number); inside = omega (arith, inside); before = ap (λ o. due_or n o (due_from w (n + 1) (take it.place more))) is ∙ it.before }

next-at : (w : World) (n : ℕ) (pool : List Pooled) (due : ℕ × Party) → due_from w n pool ≡ Some due → IsNext w n pool due
unfolding due_from
next-at w n [] due h = absurd cc
next-at w n (p ∷ more) due h = next-here w n p more due (due_to w p) (due_from w (n + 1) more) refl h (next-at w (n + 1) more due)

-- ---- a delivery of it

-- what stands before a place stays where that is changed and more comes behind
front-stays : (place : ℕ) (pool new : List Pooled) (p : Pooled) → place ≤ length pool → take place (slice_set pool place p ++ new) ≡ take place pool
front-stays zero pool new p inside = refl
front-stays (suc place) [] new p inside = absurd (omega (arith, inside))
front-stays (suc place) (q ∷ more) new p inside = ap (λ (xs : List Pooled). q ∷ xs) (front-stays place more new p (omega (arith, inside)))

-- nothing is due of messages of which nothing was, to the parties that took deliveries before
due-stays : (w v : World) (n : ℕ) (pool : List Pooled) → ((p : Pooled) → due_to v p ≡ due_to w p) → due_from v n pool ≡ due_from w n pool
unfolding due_from
due-stays w v n [] same = refl
due-stays w v n (p ∷ more) same =
    ap (λ o. due_or n o (due_from v (n + 1) more)) (same p) ∙ ap (due_or n (due_to w p)) (due-stays w v (n + 1) more same)

-- who takes deliveries
abbrev takers-of : World → Party → Bool
takers-of w who = is_some (taker_at w who)

left-behind : (w v : World) (due : ℕ × Party) (p : Pooled) → IsNext w 1 w.pool due → message_at w due.0 ≡ Some p → Sends (noted w due.0 due.1) v → NothingDue v (due.0 - 1)
left-behind w v due p is found sends =
    let had : Pooled = delivered_to due.1 p in
    let at = is.number in
    let inside = is.inside in
    let number : due.0 ≡ suc is.place = omega (arith, at) in
    let place : due.0 - 1 ≡ is.place = omega (arith, at) in
    let takers : takers-of v ≡ takers-of w = λ i who. (sends.takers who ∙ noted-takers w due.0 due.1 who.role who.number) i in
    let pool : v.pool ≡ slice_set w.pool is.place had ++ sends.new =
    sends.pool ∙ ap (λ (xs : List Pooled). xs ++ sends.new) (noted-is w.pool due.0 due.1 p found) ∙ ap (λ n. set_numbered w.pool n had ++ sends.new) number in
    let front : take (due.0 - 1) v.pool ≡ take is.place w.pool =
    ap (λ n. take n v.pool) place ∙ ap (take is.place) pool ∙ front-stays is.place w.pool sends.new had (omega (arith, inside)) in
    ap (due_from v 1) front
    ∙ due-stays w v 1 (take is.place w.pool) (λ q i. find (λ who. takers i who && not (has_party q.delivered who)) (addressed (sends.logs i) q.from q.to))
    ∙ is.before

-- a delivery that is due leaves nothing due before its message
pub delivered-leaves : (says : Outcome) (w : World) (due : ℕ × Party) → next_due w ≡ Some due → IfOk (deliver_line says w due.0 due.1) (λ made. NothingDue made.0 (due.0 - 1))
delivered-leaves says w due is =
    if-chained (can_deliver w due.0 due.1) (λ taker. Ok (delivery says w due.0 due.1.number taker)) (λ made. NothingDue made.0 (due.0 - 1)) (λ taker same.
    let parts = can-take (message_at w due.0) (taker_at w due.1) (room w) taker same in
    left-behind w (delivery says w due.0 due.1.number taker).0 due parts.0.0 (next-at w 1 w.pool due is) parts.0.1 (delivery-sends says w due.0 due.1 taker parts.1))

-- the message that is due stands behind those that were not looked at
pub due_behind : (w : World) (front : ℕ) (pool : List Pooled) (due : Option (ℕ × Party)) → due ≡ due_from w (front + 1) pool → IfSome due (λ d. front < d.0)
due_behind w front pool None is = tt
due_behind w front pool (Some d) is = let number = (next-at w (front + 1) pool d (sym is)).number in omega (arith, number)
