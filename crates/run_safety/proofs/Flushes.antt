-- A `flush` goes to its end: so many deliveries are allowed that one is left as long as one is due.
use Rattle.std.proofs.Common.{◌≡◌, ◌∙◌, ◌<◌, ◌≤◌, ℕ, zero, suc, ◌+◌, ◌*◌, List, [], ◌∷◌, ◌++◌, length, length-append, refl, sym, ap, subst, arith, Bool, true, false, Option, Some, None, is_some, Ok, Err, IfOk}
use Rattle.std.specs.Prelude.{nat_lt, slice_get, slice_set}
use Rattle.std.proofs.lemmas.Bool.{and_parts, ltb-true}
use Rattle.std.proofs.lemmas.Option.{same_Some}
use Rattle.std.proofs.lemmas.List.{length-set}
use Rattle.ar_base.specs.Chaining.{◌>>=◌, need}
use Rattle.ar_base.proofs.Shown.{if-chained}
use Rattle.ar_statement.specs.declared.party.Party.{Party}
use Rattle.ar_world.specs.Delivering.{can_deliver, deliver_line, delivery, due_from, due_or, due_to, next_due, taker_at}
use Rattle.ar_world.specs.ar_nodes.Pool.{delivered_to}
use Rattle.ar_world.specs.Finding.{Effect, has_room, message_at, room}
use Rattle.ar_world.specs.ar_nodes.Pool.{most_pool_bytes, most_messages}
use Rattle.ar_world.specs.Founding.{led_to, may_come}
use Rattle.ar_world.specs.ar_nodes.Pool.{Pooled, bytes_in, numbered, set_numbered}
use Rattle.ar_world.specs.Run.{Progress, delivering, flushed, most_deliveries, progress_of, taken, then_on}
use Rattle.ar_world.specs.State.{World, silent}
use Rattle.ar_world.specs.Step.{event_effect}
use Rattle.ar_world.specs.ar_nodes.declared.fault.WorldFault.TheVariants.{Limit, Order}
use Rattle.ar_world.specs.declared.phase.Phase.TheVariants.{Running}
use Rattle.owner_check.specs.declared.answer.Outcome.{Outcome}
use Rattle.script_text.specs.declared.line.EventLine.TheVariants as event
use Rattle.script_text.specs.declared.line.Line.TheVariants as line
use Rattle.run_safety.specs.Flushes.{LeavesNothingDue}
use Rattle.ar_world.proofs.EachLine.{need-holds}
use Rattle.ar_world.proofs.ar_nodes.Noted.{noted-is}
use Rattle.ar_world.proofs.Sends.{Sends, delivery-sends, noted, noted-takers}
use Rattle.ar_world.proofs.Deliveries.{can-take}
use Rattle.run_safety.proofs.Waiting.{pool-falls, pool-few, waiting-in}

-- ---- the message that is due

-- the place of a message that is due, among messages the first of which has this number
record IsDue (w : World) (first : ℕ) (pool : List Pooled) (due : ℕ × Party) : Type 0 where
  place : ℕ
  message : Pooled
  number : due.0 ≡ first + place
  there : slice_get pool place ≡ Some message
  to : due_to w message ≡ Some due.1

due-here : (w : World) (n : ℕ) (p : Pooled) (more : List Pooled) (due : ℕ × Party) (o : Option Party) (later : Option (ℕ × Party)) → due_to w p ≡ o
    → due_or n o later ≡ Some due → (later ≡ Some due → IsDue w (n + 1) more due) → IsDue w n (p ∷ more) due
due-here w n p more due (Some who) later is h rest =
    let same : (n, who) ≡ due = same_Some (n, who) due h in
    let number : n ≡ due.0 = ap (λ (d : ℕ × Party). d.0) same in
    record { place = 0; message = p; number = omega arith; there = refl; to = is ∙ ap (λ (d : ℕ × Party). Some d.1) same }
due-here w n p more due None later is h rest =
    let it = rest h in
    record { place = suc it.place; message = it.message; number = omega arith; there = it.there; to = it.to }

due-at : (w : World) (n : ℕ) (pool : List Pooled) (due : ℕ × Party) → due_from w n pool ≡ Some due → IsDue w n pool due
unfolding due_from
due-at w n [] due h = absurd cc
due-at w n (p ∷ more) due h = due-here w n p more due (due_to w p) (due_from w (n + 1) more) refl h (due-at w (n + 1) more due)

-- ---- how many deliveries are enough

-- who takes deliveries
abbrev takers-in : World → Party → Bool
takers-in w who = is_some (taker_at w who)

-- how many deliveries are due
abbrev due-in : World → ℕ
due-in w = waiting-in (takers-in w) (length w.logs) w.pool

-- So many deliveries are enough for those that are due, and 16 more for each message for which there is room; one is left.
record AreEnough (most : ℕ) (w : World) : Type 0 where
  one : 0 < most
  all : most_deliveries + due-in w ≤ most + 16 * length w.pool
  few : length w.logs ≤ 16

-- there is room
has-free : (w : World) → has_room w ≡ true → length w.pool < most_messages
unfolding has_room
has-free w free =
    ltb-true (length w.pool) most_messages (and_parts (nat_lt (length w.pool) most_messages) (nat_lt (bytes_in w.pool) most_pool_bytes) free).0

-- messages come behind the pool, one of which is changed
longer : (pool new : List Pooled) (place : ℕ) (p : Pooled) → length (slice_set pool place p ++ new) ≡ length pool + length new
longer pool new place p = length-append (slice_set pool place p) new ∙ ap (λ n. n + length new) (length-set pool place p)

-- where one more was enough before a delivery, so many are behind it
enough-behind : (more : ℕ) (w v : World) (due : ℕ × Party) (p : Pooled) → IsDue w 1 w.pool due → message_at w due.0 ≡ Some p → length w.pool < most_messages
    → Sends (noted w due.0 due.1) v → AreEnough (suc more) w → AreEnough more v
enough-behind more w v due p is found free sends enough =
    let number : due.0 ≡ suc is.place = omega arith in
    let there : slice_get w.pool is.place ≡ Some p = sym (ap (numbered w.pool) number) ∙ found in
    let to : due_to w p ≡ Some due.1 = ap (due_to w) (sym (same_Some is.message p (sym is.there ∙ there))) ∙ is.to in
    let had : Pooled = delivered_to due.1 p in
    let takers : takers-in v ≡ takers-in w = λ i who. (sends.takers who ∙ noted-takers w due.0 due.1 who.role who.number) i in
    let pool : v.pool ≡ slice_set w.pool is.place had ++ sends.new =
    sends.pool ∙ ap (λ (xs : List Pooled). xs ++ sends.new) (noted-is w.pool due.0 due.1 p found) ∙ ap (λ n. set_numbered w.pool n had ++ sends.new) number in
    let later : due-in v ≡ waiting-in (takers-in w) (length w.logs) (slice_set w.pool is.place had ++ sends.new) = λ i. waiting-in (takers i) (sends.logs i) (pool i) in
    let falls = pool-falls (takers-in w) (length w.logs) w.pool sends.new is.place p due.1 enough.few there to in
    let long : length v.pool ≡ length w.pool + length sends.new = ap length pool ∙ longer w.pool sends.new is.place had in
    record {
      one = omega arith;
      all = omega arith;
      few = subst (λ n. n ≤ 16) (sym sends.logs) enough.few;
    }

deliver-enough : (says : Outcome) (more : ℕ) (w : World) (due : ℕ × Party) → next_due w ≡ Some due → AreEnough (suc more) w
    → IfOk (deliver_line says w due.0 due.1) (λ made. AreEnough more made.0)
deliver-enough says more w due is enough =
    if-chained (can_deliver w due.0 due.1) (λ taker. Ok (delivery says w due.0 due.1.number taker)) (λ made. AreEnough more made.0) (λ taker same.
    let parts = can-take (message_at w due.0) (taker_at w due.1) (room w) taker same in
    enough-behind more w (delivery says w due.0 due.1.number taker).0 due parts.0.0
    (due-at w 1 w.pool due is) parts.0.1 (has-free w (need-holds (has_room w) Limit tt parts.2)) (delivery-sends says w due.0 due.1 taker parts.1) enough)

-- ---- a flush

-- what is printed before changes nothing of it
then-ends : (made : Effect) (w : World) (next : World → Progress) (P : World → Type 0) → IfOk made (λ m. P m.0) → ((v : World) → P v → LeavesNothingDue (next v))
    → LeavesNothingDue (then_on (progress_of w made) next)
then-ends (Ok m) w next P holds ends = ends m.0 holds
then-ends (Err why) w next P holds ends = λ none. absurd cc

delivering-ends : (says : Outcome) (more : ℕ) (w : World) (due : Option (ℕ × Party)) (next : World → Progress) → next_due w ≡ due → AreEnough (suc more) w
    → ((v : World) → AreEnough more v → LeavesNothingDue (next v)) → LeavesNothingDue (delivering says w due next)
delivering-ends says more w None next is enough ends = λ none. is
delivering-ends says more w (Some due) next is enough ends =
    then-ends (deliver_line says w due.0 due.1) w next (AreEnough more) (deliver-enough says more w due is enough) ends

flushed-ends : (most : ℕ) (says : ℕ → Outcome) (number : ℕ) (w : World) → AreEnough most w → LeavesNothingDue (flushed most says number w)
unfolding flushed
flushed-ends zero says number w enough = absurd (omega arith)
flushed-ends (suc more) says number w enough =
    delivering-ends (says number) more w (next_due w) (flushed more says (number + 1)) refl enough (flushed-ends more says (number + 1))

pub flush-ends : (says : ℕ → Outcome) (w : World) → length w.logs ≤ 16 → LeavesNothingDue (flushed most_deliveries says 0 w)
flush-ends says w few =
    flushed-ends most_deliveries says 0 w (record {
      one = omega arith;
      all = let all = pool-few (takers-in w) (length w.logs) w.pool few in omega arith;
      few = few;
    })

-- the same of the line
pub flush-line-ends : (says : ℕ → Outcome) (w : World) → length w.logs ≤ 16 → LeavesNothingDue (taken says w (line.Event event.Flush))
unfolding event_effect
flush-line-ends says w few = by (may_come w.phase Running)
  where
    by : (comes : Bool) → LeavesNothingDue (then_on (progress_of w (need comes Order >>= λ u. led_to Running (Ok (silent w)))) (flushed most_deliveries says 0))
    by true = flush-ends says (record w { phase = Running }) few
    by false = λ none. absurd cc
