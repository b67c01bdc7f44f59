-- What a log becomes by inputs: one thing, part by part, and with which keys.
use Rattle.std.proofs.Common.{◌≡◌, ◌∙◌, ◌-◌, List, [], ◌∷◌, ◌++◌, length, refl, sym, ap, subst, arith, Some, length-append}
use Rattle.std.specs.Prelude.{slice_get}
use Rattle.std.proofs.lemmas.Option.{same_Some}
use Rattle.run_safety.specs.ar_nodes.Pool.{Pooled}
use Rattle.run_safety.specs.ar_nodes.declared.event.LogEvent.{LogEvent}
use Rattle.run_safety.specs.ar_nodes.declared.event.LogEvent.TheVariants as events
use Rattle.key_roll.specs.Ring.{IsOfNext, next_key}
use Rattle.lms_tree.specs.Key.{public_of}
use Rattle.lms_tree.specs.KeyParts.{KeyParts}
use Rattle.lms_tree.specs.declared.public_key.LmsPublic.{LmsPublic}
use Rattle.run_safety.specs.log_core.State.{Input, passes, proposes, rolls, takes}
use Rattle.log_journal.specs.Determined.{one_step}
use Rattle.log_journal.specs.Steps.{LogStanding, TakesInput}
use Rattle.run_replays.specs.Inputs.{input_of_event, inputs_from, newest_after, newest_behind}
use Rattle.run_replays.specs.Replayed.{Becomes, IsNewestKey, TakesNext}
use Rattle.run_safety.proofs.PartySteps.{get-last}

-- ---- parts

pub becomes-more : (first here later : LogStanding) (inputs : List Input) (input : Input) → Becomes first inputs here → TakesInput here input later
    → Becomes first (inputs ++ input ∷ []) later
becomes-more first here later [] input is step = (later, subst (λ (p : LogStanding). TakesInput p input later) is step, refl)
becomes-more first here later (i ∷ inputs) input becomes step = (becomes.0, becomes.1, becomes-more becomes.0 here later inputs input becomes.2 step)

becomes-split : (xs ys : List Input) (first last : LogStanding) → Becomes first (xs ++ ys) last → (mid : LogStanding) × Becomes first xs mid × Becomes mid ys last
becomes-split [] ys first last becomes = (first, refl, becomes)
becomes-split (x ∷ xs) ys first last becomes =
    let rest = becomes-split xs ys becomes.0 last becomes.2 in
    (rest.0, (becomes.0, becomes.1, rest.1), rest.2)

pub becomes-one : (xs : List Input) (first one other : LogStanding) → Becomes first xs one → Becomes first xs other → one ≡ other
becomes-one [] first one other a b = a ∙ sym b
becomes-one (x ∷ xs) first one other a b =
    let mid : a.0 ≡ b.0 = one_step first a.0 b.0 x a.1 b.1 in
    becomes-one xs b.0 one other (subst (λ (p : LogStanding). Becomes p xs one) mid a.2) b.2

-- ---- keys

-- a key that is asked for is that behind the newest
pub own-key : (keys : List KeyParts) (newest : KeyParts) (key : LmsPublic) → IsNewestKey keys newest → IsOfNext keys key → key ≡ public_of (next_key newest)
own-key keys newest key last own =
    let same : own.is_next.newest ≡ newest = same_Some own.is_next.newest newest (sym own.is_next.last ∙ last) in
    own.is ∙ ap public_of (own.is_next.is ∙ ap next_key same)

newest-more : (keys : List KeyParts) (next : KeyParts) → IsNewestKey (keys ++ next ∷ []) next
newest-more keys next =
    let long = length-append keys (next ∷ []) in
    let place : length (keys ++ next ∷ []) - 1 ≡ length keys = omega (arith, long) in
    ap (slice_get (keys ++ next ∷ [])) place ∙ get-last keys next

newest-step : (pool : List Pooled) (here next : LogStanding) (newest : KeyParts) (event : LogEvent) → IsNewestKey here.keys newest
    → TakesInput here (input_of_event pool newest event) next → IsNewestKey next.keys (newest_behind newest event)
newest-step pool here next newest (events.Take message) last step = subst (λ (ks : List KeyParts). IsNewestKey ks newest) (sym step.keys_are) last
newest-step pool here next newest events.Propose last step = subst (λ (ks : List KeyParts). IsNewestKey ks newest) (sym step.keys_are) last
newest-step pool here next newest events.Pass last step = subst (λ (ks : List KeyParts). IsNewestKey ks newest) (sym step.keys_are) last
newest-step pool here next newest events.Roll last step =
    let behind : next.keys ≡ here.keys ++ next_key newest ∷ [] = step.keys_are (next_key newest) (record { newest = newest; last = last; is = refl }) in
    subst (λ (ks : List KeyParts). IsNewestKey ks (next_key newest)) (sym behind) (newest-more here.keys (next_key newest))

pub newest-becomes : (pool : List Pooled) (first here : LogStanding) (newest : KeyParts) (did : List LogEvent) → IsNewestKey first.keys newest
    → Becomes first (inputs_from pool newest did) here → IsNewestKey here.keys (newest_after newest did)
newest-becomes pool first here newest [] last is = subst (λ (p : LogStanding). IsNewestKey p.keys newest) (sym is) last
newest-becomes pool first here newest (event ∷ did) last becomes =
    newest-becomes pool becomes.0 here (newest_behind newest event) did (newest-step pool first becomes.0 newest event last becomes.1) becomes.2

first-more : (keys : List KeyParts) (next key : KeyParts) → slice_get keys 0 ≡ Some key → slice_get (keys ++ next ∷ []) 0 ≡ Some key
first-more [] next key is = absurd cc
first-more (k ∷ keys) next key is = is

first-step : (here next : LogStanding) (input : Input) (key : KeyParts) → TakesInput here input next → slice_get here.keys 0 ≡ Some key → slice_get next.keys 0 ≡ Some key
first-step here next (takes bytes) key step is = ap (λ (ks : List KeyParts). slice_get ks 0) step.keys_are ∙ is
first-step here next proposes key step is = ap (λ (ks : List KeyParts). slice_get ks 0) step.keys_are ∙ is
first-step here next passes key step is = ap (λ (ks : List KeyParts). slice_get ks 0) step.keys_are ∙ is
first-step here next (rolls public) key step is =
    ap (λ (ks : List KeyParts). slice_get ks 0) (step.keys_are step.own.next step.own.is_next) ∙ first-more here.keys step.own.next key is

-- the first key stays
pub first-stays : (first last : LogStanding) (inputs : List Input) (key : KeyParts) → Becomes first inputs last → slice_get first.keys 0 ≡ Some key → slice_get last.keys 0 ≡ Some key
first-stays first last [] key becomes is = ap (λ (p : LogStanding). slice_get p.keys 0) becomes ∙ is
first-stays first last (input ∷ inputs) key becomes is =
    first-stays becomes.0 last inputs key becomes.2 (first-step first becomes.0 input key becomes.1 is)

-- ---- what happened, in parts

pub inputs-append : (pool : List Pooled) (newest : KeyParts) (front did : List LogEvent)
    → inputs_from pool newest (front ++ did) ≡ inputs_from pool newest front ++ inputs_from pool (newest_after newest front) did
inputs-append pool newest [] did = refl
inputs-append pool newest (event ∷ front) did =
    ap (λ (more : List Input). input_of_event pool newest event ∷ more) (inputs-append pool (newest_behind newest event) front did)

pub takes-next : (pool : List Pooled) (first here last : LogStanding) (newest : KeyParts) (front : List LogEvent) (event : LogEvent) (did : List LogEvent)
    → IsNewestKey first.keys newest → Becomes first (inputs_from pool newest (front ++ event ∷ did)) last → Becomes first (inputs_from pool newest front) here
    → TakesNext pool here event did last
takes-next pool first here last newest front event did is becomes came =
    let k = newest_after newest front in
    let split = becomes-split (inputs_from pool newest front) (inputs_from pool k (event ∷ did)) first last
    (subst (λ (is : List Input). Becomes first is last) (inputs-append pool newest front (event ∷ did)) becomes) in
    let same : split.0 ≡ here = becomes-one (inputs_from pool newest front) first split.0 here split.1 came in
    let rest : Becomes here (inputs_from pool k (event ∷ did)) last = subst (λ (p : LogStanding). Becomes p (inputs_from pool k (event ∷ did)) last) same split.2 in
    record { newest = k; is_newest = newest-becomes pool first here newest front is came; next = rest.0; steps = rest.1; rest = rest.2 }
