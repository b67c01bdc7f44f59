-- What a log was asked, one thing behind the other, with its keys.
use Rattle.std.proofs.Common.{◌≡◌, ℕ, ◌+◌, ◌-◌, ◌<◌, ◌≤◌, List, [], ◌∷◌, ◌++◌, length, map, take, get_or, refl, sym, ap, ◌∙◌, subst, arith, length-append}
use Rattle.std.specs.Prelude.{slice_get}
use Rattle.std.proofs.lemmas.List.{take_more}
use Rattle.std.proofs.lemmas.Option.{same_Some}
use Rattle.std.proofs.lemmas.Simd.{map-map}
use Rattle.script_play.specs.ar_nodes.Parties.{LogNode}
use Rattle.script_play.specs.ar_nodes.Pool.{Pooled}
use Rattle.script_play.specs.ar_nodes.declared.event.LogEvent.{LogEvent}
use Rattle.script_play.specs.ar_nodes.declared.event.LogEvent.TheVariants as events
use Rattle.script_play.specs.ar_world.State.{World}
use Rattle.key_roll.specs.Ring.{IsNext, next_key}
use Rattle.lms_tree.specs.Key.{public_of}
use Rattle.lms_tree.specs.KeyParts.{KeyParts}
use Rattle.lms_tree.specs.declared.public_key.LmsPublic.{LmsPublic}
use Rattle.log_core.specs.Inputs.{input_of}
use Rattle.log_core.specs.State.{Input}
use Rattle.log_core.specs.declared.step.LogInput.{LogInput}
use Rattle.run_replays.specs.log_journal.Inputs.{input_text}
use Rattle.log_restart.specs.Inputs.{texts_of}
use Rattle.run_replays.specs.Inputs.{first_key_of, inputs_from, inputs_of, newest_after, newest_behind}
use Rattle.run_replays.specs.Replayed.{IsNewestKey}
use Rattle.run_replays.proofs.run_safety.PartySteps.{get-last}
use Rattle.run_restart.specs.Asking.{asked_from, asked_of, input_in}
use Rattle.run_restart.specs.declared.asking.Asked.{Asked}

-- ---- keys

newest-more : (keys : List KeyParts) (next : KeyParts) → IsNewestKey (keys ++ next ∷ []) next
newest-more keys next =
    let long = length-append keys (next ∷ []) in
    let place : length (keys ++ next ∷ []) - 1 ≡ length keys = omega (arith, long) in
    ap (slice_get (keys ++ next ∷ [])) place ∙ get-last keys next

-- the next key of a ring, and that it is the newest then
pub key-next : (old new : List KeyParts) (key newest : KeyParts) (public : LmsPublic) → IsNext old key → new ≡ old ++ key ∷ [] → public ≡ public_of key
    → IsNewestKey old newest → (public ≡ public_of (next_key newest)) × IsNewestKey new (next_key newest)
key-next old new key newest public next is made last =
    let same : next.newest ≡ newest = same_Some next.newest newest (sym next.last ∙ last) in
    let so : key ≡ next_key newest = next.is ∙ ap next_key same in
    let keys : new ≡ old ++ next_key newest ∷ [] = is ∙ ap (λ (k : KeyParts). old ++ k ∷ []) so in
    (made ∙ ap public_of so, subst (λ (ks : List KeyParts). IsNewestKey ks (next_key newest)) (sym keys) (newest-more old (next_key newest)))

pub ruleset key_laws = (key-next)

-- ---- what it was asked

asked-more : (newest : KeyParts) (events : List LogEvent) (event : LogEvent)
    → asked_from newest (events ++ event ∷ []) ≡ asked_from newest events ++ asked_of (newest_after newest events) event ∷ []
asked-more newest [] event = refl
asked-more newest (e ∷ events) event = ap (λ (xs : List Asked). asked_of newest e ∷ xs) (asked-more (newest_behind newest e) events event)

newest-later : (newest : KeyParts) (events : List LogEvent) (event : LogEvent)
    → newest_after newest (events ++ event ∷ []) ≡ newest_behind (newest_after newest events) event
newest-later newest [] event = refl
newest-later newest (e ∷ events) event = newest-later (newest_behind newest e) events event

-- Where these things happened to a log, it was asked this, and its keys became these.
abbrev pub AskedSo : List KeyParts → List KeyParts → List LogEvent → List Asked → Type 0
AskedSo old new events asked =
    (newest : KeyParts) → IsNewestKey old newest → (asked ≡ asked_from newest events) × IsNewestKey new (newest_after newest events)

pub asked-nothing : (keys : List KeyParts) → AskedSo keys keys [] []
asked-nothing keys newest last = (refl, last)

-- one thing more
pub asked-step : (old here later : List KeyParts) (events : List LogEvent) (i : ℕ) (d : LogEvent) (before after : List Asked) (one : Asked) → i < length events
    → AskedSo old here (take i events) before
    → ((newest : KeyParts) → IsNewestKey here newest → (one ≡ asked_of newest (get_or events i d)) × IsNewestKey later (newest_behind newest (get_or events i d)))
    → after ≡ before ++ one ∷ [] → AskedSo old later (take (i + 1) events) after
asked-step old here later events i d before after one within so step more newest last =
    let front = take i events in
    let event = get_or events i d in
    let told = so newest last in
    let came = step (newest_after newest front) told.1 in
    let asked : after ≡ asked_from newest (front ++ event ∷ []) =
    more ∙ ap (λ (xs : List Asked). xs ++ one ∷ []) told.0 ∙ ap (λ (x : Asked). asked_from newest front ++ x ∷ []) came.0 ∙ sym (asked-more newest front event) in
    let keys : IsNewestKey later (newest_after newest (front ++ event ∷ [])) =
    subst (λ (k : KeyParts). IsNewestKey later k) (sym (newest-later newest front event)) came.1 in
    subst (λ (es : List LogEvent). (after ≡ asked_from newest es) × IsNewestKey later (newest_after newest es)) (sym (take_more events i d within)) (asked, keys)

pub ruleset asked_laws = (asked-nothing)

-- ---- inputs

-- what it was asked is what the run's inputs are
asked-inputs : (pool : List Pooled) (newest : KeyParts) (events : List LogEvent) → map (input_in pool) (asked_from newest events) ≡ inputs_from pool newest events
asked-inputs pool newest [] = refl
asked-inputs pool newest (events.Take message ∷ more) = ap (λ (is : List Input). input_in pool (asked_of newest (events.Take message)) ∷ is) (asked-inputs pool newest more)
asked-inputs pool newest (events.Propose ∷ more) = ap (λ (is : List Input). input_in pool (asked_of newest events.Propose) ∷ is) (asked-inputs pool newest more)
asked-inputs pool newest (events.Pass ∷ more) = ap (λ (is : List Input). input_in pool (asked_of newest events.Pass) ∷ is) (asked-inputs pool newest more)
asked-inputs pool newest (events.Roll ∷ more) =
    ap (λ (is : List Input). input_in pool (asked_of newest events.Roll) ∷ is) (asked-inputs pool (next_key newest) more)

-- their texts
pub inputs-texts : (w : World) (number : ℕ) (node : LogNode) (asked : List Asked) (inputs : List LogInput)
    → asked ≡ asked_from (first_key_of w number) node.taken → map input_of inputs ≡ map (input_in w.pool) asked
    → texts_of inputs ≡ map input_text (inputs_of w number node)
inputs-texts w number node asked inputs is same =
    sym (map-map input_text input_of inputs) ∙ ap (map input_text) (same ∙ ap (map (input_in w.pool)) is ∙ asked-inputs w.pool (first_key_of w number) node.taken)
