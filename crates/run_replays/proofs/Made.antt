-- A log is what its inputs make of a new one: it stays so where messages enter the pool, and where it does one thing more.
use Rattle.std.proofs.Common.{◌≡◌, ◌∙◌, inl, inr, ℕ, zero, suc, List, [], ◌∷◌, ◌++◌, refl, sym, ap, subst, Some}
use Rattle.std.specs.Prelude.{map, slice_get}
use Rattle.std.proofs.lemmas.Option.{same_Some}
use Rattle.run_safety.specs.ar_founding.FirstKeys.{Setup, key_for}
use Rattle.run_safety.specs.ar_founding.Founding.{fresh_log}
use Rattle.run_safety.specs.ar_nodes.Acting.{bytes_of}
use Rattle.run_safety.specs.ar_nodes.Parties.{LogNode}
use Rattle.run_safety.specs.ar_nodes.Pool.{Pooled, numbered}
use Rattle.run_safety.specs.ar_nodes.declared.event.LogEvent.{LogEvent}
use Rattle.run_safety.specs.ar_nodes.declared.event.LogEvent.TheVariants as events
use Rattle.ar_statement.specs.declared.party.Role.TheVariants.{LogServer}
use Rattle.run_safety.specs.ar_world.Printed.{as_it_came}
use Rattle.lms_tree.specs.KeyParts.{KeyParts}
use Rattle.run_safety.specs.log_core.State.{Input, takes}
use Rattle.log_journal.specs.Steps.{LogStanding, new_standing}
use Rattle.party_keys.specs.Directory.{Directory}
use Rattle.run_replays.specs.Inputs.{input_of_event, inputs_from, newest_after, newest_behind}
use Rattle.run_replays.specs.Replayed.{Becomes, IsNewestKey, standing_in}
use Rattle.run_replays.proofs.Becoming.{becomes-more, inputs-append, newest-becomes}
use Rattle.run_replays.proofs.Doing.{Does, DoesOrNot, IsThere}

-- each message that a log took is one of the pool
abbrev pub AllThere : List Pooled → List LogEvent → Type 0
AllThere pool [] = Unit {0}
AllThere pool (event ∷ did) = IsThere pool event × AllThere pool did

-- the log with this number is what its inputs make of the one with the first key of this setup and this directory
pub record IsMade (setup : Setup) (genesis : Directory) (pool : List Pooled) (number : ℕ) (node : LogNode) : Type 0 where
  pub becomes : Becomes (new_standing number genesis (key_for setup LogServer number)) (inputs_from pool (key_for setup LogServer number) node.taken) (standing_in node)
  pub there : AllThere pool node.taken

-- one that has done nothing
pub fresh-made : (setup : Setup) (genesis : Directory) (pool : List Pooled) (number : ℕ) → IsMade setup genesis pool number (fresh_log genesis number (key_for setup LogServer number))
fresh-made setup genesis pool number = record { becomes = refl; there = tt }

-- ---- messages enter the pool

-- what is in the pool keeps its number and its bytes
abbrev pub KeepsBytes : List Pooled → List Pooled → Type 0
KeepsBytes pool later = (message : ℕ) (p : Pooled) → numbered pool message ≡ Some p → (q : Pooled) × (numbered later message ≡ Some q) × (q.bytes ≡ p.bytes)

keeps-at : (old new more : List Pooled) → map as_it_came new ≡ map as_it_came old ++ more → (place : ℕ) (p : Pooled) → slice_get old place ≡ Some p
    → (q : Pooled) × (slice_get new place ≡ Some q) × (q.bytes ≡ p.bytes)
keeps-at [] new more e place p is = absurd cc
keeps-at (x ∷ old) [] more e place p is = absurd cc
keeps-at (x ∷ old) (y ∷ new) more e zero p is =
    let head : as_it_came y ≡ as_it_came x = cc in
    (y, refl, ap (λ (q : Pooled). q.bytes) head ∙ ap (λ (q : Pooled). q.bytes) (same_Some x p is))
keeps-at (x ∷ old) (y ∷ new) more e (suc place) p is =
    let rest : map as_it_came new ≡ map as_it_came old ++ more = cc in
    keeps-at old new more rest place p is

pub grown-keeps : (old new more : List Pooled) → map as_it_came new ≡ map as_it_came old ++ map as_it_came more → KeepsBytes old new
grown-keeps old new more e zero p is = absurd cc
grown-keeps old new more e (suc place) p is = keeps-at old new (map as_it_came more) e place p is

same-input : (pool later : List Pooled) (newest : KeyParts) (event : LogEvent) → KeepsBytes pool later → IsThere pool event
    → input_of_event later newest event ≡ input_of_event pool newest event
same-input pool later newest (events.Take message) keeps there =
    let kept = keeps message there.0 there.1 in
    ap takes (ap bytes_of kept.1 ∙ kept.2 ∙ sym (ap bytes_of there.1))
same-input pool later newest events.Propose keeps there = refl
same-input pool later newest events.Pass keeps there = refl
same-input pool later newest events.Roll keeps there = refl

same-inputs : (pool later : List Pooled) (newest : KeyParts) (did : List LogEvent) → KeepsBytes pool later → AllThere pool did
    → inputs_from later newest did ≡ inputs_from pool newest did
same-inputs pool later newest [] keeps there = refl
same-inputs pool later newest (event ∷ did) keeps there =
    ap (λ (i : Input). i ∷ inputs_from later (newest_behind newest event) did) (same-input pool later newest event keeps there.0)
    ∙ ap (λ (is : List Input). input_of_event pool newest event ∷ is) (same-inputs pool later (newest_behind newest event) did keeps there.1)

still-there : (pool later : List Pooled) (event : LogEvent) → KeepsBytes pool later → IsThere pool event → IsThere later event
still-there pool later (events.Take message) keeps there = let kept = keeps message there.0 there.1 in (kept.0, kept.1)
still-there pool later events.Propose keeps there = tt
still-there pool later events.Pass keeps there = tt
still-there pool later events.Roll keeps there = tt

all-still-there : (pool later : List Pooled) (did : List LogEvent) → KeepsBytes pool later → AllThere pool did → AllThere later did
all-still-there pool later [] keeps there = tt
all-still-there pool later (event ∷ did) keeps there = (still-there pool later event keeps there.0, all-still-there pool later did keeps there.1)

pub later-made : (setup : Setup) (genesis : Directory) (pool later : List Pooled) (number : ℕ) (node : LogNode) → KeepsBytes pool later
    → IsMade setup genesis pool number node → IsMade setup genesis later number node
later-made setup genesis pool later number node keeps made =
    let key = key_for setup LogServer number in
    record {
      becomes = subst (λ (is : List Input). Becomes (new_standing number genesis key) is (standing_in node)) (sym (same-inputs pool later key node.taken keeps made.there)) made.becomes;
      there = all-still-there pool later node.taken keeps made.there;
    }

-- ---- one thing more

there-more : (pool : List Pooled) (did : List LogEvent) (event : LogEvent) → AllThere pool did → IsThere pool event → AllThere pool (did ++ event ∷ [])
there-more pool [] event all there = (there, tt)
there-more pool (e ∷ did) event all there = (all.0, there-more pool did event all.1 there)

pub made-newest : (setup : Setup) (genesis : Directory) (pool : List Pooled) (number : ℕ) (did : List LogEvent) (here : LogStanding)
    → Becomes (new_standing number genesis (key_for setup LogServer number)) (inputs_from pool (key_for setup LogServer number) did) here
    → IsNewestKey here.keys (newest_after (key_for setup LogServer number) did)
made-newest setup genesis pool number did here becomes =
    newest-becomes pool (new_standing number genesis (key_for setup LogServer number)) here (key_for setup LogServer number) did refl becomes

does-made : (setup : Setup) (genesis : Directory) (pool : List Pooled) (number : ℕ) (old new : LogNode) → IsMade setup genesis pool number old → Does pool old new
    → IsMade setup genesis pool number new
does-made setup genesis pool number old new made d =
    let key = key_for setup LogServer number in
    let newest = newest_after key old.taken in
    let first = new_standing number genesis key in
    let step = d.steps newest (made-newest setup genesis pool number old.taken (standing_in old) made.becomes) in
    let more : Becomes first (inputs_from pool key (old.taken ++ d.event ∷ [])) (standing_in new) =
    subst (λ (is : List Input). Becomes first is (standing_in new)) (sym (inputs-append pool key old.taken (d.event ∷ [])))
    (becomes-more first (standing_in old) (standing_in new) (inputs_from pool key old.taken) (input_of_event pool newest d.event) made.becomes step) in
    record {
      becomes = subst (λ (did : List LogEvent). Becomes first (inputs_from pool key did) (standing_in new)) (sym d.taken) more;
      there = subst (AllThere pool) (sym d.taken) (there-more pool old.taken d.event made.there d.there);
    }

pub did-made : (setup : Setup) (genesis : Directory) (pool : List Pooled) (number : ℕ) (old new : LogNode) → IsMade setup genesis pool number old → DoesOrNot pool old new
    → IsMade setup genesis pool number new
did-made setup genesis pool number old new made (inl same) = subst (IsMade setup genesis pool number) (sym same) made
did-made setup genesis pool number old new made (inr d) = does-made setup genesis pool number old new made d
