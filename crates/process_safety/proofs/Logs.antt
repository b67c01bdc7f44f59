-- Each text that a log takes leaves it kept, and is a step of its party.
use Rattle.std.proofs.Common.{◌≡◌, ◌∙◌, ◌⊎◌, inl, inr, ℕ, ◌+◌, ◌-◌, ◌<◌, ◌^◌, List, [], ◌∷◌, ◌++◌, length, refl, sym, ap, subst, Option, Some, Ok}
use Rattle.std.specs.Prelude.{slice_get}
use Rattle.std.specs.Option.{option_map}
use Rattle.ar_base.proofs.Prefixes.{begins_itself}
use Rattle.ar_base.specs.Bytes.{AreBytes}
use Rattle.ar_council.specs.Council.{council_of}
use Rattle.ar_message.specs.declared.sent.Sent.{Sent}
use Rattle.run_safety.specs.ar_nodes.Acting.{log_does}
use Rattle.run_safety.specs.ar_nodes.Parties.{LogNode, next_of}
use Rattle.run_safety.specs.ar_nodes.declared.event.LogEvent.TheVariants as events
use Rattle.ar_statement.specs.Claims.{log_party}
use Rattle.key_roll.specs.Ring.{IsNext, next_key}
use Rattle.kept_party.specs.Taking.{Becomes}
use Rattle.lms_tree.specs.Key.{public_of}
use Rattle.lms_tree.specs.KeyParts.{KeyParts}
use Rattle.lms_tree.specs.declared.public_key.LmsPublic.{LmsPublic}
use Rattle.log_core.proofs.Standing.{row-stays}
use Rattle.log_core.specs.Claimed.{claims_of}
use Rattle.log_core.specs.Keyed.{IsPlain}
use Rattle.log_core.specs.Row.{IsLogInput, row}
use Rattle.log_core.specs.State.{CoreState, Input, LogAnswer, passes, proposes, rolls, takes}
use Rattle.log_journal.proofs.Replayed.{steps_of}
use Rattle.log_journal.specs.Inputs.{input_in}
use Rattle.log_journal.specs.Steps.{LogStanding, TakesInput, new_standing}
use Rattle.log_keeper.specs.Keeping as log_keeping
use Rattle.party_keys.specs.Directory.{Directory, IsDirectory}
use Rattle.party_keys.specs.Learning.{after_adopting}
use Rattle.party_keys.specs.Signers.{Claimed}
use Rattle.run_safety.specs.Kept.{KeepsLog}
use Rattle.run_safety.proofs.KeptNodes.{fresh-log-kept, log-does-kept, log-rolls-kept}
use Rattle.run_safety.proofs.LogSteps.{core_parts, input-teaches, log-steps, rolling-adopts}
use Rattle.run_safety.proofs.PartySteps.{Adopts, Learns, Steps, get-last}
use Rattle.process_safety.specs.Unforged.{log_has}
use Rattle.process_safety.proofs.Claims.{claims_of_log, log-message-bytes}

-- ---- as a log of a world

-- a log that stands here with these keys, as one of a world that noted nothing
abbrev pub as_log : CoreState → List KeyParts → LogNode
as_log core keys = record { core = core; keys = keys; taken = [] }

-- it is kept, it is the log with this number, and its council is that of the directory with which it began
pub record KeepsLogAs (directory : Directory) (number : ℕ) (s : LogStanding) : Type 0 where
  pub keeps : KeepsLog (as_log s.core s.keys)
  pub number_is : s.core.log.me ≡ number
  pub council : s.core.log.council ≡ council_of directory

pub new-log-kept : (directory : Directory) (number : ℕ) (key : KeyParts) → IsDirectory directory → number < 2 ^ 16 → KeepsLogAs directory number (new_standing number directory key)
new-log-kept directory number key d small =
    let fresh = fresh-log-kept directory number key d small in
    record {
      keeps = record { core = fresh.core; book = fresh.book; ring = fresh.ring; rolls = fresh.rolls };
      number_is = refl;
      council = refl;
    }

-- what holds of a core and keys that it is made of
of-parts : (P : CoreState → List KeyParts → Type 0) (core : CoreState) (keys : List KeyParts) (new : LogStanding) → new.core ≡ core → new.keys ≡ keys → P core keys → P new.core new.keys
of-parts P core keys new cores same p = subst (λ (c : CoreState). P c new.keys) (sym cores) (subst (P core) (sym same) p)

-- ---- inputs

-- what it is asked to take is bytes
abbrev pub AreTaken : Input → Type 0
AreTaken (takes bytes) = AreBytes bytes
AreTaken proposes = Unit {0}
AreTaken passes = Unit {0}
AreTaken (rolls key) = Unit {0}

-- there is a key to roll to
next-is : (keys : List KeyParts) (next : KeyParts) → IsNext keys next → next_of keys ≡ Some next
next-is keys next is = ap (option_map next_key) is.last ∙ ap Some (sym is.is)

-- ---- a log stays kept

-- where it goes on to no key
plain-kept : (old new : LogStanding) (input : Input) → IsPlain input → IsLogInput input → (step : TakesInput old input new) → new.keys ≡ old.keys → KeepsLog (as_log old.core old.keys)
    → KeepsLog (as_log new.core new.keys)
plain-kept old new input plain is step same kept =
    let made = subst (λ (a : LogAnswer). KeepsLog (log_does (as_log old.core old.keys) old.keys events.Propose a).0) step.row_is
    (log-does-kept (as_log old.core old.keys) events.Propose input kept is plain) in
    of-parts (λ (core : CoreState) (keys : List KeyParts). KeepsLog (as_log core keys)) step.reply.after old.keys new step.core_is same
    (record { core = made.core; book = made.book; ring = made.ring; rolls = made.rolls })

rolled-kept : (old new : LogStanding) (key : LmsPublic) → (step : TakesInput old (rolls key) new) → KeepsLog (as_log old.core old.keys) → KeepsLog (as_log new.core new.keys)
rolled-kept old new key step kept =
    let next : KeyParts = step.own.next in
    let answer : row old.core (rolls (public_of next)) ≡ Ok step.reply = ap (λ (k : LmsPublic). row old.core (rolls k)) (sym step.own.is) ∙ step.row_is in
    let made = subst (λ (a : LogAnswer). KeepsLog (log_does (as_log old.core old.keys) (old.keys ++ next ∷ []) events.Roll a).0) answer
    (log-rolls-kept (as_log old.core old.keys) next kept (next-is old.keys next step.own.is_next)) in
    of-parts (λ (core : CoreState) (keys : List KeyParts). KeepsLog (as_log core keys)) step.reply.after (old.keys ++ next ∷ []) new step.core_is (step.keys_are next step.own.is_next)
    (record { core = made.core; book = made.book; ring = made.ring; rolls = made.rolls })

input-kept : (old new : LogStanding) (input : Input) → AreTaken input → TakesInput old input new → KeepsLog (as_log old.core old.keys) → KeepsLog (as_log new.core new.keys)
input-kept old new (takes bytes) are step kept = plain-kept old new (takes bytes) tt are step step.keys_are kept
input-kept old new proposes are step kept = plain-kept old new proposes tt tt step step.keys_are kept
input-kept old new passes are step kept = plain-kept old new passes tt tt step step.keys_are kept
input-kept old new (rolls key) are step kept = rolled-kept old new key step kept

-- ---- a log steps

plain-steps : (number : ℕ) (old new : LogStanding) (input : Input) → IsPlain input → IsLogInput input → (step : TakesInput old input new) → new.keys ≡ old.keys → old.core.log.me ≡ number
    → Steps (log_party number) (claims_of input) (log_has old) (log_has new)
plain-steps number old new input plain is step same me =
    of-parts (λ (core : CoreState) (keys : List KeyParts). Steps (log_party number) (claims_of input) (log_has old) (core_parts core keys)) step.reply.after old.keys new step.core_is same
    (log-steps number (claims_of input) old.core old.keys old.keys input step.reply me step.row_is (begins_itself old.keys) (λ c has. has)
    (knows (input-teaches old.core input step.reply is plain step.row_is)))
  where
    knows : (step.reply.after.keys ≡ old.core.keys) ⊎ Learns (claims_of input) old.core.keys step.reply.after.keys
        → (step.reply.after.keys ≡ old.core.keys) ⊎ (Learns (claims_of input) old.core.keys step.reply.after.keys ⊎ Adopts (log_party number) old.core.keys (core_parts step.reply.after old.keys))
    knows (inl still) = inl still
    knows (inr l) = inr (inl l)

rolled-steps : (number : ℕ) (old new : LogStanding) (key : LmsPublic) → (step : TakesInput old (rolls key) new) → old.core.log.me ≡ number → length old.keys ≡ old.core.log.past.signed.newest + 1
    → Steps (log_party number) (claims_of (rolls key)) (log_has old) (log_has new)
rolled-steps number old new key step me many =
    let next : KeyParts = step.own.next in
    let more : List KeyParts = old.keys ++ next ∷ [] in
    of-parts (λ (core : CoreState) (keys : List KeyParts). Steps (log_party number) [] (log_has old) (core_parts core keys)) step.reply.after more new step.core_is (step.keys_are next step.own.is_next)
    (log-steps number [] old.core old.keys more (rolls key) step.reply me step.row_is (next ∷ [], refl) (λ c has. has) (inr (inr (record {
      generation = old.core.log.past.signed.newest;
      key = next;
      there = ap (slice_get more) (sym many) ∙ get-last old.keys next;
      is = rolling-adopts old.core key step.reply step.row_is
          ∙ ap (λ n. after_adopting old.core.keys (log_party n) old.core.log.past.signed.newest key) me
          ∙ ap (after_adopting old.core.keys (log_party number) old.core.log.past.signed.newest) step.own.is;
    }))))

input-steps : (number : ℕ) (old new : LogStanding) (input : Input) → AreTaken input → TakesInput old input new → old.core.log.me ≡ number → KeepsLog (as_log old.core old.keys)
    → Steps (log_party number) (claims_of input) (log_has old) (log_has new)
input-steps number old new (takes bytes) are step me kept = plain-steps number old new (takes bytes) tt are step step.keys_are me
input-steps number old new proposes are step me kept = plain-steps number old new proposes tt tt step step.keys_are me
input-steps number old new passes are step me kept = plain-steps number old new passes tt tt step step.keys_are me
input-steps number old new (rolls key) are step me kept = rolled-steps number old new key step me kept.book.many

-- ---- a text

-- what a keeper takes is an input that its log takes
pub keeper-steps : (old new : LogStanding) (text : List ℕ) (sent : Sent) → (t : log_keeping.takes old text sent new) → TakesInput old t.input new
keeper-steps old new text sent t = steps_of old new t.input sent t.steps.own t.steps.answer t.steps.keys_are

taken-bytes : (text : List ℕ) (input : Input) → AreBytes text → input_in text ≡ Some input → AreTaken input
taken-bytes text (takes bytes) are says = log-message-bytes text bytes are says
taken-bytes text proposes are says = tt
taken-bytes text passes are says = tt
taken-bytes text (rolls key) are says = tt

pub log-text-kept : (directory : Directory) (number : ℕ) (old new : LogStanding) (text : List ℕ) → AreBytes text → Becomes log_keeping.takes old text new
    → KeepsLogAs directory number old → KeepsLogAs directory number new
log-text-kept directory number old new text are becomes kept =
    let t = becomes.1 in
    let step = keeper-steps old new text becomes.0 t in
    let stays = row-stays old.core t.input step.reply step.row_is in
    record {
      keeps = input-kept old new t.input (taken-bytes text t.input are t.says) step kept.keeps;
      number_is = ap (λ (c : CoreState). c.log.me) step.core_is ∙ stays.0 ∙ kept.number_is;
      council = ap (λ (c : CoreState). c.log.council) step.core_is ∙ stays.1 ∙ kept.council;
    }

pub log-text-steps : (directory : Directory) (number : ℕ) (old new : LogStanding) (text : List ℕ) → AreBytes text → Becomes log_keeping.takes old text new
    → KeepsLogAs directory number old → Steps (log_party number) (claims_of_log (input_in text)) (log_has old) (log_has new)
log-text-steps directory number old new text are becomes kept =
    let t = becomes.1 in
    subst (λ (o : Option Input). Steps (log_party number) (claims_of_log o) (log_has old) (log_has new)) (sym t.says)
    (input-steps number old new t.input (taken-bytes text t.input are t.says) (keeper-steps old new text becomes.0 t) kept.number_is kept.keeps)
