-- What an honest log does that answers: it notes one thing more, and steps by its input.
use Rattle.std.proofs.Common.{◌≡◌, ◌∙◌, ◌⊎◌, inl, inr, List, [], ◌∷◌, ◌++◌, refl, sym, ap, subst, Some, Ok, Err}
use Rattle.std.specs.Option.{option_map}
use Rattle.std.proofs.lemmas.Option.{same_Some}
use Rattle.run_safety.proofs.ar_nodes.Nodes.{next_is}
use Rattle.run_safety.specs.ar_nodes.Acting.{log_does}
use Rattle.run_safety.specs.ar_nodes.Parties.{LogNode, next_of}
use Rattle.run_safety.specs.ar_nodes.Pool.{Pooled, numbered}
use Rattle.run_safety.specs.ar_nodes.declared.event.LogEvent.{LogEvent}
use Rattle.run_safety.specs.ar_nodes.declared.event.LogEvent.TheVariants as events
use Rattle.key_roll.specs.Ring.{IsNext, next_key}
use Rattle.lms_tree.specs.Key.{public_of}
use Rattle.lms_tree.specs.KeyParts.{KeyParts}
use Rattle.run_safety.specs.log_core.Keyed.{AreBehind, IsPlain}
use Rattle.run_safety.specs.log_core.Row.{row}
use Rattle.run_safety.specs.log_core.State.{LogAnswer, Input, passes, proposes, rolls, takes}
use Rattle.log_journal.proofs.Replayed.{plain_own}
use Rattle.log_journal.specs.Steps.{TakesInput}
use Rattle.run_replays.specs.Inputs.{input_of_event}
use Rattle.run_replays.specs.Replayed.{IsNewestKey, standing_in}

-- the message that a log took is one of the pool
abbrev pub IsThere : List Pooled → LogEvent → Type 0
IsThere pool (events.Take message) = (p : Pooled) × (numbered pool message ≡ Some p)
IsThere pool events.Propose = Unit {0}
IsThere pool events.Pass = Unit {0}
IsThere pool events.Roll = Unit {0}

-- the log did one thing more, by a message of this pool where it took one
pub record Does (pool : List Pooled) (old new : LogNode) : Type 0 where
  pub event : LogEvent
  pub there : IsThere pool event
  pub taken : new.taken ≡ old.taken ++ event ∷ []
  pub steps : (newest : KeyParts) → IsNewestKey old.keys newest → TakesInput (standing_in old) (input_of_event pool newest event) (standing_in new)

-- it did nothing, or that
abbrev pub DoesOrNot : List Pooled → LogNode → LogNode → Type 0
DoesOrNot pool old new = (new ≡ old) ⊎ Does pool old new

plain-behind : (input : Input) (keys : List KeyParts) → IsPlain input → AreBehind input keys keys
plain-behind (takes bytes) keys plain = refl
plain-behind proposes keys plain = refl
plain-behind passes keys plain = refl
plain-behind (rolls key) keys plain = absurd plain

pub answered-does : (pool : List Pooled) (node : LogNode) (event : LogEvent) (input : Input) → IsPlain input → IsThere pool event
    → ((newest : KeyParts) → input_of_event pool newest event ≡ input) → DoesOrNot pool node (log_does node node.keys event (row node.core input)).0
answered-does pool node event input plain there same = by (row node.core input) refl
  where
    by : (a : LogAnswer) → row node.core input ≡ a → DoesOrNot pool node (log_does node node.keys event a).0
    by (Ok reply) at = inr (record {
      event = event;
      there = there;
      taken = refl;
      steps = λ newest last.
          subst (λ (i : Input). TakesInput (standing_in node) i (record { core = reply.after; keys = node.keys })) (sym (same newest))
          (record { own = plain_own node.keys input plain; reply = reply; row_is = at; core_is = refl; keys_are = plain-behind input node.keys plain });
    })
    by (Err refusal) at = inl refl

-- the next key is the one behind the newest
next-newest : (keys : List KeyParts) (newest next : KeyParts) → IsNewestKey keys newest → next_of keys ≡ Some next → next ≡ next_key newest
next-newest keys newest next last is = same_Some next (next_key newest) (sym is ∙ ap (option_map next_key) last)

pub rolled-does : (pool : List Pooled) (node : LogNode) (next : KeyParts) → next_of node.keys ≡ Some next
    → DoesOrNot pool node (log_does node (node.keys ++ next ∷ []) events.Roll (row node.core (rolls (public_of next)))).0
rolled-does pool node next is = by (row node.core (rolls (public_of next))) refl
  where
    one-next : (other : KeyParts) → IsNext node.keys other → next ≡ other
    one-next other behind = next-newest node.keys behind.newest next behind.last is ∙ sym behind.is

    by : (a : LogAnswer) → row node.core (rolls (public_of next)) ≡ a → DoesOrNot pool node (log_does node (node.keys ++ next ∷ []) events.Roll a).0
    by (Ok reply) at = inr (record {
      event = events.Roll;
      there = tt;
      taken = refl;
      steps = λ newest last.
          subst (λ (k : KeyParts). TakesInput (standing_in node) (rolls (public_of k)) (record { core = reply.after; keys = node.keys ++ next ∷ [] })) (next-newest node.keys newest next last is)
          (record {
            own = record { next = next; is_next = next_is node.keys next is; is = refl };
            reply = reply;
            row_is = at;
            core_is = refl;
            keys_are = λ other behind. ap (λ (k : KeyParts). node.keys ++ k ∷ []) (one-next other behind);
          });
    })
    by (Err refusal) at = inl refl
