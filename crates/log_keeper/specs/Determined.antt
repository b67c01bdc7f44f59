-- There is one thing that a log sends for a text of its journal, and one that it becomes.
use Rattle.std.proofs.Common.{◌≡◌, List, sym, ◌∙◌, ap, subst, ℕ, Ok, Some, Result}
use Rattle.ar_message.specs.declared.sent.Sent.{Sent}
use Rattle.lms_tree.specs.KeyParts.{KeyParts}
use Rattle.log_core.specs.Keyed.{AreBehind, IsOwn, signed_answer}
use Rattle.log_core.specs.Row.{row}
use Rattle.log_core.specs.State.{CoreState, Input, passes, proposes, rolls, takes}
use Rattle.log_journal.specs.Steps.{LogStanding}
use Rattle.log_keeper.specs.Keeping as keeping
use Rattle.log_core.below.log_sending.specs.declared.refusal.LogRefusal.{LogRefusal}

abbrev standing : CoreState → List KeyParts → LogStanding
standing core keys = record { core = core; keys = keys }

same-keys : (input : Input) (keys one other : List KeyParts) → IsOwn keys input → AreBehind input keys one → AreBehind input keys other → one ≡ other
same-keys (takes bytes) keys one other own a b = a ∙ sym b
same-keys proposes keys one other own a b = a ∙ sym b
same-keys passes keys one other own a b = a ∙ sym b
same-keys (rolls key) keys one other own a b = a own.next own.is_next ∙ sym (b own.next own.is_next)

same-pair : (a b : CoreState × Sent) → ◌≡◌ {A = Result (CoreState × Sent) LogRefusal} (Ok a) (Ok b) → a ≡ b
same-pair a b e = cc

same-input : (a b : Input) → Some a ≡ Some b → a ≡ b
same-input a b e = cc

of-one-input : (input : Input) (party one other : LogStanding) (reply said : Sent) → keeping.Steps party input reply one → keeping.Steps party input said other
    → (reply ≡ said) × (one ≡ other)
of-one-input input party one other reply said a b =
    let keys : one.keys ≡ other.keys = same-keys input party.keys one.keys other.keys a.own a.keys_are b.keys_are in
    let here : signed_answer other.keys (row party.core input) ≡ Ok (one.core, reply) =
    subst (λ (k : List KeyParts). signed_answer k (row party.core input) ≡ Ok (one.core, reply)) keys a.answer in
    let pair : (one.core, reply) ≡ (other.core, said) = same-pair (one.core, reply) (other.core, said) (sym here ∙ b.answer) in (
      ap (λ (p : CoreState × Sent). p.1) pair,
      ap (λ (p : CoreState × Sent). standing p.0 one.keys) pair ∙ ap (standing other.core) keys,
    )

pub one_standing : (party one other : LogStanding) (text : List ℕ) (reply said : Sent) → keeping.takes party text reply one → keeping.takes party text said other
    → (reply ≡ said) × (one ≡ other)
one_standing party one other text reply said a b =
    let same : a.input ≡ b.input = same-input a.input b.input (sym a.says ∙ b.says) in
    of-one-input a.input party one other reply said a.steps (subst (λ (i : Input). keeping.Steps party i said other) (sym same) b.steps)
