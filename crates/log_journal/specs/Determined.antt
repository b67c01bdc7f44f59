-- There is one thing that a log becomes by an input.
use Rattle.std.proofs.Common.{◌≡◌, List, sym, ◌∙◌, ap, subst, ℕ, Ok, Some}
use Rattle.lms_tree.specs.KeyParts.{KeyParts}
use Rattle.log_core.specs.Keyed.{AreBehind, IsOwn}
use Rattle.log_core.specs.State.{LogAnswer, CoreState, Input, LogStep, passes, proposes, rolls, takes}
use Rattle.log_journal.specs.Steps.{LogStanding, TakesInput}
use Rattle.log_journal.specs.Steps as steps

abbrev standing : CoreState → List KeyParts → LogStanding
standing core keys = record { core = core; keys = keys }

same-keys : (input : Input) (keys one other : List KeyParts) → IsOwn keys input → AreBehind input keys one → AreBehind input keys other → one ≡ other
same-keys (takes bytes) keys one other own a b = a ∙ sym b
same-keys proposes keys one other own a b = a ∙ sym b
same-keys passes keys one other own a b = a ∙ sym b
same-keys (rolls key) keys one other own a b = a own.next own.is_next ∙ sym (b own.next own.is_next)

same-reply : (a b : LogStep) → ◌≡◌ {A = LogAnswer} (Ok a) (Ok b) → a ≡ b
same-reply a b e = cc

pub one_step : (party one other : LogStanding) (input : Input) → TakesInput party input one → TakesInput party input other → one ≡ other
one_step party one other input a b =
    let replies : a.reply ≡ b.reply = same-reply a.reply b.reply (sym a.row_is ∙ b.row_is) in
    let cores : one.core ≡ other.core = a.core_is ∙ ap (λ (r : LogStep). r.after) replies ∙ sym b.core_is in
    let keys : one.keys ≡ other.keys = same-keys input party.keys one.keys other.keys a.own a.keys_are b.keys_are in
    ap (λ (c : CoreState). standing c one.keys) cores ∙ ap (λ (k : List KeyParts). standing other.core k) keys

same-input : (a b : Input) → Some a ≡ Some b → a ≡ b
same-input a b e = cc

pub one_standing : (party one other : LogStanding) (text : List ℕ) → steps.takes party text one → steps.takes party text other → one ≡ other
one_standing party one other text a b =
    let same : a.input ≡ b.input = same-input a.input b.input (sym a.says ∙ b.says) in
    one_step party one other a.input a.steps (subst (λ (i : Input). TakesInput party i other) (sym same) b.steps)
