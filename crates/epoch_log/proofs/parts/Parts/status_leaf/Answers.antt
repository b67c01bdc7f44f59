use Rattle.std.proofs.Common.{◌≡◌, ap, subst, ◌∙◌, ℕ, List, Err}
use Rattle.std.specs.Prelude.{IfErr}
use Rattle.ar_statement.specs.Claims.{Claim, text_of}
use Rattle.ar_council.specs.Values.{status_claim}
use Rattle.key_roll.specs.Entry.{entered}
use Rattle.key_roll.specs.Rolls.{is_roll}
use Rattle.epoch_log.specs.Log.{state_in}
use Rattle.epoch_log.specs.State.{epoch_of}
use Rattle.epoch_log.proofs.Texts.{plain-status}
use Rattle.epoch_log.proofs.parts.Parts.status_leaf.Goals as goal

pub leaf_for-requires-clause-plain : goal.leaf_for-requires-clause-plain
leaf_for-requires-clause-plain c =
    ap (λ (k : Claim). is_roll (text_of k)) c.status_statement-statement.ensures ∙ plain-status c.args.self.now.number c.epoch.result c.own_value.result

pub returns-clause-none : goal.returns-clause-none
returns-clause-none c =
    subst (λ (t : List ℕ). IfErr c.leaf_for.result (λ fault. entered c.args.self.now.past.signed.book t ≡ Err fault))
    (ap text_of
    (c.status_statement-statement.ensures ∙ ap (λ (e : ℕ). status_claim c.args.self.now.number e c.own_value.result) c.epoch.ensures
    ∙ ap (status_claim c.args.self.now.number (epoch_of (state_in c.args.self.now))) c.own_value.ensures))
    c.leaf_for.ensures.none
