use Rattle.std.proofs.Common.{◌≡◌, refl, sym, ap, subst, ◌∙◌, List, [], ◌∷◌, Ok, Err, inr}
use Rattle.std.specs.Prelude.{Result}
use Rattle.std.specs.Result.{result_and}
use Rattle.ar_base.specs.FirstFailing.{first_error}
use Rattle.ar_base.specs.Gives.{GivesUnless}
use Rattle.ar_council.specs.Values.{vote_claim}
use Rattle.ar_statement.specs.Claims.{claim_of, text_of}
use Rattle.epoch_log.specs.Calls.{own_vote_text}
use Rattle.epoch_log.specs.State.{epoch_of, table_of}
use Rattle.log_sending.specs.Checks.{all_taken, leaves_left, not_stated, not_voted, same_base, same_root}
use Rattle.log_sending.specs.Judged.{judged}
use Rattle.log_sending.specs.declared.refusal.LogRefusal.TheVariants as refusals
use Rattle.log_core.specs.Proposed.{voting_checks}
use Rattle.log_core.proofs.log_core.LogCore.may_vote.Goals as goal

-- where all checks but the last hold, the last tells
led : {E : Type 0} (x y z last : Result (Unit {0}) E) → first_error (x ∷ y ∷ z ∷ []) ≡ Ok tt → first_error (x ∷ y ∷ z ∷ last ∷ []) ≡ result_and last (Ok tt)
led (Err e) y z last is = absurd (cc)
led (Ok u) (Err e) z last is = absurd (cc)
led (Ok u) (Ok v) (Err e) last is = absurd (cc)
led (Ok u) (Ok v) (Ok w) last is = refl

-- where the first two checks hold, the others tell
behind_two : {E : Type 0} (x y : Result (Unit {0}) E) (rest : List (Result (Unit {0}) E)) → first_error (x ∷ y ∷ []) ≡ Ok tt → first_error (x ∷ y ∷ rest) ≡ first_error rest
behind_two (Err e) y rest is = absurd (cc)
behind_two (Ok u) (Err e) rest is = absurd (cc)
behind_two (Ok u) (Ok v) rest is = refl

-- so a value that is given unless the last check fails is given unless one of all does
given : {T E : Type 0} (last : Result (Unit {0}) E) (value : T) (memory : E) (expected : Result (Unit {0}) E) → expected ≡ result_and last (Ok tt)
    → GivesUnless memory (λ _. tt) (result_and last (Ok value)) expected
given (Ok u) value memory expected is = is
given (Err e) value memory expected is = inr is

pub returns-clause-checked : goal.returns-clause-checked
returns-clause-checked c =
    let s = c.self.inside.log.state in
    let nothing : first_error (not_voted s ∷ not_stated s ∷ []) ≡ Ok tt =
    subst (λ v. first_error (not_voted v.log ∷ not_stated v.log ∷ []) ≡ Ok tt) (sym c.self.view_is) (sym c.in_ok-has_done_nothing.ensures) in
    let leaf : leaves_left s.past.signed (own_vote_text s c.args.value.now ∷ []) ≡ c.leaf_left.result =
    sym (c.leaf_left.ensures ∙ ap (λ past. leaves_left past.signed (text_of (claim_of c.vote_statement-statement.result) ∷ [])) c.record.ensures
    ∙ ap (λ claim. leaves_left s.past.signed (text_of claim ∷ [])) (c.vote_statement-statement.ensures ∙ (λ i. vote_claim (c.number.ensures i) (c.epoch.ensures i) c.args.value.now))) in
    let base = same_base s c.args.value.now.base in
    let judging = judged (table_of s) (epoch_of s) c.args.changes.now in
    let taken = all_taken judging in
    let root = same_root judging c.args.value.now.root in
    let last = leaves_left s.past.signed (own_vote_text s c.args.value.now ∷ []) in
    let told : first_error (voting_checks s c.args.value.now c.args.changes.now) ≡ result_and c.leaf_left.result (Ok tt) =
    behind_two (not_voted s) (not_stated s) (base ∷ taken ∷ root ∷ last ∷ []) nothing
    ∙ led base taken root last c.in_ok-table.ensures.checked ∙ ap (λ l. result_and l (Ok tt)) leaf in
    subst (λ v. GivesUnless refusals.Memory (λ _. tt) c.and.result (first_error (voting_checks v.log c.args.value.now c.args.changes.now))) c.self.view_is
    (subst (λ r. GivesUnless refusals.Memory (λ _. tt) r (first_error (voting_checks s c.args.value.now c.args.changes.now))) (sym c.and.ensures)
    (given c.leaf_left.result c.in_ok-table.table refusals.Memory _ told))
