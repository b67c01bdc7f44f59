use Rattle.std.proofs.Common.{◌≡◌, ◌⊎◌, inl, inr, ap, ◌∙◌, sym, Some, Ok, List, ℕ, ⊎_elim}
use Rattle.std.proofs.lemmas.Result.{err_from_is_err_and}
use Rattle.desk_run.specs.Answers.{AnswersLine}
use Rattle.kept_journal.proofs.Moments.{weaker}
use Rattle.kept_journal.specs.Journal.{IsBeforeOrAfter}
use Rattle.desk_run.specs.Crashes.{LeavesLine}
use Rattle.desk_run.proofs.Asked.{asked_done, asked_not_done, asks_short, held_whole, no_memory}
use Rattle.desk_run.proofs.serving.answer.Goals as goal

pub returns-in_err-refused-clause-not_done : goal.returns-in_err-refused-clause-not_done
returns-in_err-refused-clause-not_done g c line passed =
    let p = err_from_is_err_and c.from_residual.result c.from_residual.ensures.1 in
    rw (p.1, p.2) (no_memory (AnswersLine g.D.LineParty.asked g.D.Keeper.says g.D.Keeper.takes g.D.Keeper.tells g.D.Keeper.refuses g.D.LineParty.sent_text g.D.LineParty.told_text g.D.LineParty.refused_text) g.K.Disk.held c.args.kept.now c.args.number line)

pub returns-in_err-refused-in-Err-Refused-clause-not_done : goal.returns-in_err-refused-in-Err-Refused-clause-not_done
returns-in_err-refused-in-Err-Refused-clause-not_done g c line passed =
    let p = err_from_is_err_and c.from_residual-in_err-refused-in-Err-Refused.result c.from_residual-in_err-refused-in-Err-Refused.ensures.1 in
    rw (p.1, p.2) (no_memory (AnswersLine g.D.LineParty.asked g.D.Keeper.says g.D.Keeper.takes g.D.Keeper.tells g.D.Keeper.refuses g.D.LineParty.sent_text g.D.LineParty.told_text g.D.LineParty.refused_text) g.K.Disk.held c.args.kept.now c.args.number line)

pub returns-in-Ok-Some-clause-did : goal.returns-in-Ok-Some-clause-did
returns-in-Ok-Some-clause-did g c line passed =
    let p = held_whole c.args.lines.now.long c.args.lines.now.line line (sym c.is_long.ensures ∙ c.if-is_long.false) passed in
    let same : line ≡ c.line.result.now = sym p.0 ∙ sym c.line.ensures in
    let asks : g.D.LineParty.asked c.args.kept.now.party line ≡ Ok (Some c.in-Ok-Some.order) =
    ap (λ q. g.D.LineParty.asked q line) (sym c.party.ensures) ∙ ap (g.D.LineParty.asked c.party.result.now) same ∙ c.in-Ok-Some.ensures ∙ ap Ok c.in-Ok-Some.field-0-is in
    asked_done g.D.LineParty.asked g.D.Keeper.says g.D.Keeper.takes g.D.Keeper.tells g.D.Keeper.refuses g.D.LineParty.sent_text g.D.LineParty.told_text g.D.LineParty.refused_text
    (λ text. text.items) c.args.kept.now c.asked.new.kept c.args.number c.in-Ok-Some.order line c.asked.result p.1 asks c.asked.ensures.did

pub returns-in-Ok-Some-clause-not_done : goal.returns-in-Ok-Some-clause-not_done
returns-in-Ok-Some-clause-not_done g c line passed =
    let p = held_whole c.args.lines.now.long c.args.lines.now.line line (sym c.is_long.ensures ∙ c.if-is_long.false) passed in
    let same : line ≡ c.line.result.now = sym p.0 ∙ sym c.line.ensures in
    let asks : g.D.LineParty.asked c.args.kept.now.party line ≡ Ok (Some c.in-Ok-Some.order) =
    ap (λ q. g.D.LineParty.asked q line) (sym c.party.ensures) ∙ ap (g.D.LineParty.asked c.party.result.now) same ∙ c.in-Ok-Some.ensures ∙ ap Ok c.in-Ok-Some.field-0-is in
    asked_not_done g.D.LineParty.asked g.D.Keeper.says g.D.Keeper.takes g.D.Keeper.tells g.D.Keeper.refuses g.D.LineParty.sent_text g.D.LineParty.told_text g.D.LineParty.refused_text
    (λ text. text.items) c.args.kept.now c.asked.new.kept c.args.number c.in-Ok-Some.order line g.K.Disk.held c.asked.result p.1 asks c.asked.ensures.memory c.asked.ensures.stands c.asked.ensures.goes_on c.asked.ensures.stopped c.asked.ensures.mark c.asked.ensures.only

pub returns-in-Ok-Some-clause-any_moment : goal.returns-in-Ok-Some-clause-any_moment
returns-in-Ok-Some-clause-any_moment g c line passed =
    let p = held_whole c.args.lines.now.long c.args.lines.now.line line (sym c.is_long.ensures ∙ c.if-is_long.false) passed in
    let same : line ≡ c.line.result.now = sym p.0 ∙ sym c.line.ensures in
    let old = c.args.kept.now in
    let order = c.in-Ok-Some.order in
    let asks : g.D.LineParty.asked old.party line ≡ Ok (Some order) =
    ap (λ q. g.D.LineParty.asked q line) (sym c.party.ensures) ∙ ap (g.D.LineParty.asked c.party.result.now) same ∙ c.in-Ok-Some.ensures ∙ ap Ok c.in-Ok-Some.field-0-is in
    let short = asks_short g.D.LineParty.asked old.party line p.1 ∙ asks in
    weaker g.K.Disk.moment g.K.Disk.left_since old.journal.disk c.asked.new.kept.journal.disk
    (λ f. g.K.Disk.may_leave old.journal.disk f ⊎ ((text : List ℕ) × (reply : _) × g.D.Keeper.says old.party order text × g.D.Keeper.takes old.party text reply c.asked.new.kept.party × IsBeforeOrAfter old.journal.mark old.journal.texts text f))
    (λ f. g.K.Disk.may_leave old.journal.disk f ⊎ LeavesLine g.D.LineParty.asked g.D.Keeper.says g.D.Keeper.takes old.party line old.journal.mark old.journal.texts f)
    c.asked.ensures.any_moment
    (λ f. ⊎_elim (λ left. inl left) (λ t. inr (record { order = order; asks = short; text = t.0; its = t.2; reply = t.1; later = c.asked.new.kept.party; taken = t.3; stands = t.4 })))

pub returns-in-Err-Memory-clause-not_done : goal.returns-in-Err-Memory-clause-not_done
returns-in-Err-Memory-clause-not_done g c line passed =
    no_memory (AnswersLine g.D.LineParty.asked g.D.Keeper.says g.D.Keeper.takes g.D.Keeper.tells g.D.Keeper.refuses g.D.LineParty.sent_text g.D.LineParty.told_text g.D.LineParty.refused_text) g.K.Disk.held c.args.kept.now c.args.number line
