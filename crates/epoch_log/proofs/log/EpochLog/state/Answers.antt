use Rattle.std.proofs.Common.{◌≡◌, subst}
use Rattle.std.specs.Prelude.{OnOk}
use Rattle.ar_base.specs.Gives.{GivesOrWants}
use Rattle.key_roll.specs.Due.{DueParts}
use Rattle.ar_statement.specs.declared.fault.BookFault.TheVariants as book_fault
use Rattle.epoch_log.specs.Answers.{stated}
use Rattle.epoch_log.specs.Calls.{after_state}
use Rattle.epoch_log.specs.Log.{LogParts, moved, parts_of}
use Rattle.epoch_log.specs.declared.entries.Closing.{Closing}
use Rattle.epoch_log.proofs.log.EpochLog.state.Goals as goal

pub returns-clause-answer : goal.returns-clause-answer
returns-clause-answer c =
    let same : parts_of c.self.inside.parts ≡ c.args.self.now = cc in
    subst (λ (l : LogParts). GivesOrWants {T = DueParts × Closing} {V = DueParts × Closing} book_fault.Memory (λ r. r) c.state.result (stated l.state)) same c.state.ensures.answer

pub returns-clause-ok : goal.returns-clause-ok
returns-clause-ok c =
    let same : parts_of c.self.inside.parts ≡ c.args.self.now = cc in
    subst (λ (l : LogParts). OnOk c.state.result (parts_of c.state.new.self ≡ moved l (after_state l.state).0)) same c.state.ensures.ok
