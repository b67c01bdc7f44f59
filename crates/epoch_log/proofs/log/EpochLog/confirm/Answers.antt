use Rattle.std.proofs.Common.{◌≡◌, subst}
use Rattle.std.specs.Prelude.{IfSome, OnOk}
use Rattle.ar_base.specs.Gives.{GivesOrWants}
use Rattle.key_roll.specs.Due.{DueParts}
use Rattle.ar_statement.specs.declared.fault.BookFault.TheVariants as book_fault
use Rattle.epoch_log.specs.Answers.{confirmed}
use Rattle.epoch_log.specs.Calls.{after_confirm}
use Rattle.epoch_log.specs.Log.{LogParts, moved, parts_of}
use Rattle.epoch_log.proofs.log.EpochLog.confirm.Goals as goal

pub returns-clause-answer : goal.returns-clause-answer
returns-clause-answer c =
    let same : parts_of c.self.inside.parts ≡ c.args.self.now = cc in
    subst (λ (l : LogParts). IfSome l.state.newest (λ w. GivesOrWants {T = DueParts} {V = DueParts} book_fault.Memory (λ d. d) c.confirm.result (confirmed l.state w c.args.name.now)))
    same c.confirm.ensures.answer

pub returns-clause-ok : goal.returns-clause-ok
returns-clause-ok c =
    let same : parts_of c.self.inside.parts ≡ c.args.self.now = cc in
    subst (λ (l : LogParts). OnOk c.confirm.result (IfSome l.state.newest (λ w. parts_of c.confirm.new.self ≡ moved l (after_confirm l.state w c.args.name.now))))
    same c.confirm.ensures.ok
