use Rattle.std.proofs.Common.{◌≡◌, subst, sym}
use Rattle.std.specs.Prelude.{All, OnOk}
use Rattle.ar_base.specs.Gives.{GivesOrWants}
use Rattle.key_roll.specs.Due.{DueParts}
use Rattle.ar_statement.specs.declared.fault.BookFault.TheVariants as book_fault
use Rattle.vote_quorum.specs.declared.value.Value.{Value}
use Rattle.epoch_log.specs.Answers.{proposed}
use Rattle.epoch_log.specs.Calls.{after_propose}
use Rattle.epoch_log.specs.Log.{LogParts, moved, parts_of}
use Rattle.epoch_log.specs.Right.{SawEndorsements}
use Rattle.epoch_log.specs.declared.entries.Closing.{Closing}
use Rattle.epoch_log.proofs.log.EpochLog.propose.Goals as goal

pub propose-requires-clause-endorsed : goal.propose-requires-clause-endorsed
propose-requires-clause-endorsed c =
    let same : parts_of c.self.inside.parts ≡ c.args.self.now = cc in
    subst (λ (l : LogParts). All (SawEndorsements l.state.past.seen) c.args.changes.items) (sym same) c.requires.endorsed

pub returns-clause-answer : goal.returns-clause-answer
returns-clause-answer c =
    let same : parts_of c.self.inside.parts ≡ c.args.self.now = cc in
    let value : Value = record { base = c.args.base; root = c.args.root } in
    subst (λ (l : LogParts). GivesOrWants {T = DueParts × Closing} {V = DueParts × Closing} book_fault.Memory (λ r. r) c.propose.result (proposed l.state value c.args.changes.items)) same c.propose.ensures.answer

pub returns-clause-ok : goal.returns-clause-ok
returns-clause-ok c =
    let same : parts_of c.self.inside.parts ≡ c.args.self.now = cc in
    let value : Value = record { base = c.args.base; root = c.args.root } in
    subst (λ (l : LogParts). OnOk c.propose.result (parts_of c.propose.new.self ≡ moved l (after_propose l.state value c.args.changes.items).0)) same c.propose.ensures.ok
