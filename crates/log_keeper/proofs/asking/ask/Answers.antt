use Rattle.std.proofs.Common.{◌≡◌, Ok, Some, ap}
use Rattle.log_core.specs.Inputs.{input_of}
use Rattle.log_core.specs.Keyed.{signed_answer}
use Rattle.log_core.specs.Row.{row}
use Rattle.log_journal.proofs.Accepted.{sent_short}
use Rattle.log_journal.specs.Inputs.{input_text}
use Rattle.log_journal.specs.Steps.{standing_of}
use Rattle.log_keeper.proofs.Kept.{answered, same_number}
use Rattle.log_keeper.proofs.asking.ask.Goals as goal

pub returns-clause-done : goal.returns-clause-done
returns-clause-done c =
    let answer : signed_answer c.answer.new.log.ring.keys (row c.args.log.now.core (input_of c.args.input.now)) ≡ Ok (c.answer.new.log.core, c.in_ok-reply.reply) = c.in_ok-reply.ensures.row in
    let is : c.in_ok-text.text ≡ input_text (input_of c.args.input.now) =
    c.in_ok-text.ensures (sent_short c.answer.new.log.ring.keys c.args.log.now.core c.answer.new.log.core (input_of c.args.input.now) c.in_ok-reply.reply answer) in (
      ap Some is,
      answered (standing_of c.args.log.now) (standing_of c.answer.new.log) (input_of c.args.input.now) c.in_ok-reply.reply c.input_told.ensures c.requires answer
          c.in_ok-reply.ensures.ok,
    )

pub returns-clause-number : goal.returns-clause-number
returns-clause-number c =
    same_number c.answer.new.log.ring.keys c.args.log.now.core c.answer.new.log.core (input_of c.args.input.now) c.in_ok-reply.reply c.in_ok-reply.ensures.row
