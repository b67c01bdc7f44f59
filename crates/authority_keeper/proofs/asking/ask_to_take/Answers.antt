use Rattle.std.proofs.Common.{◌≡◌, is_none}
use Rattle.ar_message.specs.Messages.{message_in}
use Rattle.authority_core.specs.Row.{asked_in}
use Rattle.authority_keeper.specs.Inputs.{input_text, takes}
use Rattle.authority_keeper.specs.Keeping.{Sends, answer_to, says_to, standing_of}
use Rattle.authority_keeper.proofs.Answered.{reply_of, short}
use Rattle.authority_keeper.proofs.Orders.{message_done}
use Rattle.authority_keeper.proofs.asking.ask_to_take.Goals as goal

pub returns-clause-done : goal.returns-clause-done
returns-clause-done c =
    let old = standing_of c.args.authority.now in
    let sends : Sends c.args.authority.now.ring.keys (answer_to old c.args.bytes.now) c.in_ok-reply.reply c.answer_by_book.new.authority.core.state = c.in_ok-reply.ensures.row in
    let r = reply_of c.args.authority.now.ring.keys (answer_to old c.args.bytes.now) c.in_ok-reply.reply c.answer_by_book.new.authority.core.state sends in
    let is : c.in_ok-text.text ≡ input_text (takes c.args.bytes.now) =
    c.in_ok-text.ensures (short old.state (is_none old.book) c.args.bytes.now (says_to old.book (asked_in (message_in c.args.bytes.now))) r.0 r.1) in
    message_done old (standing_of c.answer_by_book.new.authority) c.args.bytes.now c.in_ok-text.text c.in_ok-reply.reply is sends c.in_ok-reply.ensures.keys c.in_ok-reply.ensures.book
