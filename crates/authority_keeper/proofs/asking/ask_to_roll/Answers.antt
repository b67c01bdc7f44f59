use Rattle.std.proofs.Common.{ap}
use Rattle.authority_keeper.specs.Checks.{book_of}
use Rattle.authority_keeper.specs.Keeping.{standing_of}
use Rattle.authority_keeper.proofs.Orders.{roll_done_by}
use Rattle.authority_keeper.proofs.Rolled.{roll_refused}
use Rattle.authority_keeper.proofs.asking.ask_to_roll.Goals as goal

pub returns-in-Ok-clause-done : goal.returns-in-Ok-clause-done
returns-in-Ok-clause-done c =
    roll_done_by (standing_of c.args.authority.now) (standing_of c.roll.new.self) c.in_ok-key.key c.in_ok-text.text c.in-Ok.reply c.in_ok-key.ensures c.key_told.ensures.widths c.in_ok-text.ensures
    c.in-Ok.ensures.row c.in-Ok.ensures.ok (ap book_of c.roll.ensures.keeps)

pub returns-in-Err-clause-refused : goal.returns-in-Err-clause-refused
returns-in-Err-clause-refused c =
    roll_refused (standing_of c.args.authority.now) c.in_ok-key.key c.in_ok-key.ensures c.in-Err.refusal (λ next is. (c.in-Err.ensures.row next is).1)
