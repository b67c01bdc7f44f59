use Rattle.std.proofs.Common.{ap}
use Rattle.authority_keeper.specs.Checks.{book_of}
use Rattle.authority_keeper.specs.Keeping.{standing_of}
use Rattle.authority_keeper.proofs.Rolled.{other_key, rolled}
use Rattle.authority_keeper.proofs.recalling.roll_again.Goals as goal

pub returns-then-is_newest-clause-taken : goal.returns-then-is_newest-clause-taken
returns-then-is_newest-clause-taken c =
    rolled (standing_of c.args.authority.now) (standing_of c.roll.new.self) c.args.key.now c.newest_told.ensures.0 c.in-Ok.sent c.newest_told.ensures.1
    (c.is_newest.ensures.yes c.if-is_newest.true) c.in-Ok.ensures.row c.in-Ok.ensures.ok (ap book_of c.roll.ensures.keeps)

pub returns-else-is_newest-clause-stuck : goal.returns-else-is_newest-clause-stuck
returns-else-is_newest-clause-stuck c stuck =
    other_key (standing_of c.args.authority.now) (standing_of c.roll.new.self) c.args.key.now c.in-Ok.ensures.ok (c.is_newest.ensures.no c.if-is_newest.false)
