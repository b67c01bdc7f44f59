use Rattle.std.proofs.Common.{rules, ◌≡◌, Ok}
use Rattle.owner_keeper.specs.Keeping.{order_row}
use Rattle.owner_keeper.proofs.Told.{done_taken, done_told}
use Rattle.owner_keeper.proofs.keeper.OwnerKeeperKeeper.step.Goals as goal

pub returns-clause-taken : goal.returns-clause-taken
returns-clause-taken c =
    let row : order_row c.args.self.now c.args.order.now ≡ Ok (c.in-Ok.reply, c.act.new.self) = search rules in
    done_taken c.args.self.now c.act.new.self c.args.order.now c.in-Ok.reply c.in_ok-text.text c.order_told.ensures c.in_ok-text.ensures row

pub returns-clause-told : goal.returns-clause-told
returns-clause-told c =
    let row : order_row c.args.self.now c.args.order.now ≡ Ok (c.in-Ok.reply, c.act.new.self) = search rules in
    done_told c.args.self.now c.act.new.self c.args.order.now c.in-Ok.reply c.in_ok-text.text c.in_ok-text.ensures row
