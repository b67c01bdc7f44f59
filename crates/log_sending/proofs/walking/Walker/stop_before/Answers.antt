use Rattle.std.proofs.Common.{refl}
use Rattle.domain_table.specs.Applying.{judge}
use Rattle.log_sending.proofs.Walks.{accepted, over-long, over-refused}
use Rattle.log_sending.proofs.walking.Walker.stop_before.Goals as goal

pub returns-in-Ok : goal.returns-in-Ok
returns-in-Ok c =
    over-long c.args.self.now
    (record { epoch = c.args.self.now.epoch; table = c.args.self.now.table; taken = c.args.self.now.taken; many = 0; left = c.args.self.now.left })
    c.args.change.now c.requires.sound c.requires.many c.requires.long
    (accepted (judge c.args.self.now.table c.args.self.now.epoch c.args.change.now) c.in-Ok.ensures) refl refl refl refl

pub returns-in-Err : goal.returns-in-Err
returns-in-Err c = over-refused c.args.self.now c.args.change.now c.in-Err.field-0 c.requires.sound c.in-Err.ensures
