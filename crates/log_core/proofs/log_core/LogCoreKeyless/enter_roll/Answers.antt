use Rattle.log_core.proofs.Keyed.{roll-few, roll-sends, roll-signs}
use Rattle.log_core.proofs.log_core.LogCoreKeyless.enter_roll.Goals as goal

pub returns-clause-row : goal.returns-clause-row
returns-clause-row c keys = roll-sends keys c.roll.result c.args.self.now c.roll.new.self c.args.next.now c.roll.ensures

pub returns-clause-few : goal.returns-clause-few
returns-clause-few c = roll-few c.roll.result c.args.self.now c.roll.new.self c.args.next.now c.roll.ensures

pub returns-clause-signs : goal.returns-clause-signs
returns-clause-signs c keys key are behind is =
    roll-signs c.roll.result c.args.self.now c.roll.new.self c.args.next.now keys key c.told.ensures c.next_told.ensures c.roll.ensures are behind is
