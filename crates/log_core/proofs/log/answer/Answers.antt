use Rattle.std.proofs.Common.{rules, ◌≡◌}
use Rattle.log_core.specs.Inputs.{input_of}
use Rattle.log_core.specs.State.{rolls}
use Rattle.log_core.proofs.Keyed.{rolls-sends}
use Rattle.log_core.proofs.log.answer.Goals as goal

pub returns-in-Roll-clause-row : goal.returns-in-Roll-clause-row
returns-in-Roll-clause-row c =
    let is : input_of c.args.input.now ≡ rolls c.in-Roll.field-0.now = search rules in
    rolls-sends c.args.log.now.ring.keys c.roll.new.self.ring.keys (input_of c.args.input.now) c.in-Roll.field-0.now c.args.log.now.core c.roll.new.self.core
    c.roll.result is c.requires c.roll.ensures.row c.roll.ensures.ok
