use Rattle.authority_core.proofs.Signing.{roll-few, roll-sends, rolls-signed}
use Rattle.authority_core.proofs.keyless.AuthorityCoreKeyless.enter_roll.Goals as goal

pub returns-clause-row : goal.returns-clause-row
returns-clause-row g c keys = roll-sends keys c.roll.result c.args.self.now.state c.roll.new.self.state c.args.next.now c.roll.ensures.row

pub returns-clause-few : goal.returns-clause-few
returns-clause-few g c = roll-few c.roll.result c.args.self.now.state c.roll.new.self.state c.args.next.now c.roll.ensures.row

pub returns-clause-signs : goal.returns-clause-signs
returns-clause-signs g c keys key are behind is =
    rolls-signed c.roll.result c.args.self.now.state c.roll.new.self.state c.args.next.now keys key c.roll.ensures.row are behind is
