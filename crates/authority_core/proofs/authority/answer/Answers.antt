use Rattle.std.proofs.Common.{is_none}
use Rattle.ar_message.specs.Messages.{message_in}
use Rattle.ar_message.proofs.Filled.{filled-few}
use Rattle.owner_check.specs.declared.answer.Outcome.TheVariants.{Yes}
use Rattle.authority_core.proofs.Few.{row-few}
use Rattle.authority_core.proofs.Signing.{keys-stay, row-signs}
use Rattle.authority_core.proofs.authority.answer.Goals as goal
use Rattle.authority_core.specs.State.{most_sent}

pub fill-requires : goal.fill-requires
fill-requires g c =
    (row-signs c.authority.inside.core.state c.authority.inside.ring.keys (is_none c.authority.inside.core.check) (message_in c.args.bytes.now) Yes c.authority.invariant c.told.ensures.honest.sound c.step.new.self.state
    c.in_ok-unsigned.unsigned c.in_ok-unsigned.ensures.row).fills

pub invariant_of-authority-2 : goal.invariant_of-authority-2
invariant_of-authority-2 g c =
    keys-stay c.authority.inside.core.state c.step.new.self.state c.authority.inside.ring.keys c.authority.invariant
    (row-signs c.authority.inside.core.state c.authority.inside.ring.keys (is_none c.authority.inside.core.check) (message_in c.args.bytes.now) Yes c.authority.invariant c.told.ensures.honest.sound c.step.new.self.state
    c.in_ok-unsigned.unsigned c.in_ok-unsigned.ensures.row).stays

pub returns-clause-few : goal.returns-clause-few
returns-clause-few g c =
    filled-few most_sent c.authority.inside.ring.keys c.in_ok-unsigned.unsigned c.fill.result
    (row-few c.authority.inside.core.state (is_none c.authority.inside.core.check) (message_in c.args.bytes.now) Yes c.step.new.self.state c.in_ok-unsigned.unsigned c.in_ok-unsigned.ensures.row)
    c.fill.ensures
