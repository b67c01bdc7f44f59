use Rattle.std.proofs.Common.{subst}
use Rattle.ar_message.specs.declared.sent.Sent.{Sent}
use Rattle.authority_keeper.specs.Inputs.{retires, rolls}
use Rattle.authority_keeper.specs.Keeping.{AuthorityStanding, standing_of}
use Rattle.authority_keeper.specs.Keeping as keeping
use Rattle.authority_keeper.proofs.Orders.{stuck_so}
use Rattle.authority_keeper.proofs.keeper.AuthorityKeeperKeeper.recall.Goals as goal

pub returns-in-Roll-clause-stuck : goal.returns-in-Roll-clause-stuck
returns-in-Roll-clause-stuck c stuck =
    subst (λ (s : AuthorityStanding). (sent : Sent) (later : AuthorityStanding) → ¬ keeping.takes s c.args.text.now sent later) c.self.view_is
    (stuck_so (standing_of c.self.inside.authority) c.args.text.now (rolls c.in-Roll.key) c.in-Roll.ensures (c.roll_again.ensures.stuck stuck))

pub returns-in-Retire-clause-stuck : goal.returns-in-Retire-clause-stuck
returns-in-Retire-clause-stuck c stuck =
    subst (λ (s : AuthorityStanding). (sent : Sent) (later : AuthorityStanding) → ¬ keeping.takes s c.args.text.now sent later) c.self.view_is
    (stuck_so (standing_of c.self.inside.authority) c.args.text.now retires c.in-Retire.ensures (c.retire_again.ensures.stuck stuck))
