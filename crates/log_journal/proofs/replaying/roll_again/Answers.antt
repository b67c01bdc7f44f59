use Rattle.std.proofs.Common.{rules, ◌≡◌}
use Rattle.kept_journal.specs.declared.fault.ReplayFault.TheVariants as faults
use Rattle.log_journal.specs.Steps.{standing_of}
use Rattle.log_journal.proofs.Replayed.{roll_refused, rolled_newest, rolled_steps}
use Rattle.log_journal.proofs.replaying.roll_again.Goals as goal

pub returns-clause-stuck : goal.returns-clause-stuck
returns-clause-stuck c stuck =
    let is : c.fault_of.result ≡ faults.Stuck = search rules in
    roll_refused (standing_of c.args.log.now) c.args.key.now c.in-Err.refusal (λ next is. (c.in-Err.ensures.row next is).1) (c.fault_of.ensures.memory is)

pub returns-then-is_newest-clause-taken : goal.returns-then-is_newest-clause-taken
returns-then-is_newest-clause-taken c =
    rolled_steps (standing_of c.args.log.now) (standing_of c.roll.new.self) c.args.key.now c.newest_told.ensures.0 c.in-Ok.field-0 c.newest_told.ensures.1
    (c.is_newest.ensures.yes c.if-is_newest.true) c.in-Ok.ensures.row c.in-Ok.ensures.ok

pub returns-in-Ok-clause-stuck : goal.returns-in-Ok-clause-stuck
returns-in-Ok-clause-stuck c stuck later step =
    c.is_newest.ensures.no c.if-is_newest.false
    (rolled_newest c.args.log.now.ring.keys c.roll.new.self.ring.keys step.own.next c.args.key.now (c.in-Ok.ensures.ok step.own.next step.own.is_next) step.own.is)
