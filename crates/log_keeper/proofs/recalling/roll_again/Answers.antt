use Rattle.std.proofs.Common.{rules, ◌≡◌, ◌++◌, ◌∷◌, [], Ok, Err}
use Rattle.kept_journal.specs.declared.fault.ReplayFault.TheVariants as faults
use Rattle.log_journal.specs.Steps.{standing_of}
use Rattle.log_keeper.proofs.Kept.{other_key, roll_not_taken, roll_same, rolled}
use Rattle.log_keeper.proofs.recalling.roll_again.Goals as goal

pub returns-then-is_newest-clause-taken : goal.returns-then-is_newest-clause-taken
returns-then-is_newest-clause-taken c =
    rolled (standing_of c.args.log.now) (standing_of c.roll.new.self) c.args.key.now c.newest_told.ensures.0 c.in-Ok.sent c.newest_told.ensures.1
    (c.is_newest.ensures.yes c.if-is_newest.true) c.in-Ok.ensures.row c.in-Ok.ensures.ok

pub returns-then-is_newest-clause-number : goal.returns-then-is_newest-clause-number
returns-then-is_newest-clause-number c =
    roll_same (standing_of c.args.log.now) c.newest_told.ensures.0 c.roll.new.self.core (Ok c.in-Ok.sent) (λ next. c.args.log.now.ring.keys ++ next ∷ []) c.newest_told.ensures.1
    c.in-Ok.ensures.row

pub returns-else-is_newest-clause-stuck : goal.returns-else-is_newest-clause-stuck
returns-else-is_newest-clause-stuck c stuck =
    other_key (standing_of c.args.log.now) (standing_of c.roll.new.self) c.args.key.now c.in-Ok.ensures.ok (c.is_newest.ensures.no c.if-is_newest.false)

pub returns-else-is_newest-clause-number : goal.returns-else-is_newest-clause-number
returns-else-is_newest-clause-number c =
    roll_same (standing_of c.args.log.now) c.newest_told.ensures.0 c.roll.new.self.core (Ok c.in-Ok.sent) (λ next. c.args.log.now.ring.keys ++ next ∷ []) c.newest_told.ensures.1
    c.in-Ok.ensures.row

pub returns-in-Err-clause-stuck : goal.returns-in-Err-clause-stuck
returns-in-Err-clause-stuck c stuck =
    let is : c.fault_of.result ≡ faults.Stuck = search rules in
    roll_not_taken (standing_of c.args.log.now) c.args.key.now c.in-Err.refusal (λ next at. (c.in-Err.ensures.row next at).1) (c.fault_of.ensures.memory is)

pub returns-in-Err-clause-number : goal.returns-in-Err-clause-number
returns-in-Err-clause-number c =
    roll_same (standing_of c.args.log.now) c.newest_told.ensures.0 c.roll.new.self.core (Err c.in-Err.refusal) (λ next. c.args.log.now.ring.keys ++ next ∷ []) c.newest_told.ensures.1
    c.in-Err.ensures.row
