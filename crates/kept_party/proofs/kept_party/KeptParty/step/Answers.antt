use Rattle.std.proofs.Common.{rules, ◌≡◌, true}
use Rattle.ar_base.specs.Faults.{HasRisen}
use Rattle.kept_disk.specs.Moments.{LeavesOnly}
use Rattle.kept_journal.specs.Journal.{IsBeforeOrAfter, Stands}
use Rattle.kept_party.proofs.Stepped.{step_moment}
use Rattle.kept_party.proofs.kept_party.KeptParty.step.Goals as goal

pub returns-in_default-append-clause-any_moment : goal.returns-in_default-append-clause-any_moment
returns-in_default-append-clause-any_moment g c =
    let says : g.P.Keeper.says c.args.self.now.party c.args.order.now c.in-Some.text = search rules in
    let takes : g.P.Keeper.takes c.args.self.now.party c.in-Some.text c.in-Ok.done.reply c.step.new.self = search rules in
    let run : LeavesOnly g.K.Disk.moment g.K.Disk.left_since c.args.self.now.journal.disk c.append.new.self.disk (IsBeforeOrAfter c.args.self.now.journal.mark c.args.self.now.journal.texts c.in-Some.text) = search rules in
    step_moment g.K.Disk.moment g.K.Disk.left_since g.K.Disk.may_leave (g.P.Keeper.says c.args.self.now.party c.args.order.now)
    (λ text reply. g.P.Keeper.takes c.args.self.now.party text reply c.step.new.self) c.args.self.now.journal.disk c.append.new.self.disk c.args.self.now.journal.mark
    c.args.self.now.journal.texts c.in-Some.text c.in-Ok.done.reply says takes run

pub returns-clause-any_moment : goal.returns-clause-any_moment
returns-clause-any_moment g c =
    let says : g.P.Keeper.says c.args.self.now.party c.args.order.now c.in-Some.text = search rules in
    let takes : g.P.Keeper.takes c.args.self.now.party c.in-Some.text c.in-Ok.done.reply c.step.new.self = search rules in
    let run : LeavesOnly g.K.Disk.moment g.K.Disk.left_since c.args.self.now.journal.disk c.append.new.self.disk (IsBeforeOrAfter c.args.self.now.journal.mark c.args.self.now.journal.texts c.in-Some.text) = search rules in
    step_moment g.K.Disk.moment g.K.Disk.left_since g.K.Disk.may_leave (g.P.Keeper.says c.args.self.now.party c.args.order.now)
    (λ text reply. g.P.Keeper.takes c.args.self.now.party text reply c.step.new.self) c.args.self.now.journal.disk c.append.new.self.disk c.args.self.now.journal.mark
    c.args.self.now.journal.texts c.in-Some.text c.in-Ok.done.reply says takes run

pub returns-in_default-append-clause-fault : goal.returns-in_default-append-clause-fault
returns-in_default-append-clause-fault g c failed =
    let says : g.P.Keeper.says c.args.self.now.party c.args.order.now c.in-Some.text = search rules in
    let takes : g.P.Keeper.takes c.args.self.now.party c.in-Some.text c.in-Ok.done.reply c.step.new.self = search rules in
    let stopped : c.append.new.self.stopped ≡ true = search rules in
    let risen : HasRisen (g.K.Disk.faults c.args.self.now.journal.disk) (g.K.Disk.faults c.append.new.self.disk) = search rules in
    let held : Stands c.args.self.now.journal.mark c.args.self.now.journal.texts (g.K.Disk.held c.append.new.self.disk) = search rules in
    let count : c.append.new.self.count ≡ c.args.self.now.journal.count = search rules in
    (stopped, risen, held, count, (c.in-Some.text, c.in-Ok.done.reply, says, takes))
