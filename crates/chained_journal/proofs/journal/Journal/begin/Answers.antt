use Rattle.std.proofs.Common.{refl}
use Rattle.chained_journal.proofs.Ended.{begun_settled}
use Rattle.chained_journal.proofs.journal.Journal.begin.Goals as goal

pub invariant_of-result : goal.invariant_of-result
invariant_of-result g c = λ is.
    let settled = begun_settled c.args.title.now (g.K.Disk.seen c.begin_on.new.disk) c.start.result (g.K.Disk.may_leave c.begin_on.new.disk) c.begin_on.ensures.titled c.in-Ok.ensures.ok.0 c.start.ensures c.in-Ok.ensures.ok.1 in
    settled.0

pub returns-in-Ok-clause-texts : goal.returns-in-Ok-clause-texts
returns-in-Ok-clause-texts g c =
    let settled = begun_settled c.args.title.now (g.K.Disk.seen c.begin_on.new.disk) c.start.result (g.K.Disk.may_leave c.begin_on.new.disk) c.begin_on.ensures.titled c.in-Ok.ensures.ok.0 c.start.ensures c.in-Ok.ensures.ok.1 in
    (settled.1, refl, refl, refl)
