use Rattle.std.proofs.Common.{◌≡◌, true, false, ap, Err}
use Rattle.log_core.specs.Inputs.{input_of}
use Rattle.log_journal.specs.declared.refusal.KeptRefusal.TheVariants as refusals
use Rattle.log_restart.specs.Inputs.{text_of}
use Rattle.log_restart.proofs.Stepping.{fails_one, given_now, not_refused, own_here, took_one}
use Rattle.log_restart.proofs.running.ask.Goals as goal

pub step-requires : goal.step-requires
step-requires g c = own_here _ c.requires.takes.0 (input_of c.args.input.now) c.input_told.ensures c.requires.takes.1

pub stopped_by-requires : goal.stopped_by-requires
stopped_by-requires g c = record {
  runs = λ is. let stopped : c.args.kept.now.journal.stopped ≡ true = c.in-Err.ensures.reopen.0 (ap Err is) in let going : c.args.kept.now.journal.stopped ≡ false = c.requires.going in absurd cc;
  taken = λ why is. not_refused _ c.requires.takes.0 (input_of c.args.input.now) why c.input_told.ensures c.requires.takes.1 (c.in-Err.ensures.refused why (ap Err is)).0;
}

pub returns-in-Ok-clause-took : goal.returns-in-Ok-clause-took
returns-in-Ok-clause-took g c = λ is.
    took_one g.K.Disk.seen g.K.Disk.held g.K.Disk.may_leave g.K.Disk.fuel g.K.Disk.faults c.args.kept.now c.step.new.self (text_of c.args.input.now)
    c.in-Ok.ensures.texts.2 c.in-Ok.ensures.texts.0 c.in-Ok.ensures.taken c.in-Ok.ensures.spends c.in-Ok.ensures.uncounted

pub returns-in-Err-clause-failed : goal.returns-in-Err-clause-failed
returns-in-Err-clause-failed g c = λ is.
    let disk = ap Err (c.stopped_by.ensures.disk is) in
    let fault = c.in-Err.ensures.fault disk in
    fails_one g.K.Disk.seen g.K.Disk.held g.K.Disk.may_leave g.K.Disk.fuel g.K.Disk.faults c.args.kept.now c.step.new.self (text_of c.args.input.now)
    fault.2
    (given_now g.K.Disk.seen g.K.Disk.held g.K.Disk.may_leave g.K.Disk.fuel g.K.Disk.faults g.K.Disk.moment g.K.Disk.left_since c.args.kept.now c.step.new.self
    (text_of c.args.input.now) c.told.ensures.crash c.step.ensures.any_moment g.met.K.Disk.counts_now (g.met.K.Disk.seen_now c.step.new.self.journal.disk))
    (c.in-Err.ensures.wants disk) fault.1
