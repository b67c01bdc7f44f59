use Rattle.std.proofs.Common.{arith, ap, subst, sym, rules, Result}
use Rattle.ar_base.specs.Gives.{GivesUnless}
use Rattle.domain_table.specs.Applying.{ripen}
use Rattle.domain_table.specs.Tables.{Table}
use Rattle.log_sending.specs.Leading.{table_in}
use Rattle.log_sending.specs.declared.refusal.LogRefusal.{LogRefusal}
use Rattle.log_sending.specs.declared.refusal.LogRefusal.TheVariants as refusals
use Rattle.log_sending.proofs.Leading.{each_more, each_none, each_refused, each_sound}
use Rattle.log_sending.proofs.judging.+take_each.Goals as goal

pub take_each-requires : goal.take_each-requires
take_each-requires t c =
    let keeps = each_sound c.args.table.now c.take_one.new.table c.args.epoch c.args.index c.args.changes.now c.change-item.result (omega (arith, c.ranges.epoch.fits))
    c.requires.sound c.requires.are c.in-len1-up.len_at_least c.change-item.is c.in-Ok.ensures in
    (search rules, (keeps.0, (keeps.1, search rules)))

pub returns-in-empty : goal.returns-in-empty
returns-in-empty t c = each_none c.args.table.now c.args.epoch c.args.index c.args.changes.now c.in-empty.len_below

pub returns-in-Err : goal.returns-in-Err
returns-in-Err t c =
    each_refused c.args.table.now c.args.epoch c.args.index c.args.changes.now c.change-item.result c.in-Err.refusal c.in-len1-up.len_at_least c.change-item.is
    c.in-Err.ensures

pub returns-in-Ok : goal.returns-in-Ok
returns-in-Ok t c =
    subst (λ (answer : Result Table LogRefusal). GivesUnless refusals.Memory (λ (u : Unit {0}). ripen c.take_each.new.table c.args.epoch) c.take_each.result answer)
    (sym (ap table_in (each_more c.args.table.now c.take_one.new.table c.args.epoch c.args.index c.args.changes.now c.change-item.result c.requires.sound
    c.in-len1-up.len_at_least c.change-item.is c.in-Ok.ensures))) c.take_each.ensures
