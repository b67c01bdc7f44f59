-- Each change leads on.
use Rattle.std.proofs.Common.{◌≡◌, length, arith, ap, ◌∙◌, [], ◌∷◌}
use Rattle.ar_cert.specs.Changes.{Change}
use Rattle.domain_table.specs.Applying.{apply}
use Rattle.epoch_log.proofs.Applying.{next-between}
use Rattle.hashed_strings.proofs.Bases.{done-now, taken-on}
use Rattle.hashed_strings.proofs.log_tables.applied.Goals as goal

pub loop-change-preserved : goal.loop-change-preserved
loop-change-preserved c =
    next-between c.args.epoch c.args.table.now c.args.changes.now c.loop-change.change-index c.loop-change.after c.apply_one.new.table c.change-item.result
    (omega (arith, c.ranges.epoch.fits)) c.loop-change-test.true c.loop-change.invariant
    (c.requires.are c.loop-change.change-index c.change-item.result c.loop-change-test.true)
    (taken-on c.in_ok-is_taken.is_taken c.apply_one.new.table _ c.if-not-is_taken.false c.in_ok-is_taken.ensures
    ∙ ap (λ (x : Change). apply c.loop-change.after c.args.epoch (x ∷ [])) c.change-item.is)

pub returns : goal.returns
returns c =
    let all : c.loop-change.change-index ≡ length c.args.changes.now = omega arith in
    done-now c.args.epoch c.args.table.now c.args.changes.now c.loop-change.change-index c.loop-change.after c.ripen.new.self all c.loop-change.invariant c.in_ok-ripen.ensures.ok
