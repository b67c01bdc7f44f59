use Rattle.std.proofs.Common.{◌≡◌, length, take, arith, ap, sym, subst, ◌∙◌}
use Rattle.std.proofs.Math.Seq.{take-length}
use Rattle.std.proofs.lemmas.List.Elements.{All-more, All-same}
use Rattle.ar_cert.specs.Changes.{IsChange}
use Rattle.hashed_strings.proofs.log_tables.told.Goals as goal

pub loop-change-preserved : goal.loop-change-preserved
loop-change-preserved c =
    All-more IsChange c.args.changes.now c.loop-change.change-index c.change-item.result c.loop-change-test.true c.loop-change.invariant
    (subst IsChange c.change-item.is c.told.ensures)

pub returns : goal.returns
returns c =
    let all : c.loop-change.change-index ≡ length c.args.changes.now = omega arith in
    All-same IsChange c.args.changes.now (take c.loop-change.change-index c.args.changes.now)
    (sym (ap (λ n. take n c.args.changes.now) all ∙ take-length c.args.changes.now)) c.loop-change.invariant
