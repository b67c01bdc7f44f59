use Rattle.std.proofs.Common.{◌≡◌, length, take, arith, ap, sym, subst, ◌∙◌}
use Rattle.std.specs.Prelude.{All}
use Rattle.std.proofs.Math.Seq.{take-length}
use Rattle.std.proofs.lemmas.List.Elements.{All-more, All-same}
use Rattle.ar_cert.specs.Changes.{IsChange}
use Rattle.epoch_log.specs.declared.entries.Ended.{Ended}
use Rattle.hashed_strings.specs.Made.{changes_in}
use Rattle.hashed_strings.proofs.log_tables.ended_told.Goals as goal

pub loop-epoch-preserved : goal.loop-epoch-preserved
loop-epoch-preserved c =
    All-more (λ (x : Ended). All IsChange (changes_in x.how)) c.args.ended.now c.loop-epoch.epoch-index c.epoch-item.result c.loop-epoch-test.true c.loop-epoch.invariant
    (subst (λ (x : Ended). All IsChange (changes_in x.how)) c.epoch-item.is (subst (All IsChange) c.changes_of.ensures c.told.ensures))

pub returns : goal.returns
returns c =
    let all : c.loop-epoch.epoch-index ≡ length c.args.ended.now = omega arith in
    All-same (λ (x : Ended). All IsChange (changes_in x.how)) c.args.ended.now (take c.loop-epoch.epoch-index c.args.ended.now)
    (sym (ap (λ n. take n c.args.ended.now) all ∙ take-length c.args.ended.now)) c.loop-epoch.invariant
