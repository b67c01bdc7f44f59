use Rattle.std.proofs.Common.{◌≡◌, length, take, arith, ap, sym, subst, ◌∙◌}
use Rattle.std.specs.Prelude.{All}
use Rattle.std.proofs.Math.Seq.{take-length}
use Rattle.std.proofs.lemmas.List.Elements.{All-more, All-same}
use Rattle.ar_cert.specs.Changes.{IsChange}
use Rattle.epoch_log.specs.declared.entries.Voted.{Voted}
use Rattle.hashed_strings.proofs.log_tables.voted_told.Goals as goal

pub loop-vote-preserved : goal.loop-vote-preserved
loop-vote-preserved c =
    All-more (λ (v : Voted). All IsChange v.changes) c.args.voted.now c.loop-vote.vote-index c.vote-item.result c.loop-vote-test.true c.loop-vote.invariant
    (subst (λ (v : Voted). All IsChange v.changes) c.vote-item.is (subst (All IsChange) c.as_slice.ensures c.told.ensures))

pub returns : goal.returns
returns c =
    let all : c.loop-vote.vote-index ≡ length c.args.voted.now = omega arith in
    All-same (λ (v : Voted). All IsChange v.changes) c.args.voted.now (take c.loop-vote.vote-index c.args.voted.now)
    (sym (ap (λ n. take n c.args.voted.now) all ∙ take-length c.args.voted.now)) c.loop-vote.invariant
