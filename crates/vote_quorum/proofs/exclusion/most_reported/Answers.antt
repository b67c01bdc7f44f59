use Rattle.std.proofs.Common.{◌≡◌, ◌+◌, ◌∙◌, take, length, subst, ap, arith}
use Rattle.std.specs.Prelude.{IfSome, IsSomeAnd}
use Rattle.std.proofs.Math.Seq.{take-length}
use Rattle.vote_quorum.specs.Statuses.{ComesBefore}
use Rattle.vote_quorum.proofs.Reported.{IsFirstIn, first_of_all, first_stays, leader_stays, leader_goes, first_moved}
use Rattle.vote_quorum.proofs.exclusion.most_reported.Goals as goal
use Rattle.vote_quorum.proofs.exclusion.most_reported.Goals.{in-Some+then-comes_first, in-Some+else-comes_first, in_default}

pub loop-ballot-preserved : goal.loop-ballot-preserved
loop-ballot-preserved c =
    elim c.match-ballot.branch [
      | in-Some+then-comes_first w ↦
          let leads = subst (λ n. IfSome c.loop-ballot.first (λ other. ComesBefore w.in-Some.value.root n other c.loop-ballot.most)) w.report_count-count.ensures.count w.if-comes_first.ensures in (
            first_moved c.args.statuses.now (take (c.loop-ballot.ballot-index + 1) c.args.statuses.now) _ _ _ _ w.first-is (w.most-is ∙ w.report_count-count.ensures.count)
                (leader_goes c.args.statuses.now c.loop-ballot.ballot-index w.in-Some.value c.loop-ballot.first c.loop-ballot.most c.loop-ballot-test.true w.in-Some.is leads c.loop-ballot.invariant.0),
            omega (arith, w.most-is, w.report_count-count.ensures.most),
          )
      | in-Some+else-comes_first w ↦
          let leads = subst (λ n. IsSomeAnd c.loop-ballot.first (λ other. ComesBefore other c.loop-ballot.most w.in-Some.value.root n)) w.report_count-count.ensures.count w.if-comes_first.ensures in (
            first_moved c.args.statuses.now (take (c.loop-ballot.ballot-index + 1) c.args.statuses.now) _ _ _ _ w.first-is w.most-is
                (leader_stays c.args.statuses.now c.loop-ballot.ballot-index w.in-Some.value c.loop-ballot.first c.loop-ballot.most c.loop-ballot-test.true w.in-Some.is leads c.loop-ballot.invariant.0),
            omega (arith, w.most-is, c.loop-ballot.invariant.1),
          )
      | in_default w ↦ (
        first_moved c.args.statuses.now (take (c.loop-ballot.ballot-index + 1) c.args.statuses.now) _ _ _ _ w.first-is w.most-is
            (first_stays c.args.statuses.now c.loop-ballot.ballot-index c.loop-ballot.first c.loop-ballot.most c.loop-ballot-test.true w.in_default.is c.loop-ballot.invariant.0),
        omega (arith, w.most-is, c.loop-ballot.invariant.1),
      )
    ]

pub returns-clause-most : goal.returns-clause-most
returns-clause-most c =
    let past : c.loop-ballot.ballot-index ≡ length c.args.statuses.now = omega (arith, c.loop-ballot-test.false, c.loop-ballot.auto.ballot-index-end) in
    first_of_all c.args.statuses.now c.loop-ballot.first c.loop-ballot.most
    (subst (λ front. IsFirstIn c.args.statuses.now front c.loop-ballot.first c.loop-ballot.most) (ap (λ n. take n c.args.statuses.now) past ∙ take-length c.args.statuses.now) c.loop-ballot.invariant.0)
