use Rattle.std.proofs.Common.{refl, arith}
use Rattle.vote_quorum.proofs.Silence.{few_statuses, excludes_by_most}
use Rattle.vote_quorum.proofs.exclusion.excluded.Goals as goal

pub overflow_sub-n : goal.overflow_sub-n
overflow_sub-n c = few_statuses c.args.n c.args.statuses.now c.requires

pub returns-then-count-n-clause-ok : goal.returns-then-count-n-clause-ok
returns-then-count-n-clause-ok c =
    ((λ _. (excludes_by_most c.args.n c.args.q c.args.statuses.now _ _ c.most_reported-root.ensures.most).1 (omega (arith, c.if-count-n.true, c.saturating_sub.ensures))), λ _. refl)

pub returns-else-count-n-clause-ok : goal.returns-else-count-n-clause-ok
returns-else-count-n-clause-ok c = (
  λ none. absurd (cc),
  λ excludes. absurd (
      let few = (excludes_by_most c.args.n c.args.q c.args.statuses.now _ _ c.most_reported-root.ensures.most).0 excludes in
      omega (arith, few, c.if-count-n.false, c.saturating_sub.ensures)),
)
