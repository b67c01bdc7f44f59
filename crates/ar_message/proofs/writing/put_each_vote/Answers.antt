use Rattle.std.proofs.Common.{rules, subst}
use Rattle.ar_base.specs.Appending.{Appends}
use Rattle.ar_base.proofs.Appending.{item_stops}
use Rattle.ar_message.specs.Lists.{vote_text}
use Rattle.ar_message.proofs.writing.put_each_vote.Goals as goal

pub returns-in_err-put_vote : goal.returns-in_err-put_vote
returns-in_err-put_vote c =
    item_stops vote_text _ _ c.vote-item.result _ _ _ _ _ _ c.loop-vote-test.true c.loop-vote.invariant
    (subst (λ x. Appends (vote_text x) c.loop-vote.out c.put_vote.new.out c.put_vote.result) c.vote-item.is c.put_vote.ensures)
    (search rules) (search rules)
