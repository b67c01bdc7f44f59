use Rattle.ar_message.specs.Lists.{IsVote}
use Rattle.log_sending.specs.Sending.{sent_votes}
use Rattle.log_sending.proofs.Ascending.{each-fits}
use Rattle.log_sending.proofs.own_places.sent_votes.Goals as goal

pub add_votes-requires : goal.add_votes-requires
add_votes-requires c = each-fits (λ x. x.log) IsVote 0 (sent_votes c.args.len c.args.votes.now) c.requires.1
