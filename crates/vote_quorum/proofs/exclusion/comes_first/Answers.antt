use Rattle.vote_quorum.proofs.Reported.{before_first}
use Rattle.vote_quorum.proofs.exclusion.comes_first.Goals as goal

pub returns-in-Some : goal.returns-in-Some
returns-in-Some c = before_first c.args.first.now c.in-Some.other c.args.root.now c.args.most c.args.count c.leads.result c.in-Some.is c.leads.ensures
