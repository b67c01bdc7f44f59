use Rattle.node_core.proofs.Histories.{many_replies, reply_there}
use Rattle.node_core.proofs.laws.each_reply_is_that_of_its_place.Goals as goal

pub returns-clause-many : goal.returns-clause-many
returns-clause-many g c = many_replies g.C.Core.next

pub returns-clause-place : goal.returns-clause-place
returns-clause-place g c = reply_there g.C.Core.next
