-- What has been appended so far is the text of the entries so far.
use Rattle.std.proofs.Common.{take, Ok}
use Rattle.std.specs.List.{flat_map}
use Rattle.ar_base.specs.Appending.{Appends}
use Rattle.ar_message.specs.Lists.{vote_text}
use Rattle.ar_message.proofs.writing.put_each_vote.Given as goal

abbrev pub invariant-loop-vote : goal.invariant-loop-vote
invariant-loop-vote l = Appends (flat_map vote_text (take l.vote-index l.votes)) l.initial.out l.out (Ok tt)
