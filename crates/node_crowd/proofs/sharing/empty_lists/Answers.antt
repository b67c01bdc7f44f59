use Rattle.std.proofs.Common.{◌≡◌, [], rules}
use Rattle.node_crowd.proofs.AlongLemmas.{all_more}
use Rattle.node_crowd.proofs.sharing.empty_lists.Goals as goal

pub loop-preserved : goal.loop-preserved
loop-preserved g c = (search rules, all_more (λ list. list.items ≡ []) c.loop.lists.items _ c.new-list.result (search rules) (search rules) c.loop.invariant.1)
