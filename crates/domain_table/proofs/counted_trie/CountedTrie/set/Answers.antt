use Rattle.std.proofs.Common.{ap, ◌∙◌, is_some}
use Rattle.domain_table.proofs.Alone.{least_set}
use Rattle.domain_table.proofs.counted_trie.CountedTrie.set.Goals as goal

pub invariant_of-self-2 : goal.invariant_of-self-2
invariant_of-self-2 g c =
    least_set c.self.inside.trie c.set.new.self c.args.key.now c.args.value c.self.inside.least c.least_with-self-inside.result c.is_some-there.result c.self.invariant c.in_ok-set.ensures.entries
    (c.is_some-there.ensures ∙ ap is_some c.get.ensures) c.least_with-self-inside.ensures.same c.least_with-self-inside.ensures.more
