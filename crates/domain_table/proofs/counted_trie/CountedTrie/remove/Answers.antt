use Rattle.std.proofs.Common.{ap, ◌∙◌, is_some}
use Rattle.domain_table.proofs.Alone.{least_removed}
use Rattle.domain_table.proofs.counted_trie.CountedTrie.remove.Goals as goal

pub invariant_of-self : goal.invariant_of-self
invariant_of-self g c =
    least_removed c.self.inside.trie c.remove.new.self c.args.key.now c.self.inside.least c.least_without-self-inside.result c.is_some-there.result c.self.invariant c.remove.ensures.entries
    (c.is_some-there.ensures ∙ ap is_some c.get.ensures) c.least_without-self-inside.ensures.less c.least_without-self-inside.ensures.same
