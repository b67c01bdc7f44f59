use Rattle.std.proofs.Common.{ap, refl, length, arith}
use Rattle.std.specs.FinMap.{insert}
use Rattle.hash_tree.specs.Path.{steps_of}
use Rattle.hash_tree.proofs.Put.{on_ok_both}
use Rattle.hash_tree.proofs.Set.{kept-after, map-after}
use Rattle.hash_tree.proofs.trie.Trie.set.Goals as goal

pub invariant_of-self : goal.invariant_of-self
invariant_of-self g c = kept-after c.put.result 0 c.put.new.self c.self.inside.top _ c.put.ensures.kept c.put.ensures.same c.self.invariant

pub returns-clause-entries : goal.returns-clause-entries
returns-clause-entries g c = map-after c.put.result 0 c.put.new.self _ _ (ap (λ m. insert m c.args.key c.args.value) c.self.view_is) c.put.ensures.kept

pub returns-clause-cost : goal.returns-clause-cost
returns-clause-cost g c =
    on_ok_both c.put.result
    (λ is cost. omega (arith, cost, c.tick.ensures, ap (λ m. length (steps_of c.args.key m)) is))
    (map-after c.put.result 0 c.put.new.self _ _ refl c.put.ensures.kept) c.put.ensures.cost
