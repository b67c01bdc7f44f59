use Rattle.std.proofs.Common.{◌≡◌, ◌+◌, ap, ◌∙◌, sym, length, true, cond, arith}
use Rattle.std.specs.Prelude.{is_some}
use Rattle.std.specs.FinMap.{contains_key, remove}
use Rattle.hash_tree.specs.Path.{steps_of}
use Rattle.hash_tree.specs.Kept.{map_of}
use Rattle.hash_tree.proofs.Kept.{keeps-kept, keeps-map, steps-most}
use Rattle.hash_tree.proofs.Take.{cut-absent}
use Rattle.hash_tree.proofs.trie.Trie.remove.Goals as goal

pub invariant_of-self : goal.invariant_of-self
invariant_of-self g c = keeps-kept c.take.new.self 0 _ c.take.ensures.kept

pub returns-then-is_some-clause-entries : goal.returns-then-is_some-clause-entries
returns-then-is_some-clause-entries g c = keeps-map c.take.new.self 0 _ c.take.ensures.kept ∙ ap (λ m. remove m c.args.key.now) c.self.view_is

pub returns-then-is_some-clause-cost : goal.returns-then-is_some-clause-cost
returns-then-is_some-clause-cost g c =
    let there : contains_key c.args.self.now c.args.key.now ≡ true = sym (ap is_some c.get.ensures) ∙ sym c.if-is_some.ensures in
    let is : map_of c.take.new.self ≡ remove (map_of c.self.inside.top) c.args.key.now = keeps-map c.take.new.self 0 _ c.take.ensures.kept in
    c.take.ensures.cost
    ∙ ap (λ m. c.args.steps.now + length (steps_of c.args.key.now m)) (sym is)
    ∙ sym (ap (λ b. c.args.steps.now + cond b (length (steps_of c.args.key.now (map_of c.take.new.self))) 0) there)

pub returns-then-is_some-clause-most : goal.returns-then-is_some-clause-most
returns-then-is_some-clause-most g c =
    omega (arith, c.take.ensures.cost, steps-most 256 c.args.key.now (remove (map_of c.self.inside.top) c.args.key.now))

pub returns-else-is_some-clause-entries : goal.returns-else-is_some-clause-entries
returns-else-is_some-clause-entries g c = sym (cut-absent c.args.self.now c.args.key.now (sym (ap is_some c.get.ensures) ∙ sym c.if-is_some.ensures))
