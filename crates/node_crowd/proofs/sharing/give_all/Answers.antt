use Rattle.std.proofs.Common.{rules, ◌≡◌, ◌++◌, ◌∙◌, [], length, map, ap, append_assoc, arith, refl, sym, subst}
use Rattle.std.specs.List.{range_with_len}
use Rattle.std.specs.Vec.Iter.{into_iter_items}
use Rattle.std.proofs.lemmas.List.{append-nil, length-set, nil_from_length}
use Rattle.node_crowd.specs.Bringing.{own_of}
use Rattle.node_crowd.proofs.SharingLemmas.{shared_end, shared_next, shared_none}
use Rattle.node_crowd.proofs.sharing.give_all.Goals as goal

pub loop-errand-init : goal.loop-errand-init
loop-errand-init g c = (refl, shared_none (length c.args.lists.now) (λ list. list.items) c.args.lists.now refl c.requires.empty, refl, search rules)

pub loop-errand-preserved : goal.loop-errand-preserved
loop-errand-preserved g c = (
  length-set c.loop-errand.lists _ c.push.new.self ∙ c.loop-errand.invariant.0,
  shared_next (length c.args.lists.now) (λ list. list.items) c.loop-errand.lists _ c.loop-errand.yielded c.in-Some.errand _ c.index-lists-worker.result c.push.new.self (search rules) (search rules) refl
      c.in_ok-push.ensures.items c.loop-errand.invariant.1,
  append_assoc c.loop-errand.yielded _ _ ∙ ap (λ l. c.loop-errand.yielded ++ l) (sym c.in-Some.ensures.steps.0) ∙ c.loop-errand.invariant.2,
  (let many = c.loop-errand.invariant.3 in let one = c.in-Some.ensures.steps.1 in let items = ap length c.in-Some.ensures.steps.0 in omega (arith, many, one, items)),
)

pub returns : goal.returns
returns g c =
    let none : into_iter_items c.loop-errand.errand-iterator ≡ [] = nil_from_length (into_iter_items c.loop-errand.errand-iterator) (sym c.loop-errand.invariant.3 ∙ c.in-None.ensures.steps.0) in
    let all : c.loop-errand.yielded ≡ c.args.errands.items =
    sym (append-nil c.loop-errand.yielded) ∙ ap (λ l. c.loop-errand.yielded ++ l) (sym none) ∙ c.loop-errand.invariant.2 ∙ c.into_iter-errand-iterator.ensures.into_iter_gives.0 in
    subst (λ l. map (λ list. list.items) c.loop-errand.lists ≡ map (λ worker. own_of (length c.args.lists.now) worker l) (range_with_len 0 (length c.args.lists.now))) all
    (shared_end (length c.args.lists.now) (λ list. list.items) c.loop-errand.lists c.loop-errand.yielded c.loop-errand.invariant.1)
