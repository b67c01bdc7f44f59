use Rattle.std.proofs.Common.{rules, ◌≡◌, length, map, ap, arith, sym, subst}
use Rattle.std.specs.List.{range_with_len}
use Rattle.std.proofs.lemmas.List.{length-map}
use Rattle.std.proofs.lemmas.List.FromFn.{length-range_with_len}
use Rattle.node_crowd.specs.Bringing.{own_of}
use Rattle.node_crowd.proofs.AlongLemmas.{refilled}
use Rattle.node_crowd.proofs.sharing.lists_of.Goals as goal

pub returns : goal.returns
returns g c =
    let same : length c.as_mut_slice.result.now ≡ c.args.workers = search rules in
    let given : map (λ list. list.items) c.give_all.new.lists ≡ map (λ worker. own_of c.args.workers worker c.args.errands.items) (range_with_len 0 c.args.workers) =
    subst (λ n. map (λ list. list.items) c.give_all.new.lists ≡ map (λ worker. own_of n worker c.args.errands.items) (range_with_len 0 n)) same c.in_ok-give_all.ensures in
    let many = c.in_ok-lists.ensures.many in
    let one = ap length given in
    let lists = length-map c.give_all.new.lists (λ list. list.items) in
    let owns = length-map (range_with_len 0 c.args.workers) (λ worker. own_of c.args.workers worker c.args.errands.items) in
    let numbers = length-range_with_len 0 c.args.workers in
    let long : length c.give_all.new.lists ≡ length c.in_ok-lists.lists.items = omega (arith, many, one, lists, owns, numbers) in
    subst (λ l. map (λ list. list.items) l ≡ map (λ worker. own_of c.args.workers worker c.args.errands.items) (range_with_len 0 c.args.workers))
    (sym (refilled c.in_ok-lists.lists.len c.in_ok-lists.lists.items c.give_all.new.lists c.in_ok-lists.lists.ok.0 long)) given
