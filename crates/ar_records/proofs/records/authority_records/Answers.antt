use Rattle.std.proofs.Common.{◌≡◌, length, take, arith, ap, sym, ◌∙◌}
use Rattle.std.specs.List.{filter_map}
use Rattle.std.specs.Option.{option_map}
use Rattle.std.specs.Prelude.{Option}
use Rattle.std.proofs.Math.Seq.{take-length}
use Rattle.ar_nodes.specs.Parties.{AuthorityNode}
use Rattle.ar_records.proofs.Told.{more-told}
use Rattle.ar_records.proofs.records.authority_records.Goals as goal

pub loop-node-preserved : goal.loop-node-preserved
loop-node-preserved g c =
    more-told (λ (node : Option AuthorityNode). option_map (λ n. n.state.past) node) (λ authority. authority.now) c.args.authorities.now c.loop-node.node-index c.node-item.result c.loop-node.records.items
    c.put_authority.new.records.items c.loop-node-test.true (sym c.node-item.is) c.loop-node.invariant c.in_ok-put_authority.ensures

pub returns : goal.returns
returns g c =
    let all : c.loop-node.node-index ≡ length c.args.authorities.now = omega arith in
    c.loop-node.invariant ∙ ap (filter_map (λ (node : Option AuthorityNode). option_map (λ n. n.state.past) node)) (ap (λ n. take n c.args.authorities.now) all ∙ take-length c.args.authorities.now)
