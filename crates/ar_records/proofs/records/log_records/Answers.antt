use Rattle.std.proofs.Common.{◌≡◌, length, take, arith, ap, sym, ◌∙◌}
use Rattle.std.specs.List.{filter_map}
use Rattle.std.specs.Option.{option_map}
use Rattle.std.specs.Prelude.{Option}
use Rattle.std.proofs.Math.Seq.{take-length}
use Rattle.epoch_log.specs.Log.{record_of}
use Rattle.ar_nodes.specs.Parties.{LogNode}
use Rattle.ar_records.proofs.Told.{more-told}
use Rattle.ar_records.proofs.records.log_records.Goals as goal

pub loop-node-preserved : goal.loop-node-preserved
loop-node-preserved c =
    more-told (λ (node : Option LogNode). option_map (λ n. n.core.log.past) node) (λ log. record_of log.now) c.args.logs.now c.loop-node.node-index c.node-item.result c.loop-node.records.items
    c.put_log.new.records.items c.loop-node-test.true (sym c.node-item.is) c.loop-node.invariant c.in_ok-put_log.ensures

pub returns : goal.returns
returns c =
    let all : c.loop-node.node-index ≡ length c.args.logs.now = omega arith in
    c.loop-node.invariant ∙ ap (filter_map (λ (node : Option LogNode). option_map (λ n. n.core.log.past) node)) (ap (λ n. take n c.args.logs.now) all ∙ take-length c.args.logs.now)
