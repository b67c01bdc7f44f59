use Rattle.std.proofs.Common.{◌≡◌, map, take}
use Rattle.std.specs.List.{filter_map}
use Rattle.std.specs.Option.{option_map}
use Rattle.epoch_log.specs.Log.{record_of}
use Rattle.ar_records.proofs.records.log_records.Given as goal

-- the records of the honest logs so far
abbrev pub invariant-loop-node : goal.invariant-loop-node
invariant-loop-node l =
    map (λ log. record_of log.now) l.records.items ≡ filter_map (λ node. option_map (λ n. n.core.log.past) node) (take l.node-index l.logs)
