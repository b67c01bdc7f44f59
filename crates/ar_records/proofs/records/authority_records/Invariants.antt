use Rattle.std.proofs.Common.{◌≡◌, map, take}
use Rattle.std.specs.List.{filter_map}
use Rattle.std.specs.Option.{option_map}
use Rattle.ar_records.proofs.records.authority_records.Given as goal

-- the records of the honest authorities so far
abbrev pub invariant-loop-node : goal.invariant-loop-node
invariant-loop-node g l =
    map (λ authority. authority.now) l.records.items ≡ filter_map (λ node. option_map (λ n. n.state.past) node) (take l.node-index l.authorities)
