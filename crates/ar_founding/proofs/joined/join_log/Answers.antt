use Rattle.std.proofs.Common.{arith, ◌≡◌, ◌++◌, [], ◌∷◌, ap, length}
use Rattle.std.specs.Prelude.{Some}
use Rattle.ar_founding.specs.Founded.{IsLogRing}
use Rattle.ar_founding.specs.Founding.{log_node}
use Rattle.ar_founding.proofs.FirstParties.{first-own, log-joined}
use Rattle.ar_founding.proofs.joined.join_log.Goals as goal

pub log_node-requires : goal.log_node-requires
log_node-requires c = (first-own IsLogRing _ _ _ _ _ _ c.take_first-core.ensures c.take_first-ring.ensures c.requires.own).0

pub returns-clause-same : goal.returns-clause-same
returns-clause-same c =
    let after : c.put.new.items.items ≡ c.args.logs.now.items ++ Some (log_node c.take_first-core.result c.take_first-ring.result) ∷ [] = cc in
    log-joined _ _ _ _ _ _ _ _ c.take_first-core.ensures c.take_first-ring.ensures after

pub returns-clause-left : goal.returns-clause-left
returns-clause-left c = omega (arith, ap length c.take_first-core.ensures)

pub returns-clause-own : goal.returns-clause-own
returns-clause-own c = (first-own IsLogRing _ _ _ _ _ _ c.take_first-core.ensures c.take_first-ring.ensures c.requires.own).1

pub returns-clause-room : goal.returns-clause-room
returns-clause-room c = omega (arith, ap length c.take_first-core.ensures)
