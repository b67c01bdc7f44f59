use Rattle.std.proofs.Common.{rules}
use Rattle.node_crowd.proofs.working.fn.work_all.map_vec+FnMut.call_mut.Goals as goal

pub map_vec-requires : goal.map_vec-requires
map_vec-requires g c = search (rules, c.requires)
