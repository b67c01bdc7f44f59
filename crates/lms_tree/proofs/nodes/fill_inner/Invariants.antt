use Rattle.std.proofs.Common.{◌+◌, ◌-◌, ◌^◌}
use Rattle.lms_tree.specs.LmsKind.{height_of}
use Rattle.lms_tree.specs.Nodes.{HoldsFrom}
use Rattle.lms_tree.proofs.nodes.fill_inner.Given as goal

abbrev pub invariant-loop-done : goal.invariant-loop-done
invariant-loop-done l = HoldsFrom l.fn.parts (2 ^ height_of l.fn.parts.lms + 1 - l.done) l.nodes
