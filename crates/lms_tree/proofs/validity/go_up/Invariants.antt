use Rattle.std.proofs.Common.{◌≡◌, drop}
use Rattle.lms_tree.specs.Tree.{go_up}
use Rattle.lms_tree.proofs.validity.go_up.Given as goal

abbrev pub invariant-loop-sibling : goal.invariant-loop-sibling
invariant-loop-sibling l =
    go_up l.fn.id l.node l.value (drop l.sibling-index l.fn.path) ≡ go_up l.fn.id l.fn.node l.fn.value l.fn.path
