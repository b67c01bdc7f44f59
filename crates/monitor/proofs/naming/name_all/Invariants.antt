use Rattle.std.proofs.Common.{◌≡◌, ◌++◌}
use Rattle.monitor.specs.Reports.{conflicts_of}
use Rattle.monitor.proofs.naming.name_all.Given as goal

-- the pairs of the parties in front stand behind the others
abbrev pub invariant-loop-number : goal.invariant-loop-number
invariant-loop-number l = l.conflicts.items ≡ l.initial.conflicts.items ++ conflicts_of l.role l.number l.sworn
