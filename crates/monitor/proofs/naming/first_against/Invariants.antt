use Rattle.std.proofs.Common.{◌≡◌, drop}
use Rattle.monitor.specs.Reports.{first_against}
use Rattle.monitor.proofs.naming.first_against.Given as goal

-- the first of those that are left is the first of all
abbrev pub invariant-loop-first : goal.invariant-loop-first
invariant-loop-first l = first_against (drop l.first-index l.before) l.second ≡ first_against l.before l.second
