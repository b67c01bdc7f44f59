use Rattle.std.proofs.Common.{◌≡◌, [], drop, take}
use Rattle.monitor.specs.Reports.{first_conflict}
use Rattle.monitor.proofs.naming.conflict_of.Given as goal

-- the pair of the statements that are left is that of all
abbrev pub invariant-loop-place : goal.invariant-loop-place
invariant-loop-place l = first_conflict l.party (take l.place l.sworn) (drop l.place l.sworn) ≡ first_conflict l.party [] l.sworn
