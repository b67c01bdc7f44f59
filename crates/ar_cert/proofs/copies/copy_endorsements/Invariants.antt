use Rattle.std.proofs.Common.{◌≡◌, take}
use Rattle.ar_cert.proofs.copies.copy_endorsements.Given as goal

-- the endorsements so far
abbrev pub invariant-loop-endorsement : goal.invariant-loop-endorsement
invariant-loop-endorsement l = l.list.items ≡ take l.endorsement-index l.endorsements
