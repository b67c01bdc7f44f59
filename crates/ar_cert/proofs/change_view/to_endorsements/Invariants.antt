use Rattle.std.proofs.Common.{◌≡◌, map, take}
use Rattle.ar_cert.specs.Views.{endorsement_of}
use Rattle.ar_cert.proofs.change_view.to_endorsements.Given as goal

-- the endorsements so far
abbrev pub invariant-loop-endorsement : goal.invariant-loop-endorsement
invariant-loop-endorsement l = l.list.items ≡ map endorsement_of (take l.endorsement-index l.endorsements)
