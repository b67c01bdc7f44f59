use Rattle.std.proofs.Common.{◌≡◌, ◌+◌, ◌*◌, ◌≤◌, drop, length}
use Rattle.std.specs.List.{flat_map}
use Rattle.ar_cert.specs.Changes.{endorsement_text}
use Rattle.ar_cert.proofs.writing.endorsements_len.Given as goal

-- the bytes so far, and those of the endorsements that are left, are all
abbrev pub invariant-loop-endorsement : goal.invariant-loop-endorsement
invariant-loop-endorsement l = (l.len + length (flat_map endorsement_text (drop l.endorsement-index l.endorsements)) ≡ length (flat_map endorsement_text l.endorsements)) × (l.len ≤ l.endorsement-index * 65539)
