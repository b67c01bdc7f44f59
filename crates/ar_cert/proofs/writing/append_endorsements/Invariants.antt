use Rattle.std.proofs.Common.{◌≡◌, ◌+◌, ◌≤◌, ◌++◌, drop, length}
use Rattle.std.specs.Prelude.{vec_len, vec_capacity}
use Rattle.std.specs.List.{flat_map}
use Rattle.ar_cert.specs.Changes.{endorsement_text}
use Rattle.ar_cert.proofs.writing.append_endorsements.Given as goal

-- what was written, and the text of the endorsements that are left, are the whole; and it has room
abbrev pub invariant-loop-endorsement : goal.invariant-loop-endorsement
invariant-loop-endorsement l = record {
  text : l.out.items ++ flat_map endorsement_text (drop l.endorsement-index l.endorsements) ≡ l.initial.out.items ++ flat_map endorsement_text l.endorsements;
  room : vec_len l.out + length (flat_map endorsement_text (drop l.endorsement-index l.endorsements)) ≤ vec_capacity l.out;
  kept : vec_capacity l.initial.out ≤ vec_capacity l.out;
}
