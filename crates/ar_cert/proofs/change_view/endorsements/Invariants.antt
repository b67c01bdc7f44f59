use Rattle.std.proofs.Common.{◌≡◌, ◌-◌, ◌≤◌, length, map, take}
use Rattle.ar_bytes.specs.Ascending.{with_front}
use Rattle.ar_cert.specs.Changes.{endorsements_at}
use Rattle.ar_cert.specs.Views.{endorsement_of}
use Rattle.ar_cert.proofs.change_view.endorsements.Given as goal

-- the endorsements that were read, and what is read from here on, are what is read from the start
abbrev pub invariant-loop-i : goal.invariant-loop-i
invariant-loop-i l = record {
  few : l.count ≤ 8;
  room : length l.list ≡ 8;
  reads : with_front (map endorsement_of (take l.i l.list)) (endorsements_at (l.count - l.i) l.least l.fields) ≡ endorsements_at l.count 0 l.initial.fields;
}
