use Rattle.std.proofs.Common.{◌≡◌}
use Rattle.desk_run.proofs.Cuts.{TookSoFar}
use Rattle.desk_run.proofs.line_reader.LineReader.next.Given as goal

-- what was taken, and what of it, behind what was there before, the line has so far: no newline is in that
abbrev pub invariant-loop : goal.invariant-loop
invariant-loop g l = record {
  took : TookSoFar l.counter l.fn.self.ahead (g.S.Source.left l.fn.source) (g.S.Source.left l.source) l.self;
  uncounted : g.S.Source.faults l.source ≡ g.S.Source.faults l.fn.source;
}
