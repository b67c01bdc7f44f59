use Rattle.std.proofs.Common.{ap}
use Rattle.desk_run.specs.Reading.{ReaderParts}
use Rattle.desk_run.proofs.Cuts.{drop_ahead}
use Rattle.desk_run.proofs.line_reader.LineReader.pass.Goals as goal
use Rattle.desk_run.proofs.line_reader.LineReader.pass.Goals.{then-not-long+in_ok-extend_from_slice, else-not-long}

pub returns-clause-ahead : goal.returns-clause-ahead
returns-clause-ahead c =
    let inside = c.self.inside in
    let here = drop_ahead c.args.self.now.ahead c.args.count inside.start inside.end inside.piece.items (ap (λ (r : ReaderParts). r.ahead) c.self.view_is) c.requires in
    elim c.if-not-long.branch [ then-not-long+in_ok-extend_from_slice w ↦ rw w.self-inside-is here | else-not-long w ↦ rw w.self-inside-is here ]
