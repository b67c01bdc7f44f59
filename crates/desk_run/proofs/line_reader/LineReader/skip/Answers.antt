use Rattle.desk_run.proofs.Cuts.{skipped}
use Rattle.desk_run.proofs.line_reader.LineReader.skip.Goals as goal

pub returns : goal.returns
returns c = skipped c.args.self.now c.self.inside.line.items c.self.inside.long c.self.inside.start c.self.inside.end c.self.inside.piece.items c.self.view_is c.requires
