use Rattle.std.proofs.Common.{◌≡◌, length, arith, rules}
use Rattle.std.proofs.lemmas.Result.{err_from_is_err_and}
use Rattle.desk_run.proofs.Cuts.{line_took, none_took, overran, piece_took}
use Rattle.desk_run.proofs.line_reader.LineReader.next.Goals as goal

pub returns-then-branch-clause-comes : goal.returns-then-branch-clause-comes
returns-then-branch-clause-comes g c =
    line_took c.loop.counter c.args.self.now.ahead (g.S.Source.left c.args.source.now) (g.S.Source.left c.loop.source) c.loop.self c.pass_line.new.self
    c.loop.invariant.took (c.in_ok-pass_line.ensures.cut c.if-branch.true)

pub returns-in_err-map_err-clause-taken : goal.returns-in_err-map_err-clause-taken
returns-in_err-map_err-clause-taken g c =
    let p = err_from_is_err_and c.from_residual-in_err-map_err.result c.from_residual-in_err-map_err.ensures.1 in
    let none = c.in_ok-pass_line.ensures.uncut c.if-branch.false in
    let t = none_took c.loop.counter c.args.self.now.ahead (g.S.Source.left c.args.source.now) (g.S.Source.left c.loop.source) (g.S.Source.left c.read_on.new.source)
    c.loop.self c.loop.invariant.took none.0 (search rules) in
    rw (p.1, p.2) (t.0, t.1, λ _. t.2)

pub loop-preserved : goal.loop-preserved
loop-preserved g c =
    let none = c.in_ok-pass_line.ensures.uncut c.if-branch.false in
    let counted : c.in_ok-map_err.field-0 ≡ length c.read_on.new.self.ahead = search rules in record {
      took = piece_took c.loop.counter c.args.self.now.ahead (g.S.Source.left c.args.source.now) (g.S.Source.left c.loop.source) (g.S.Source.left c.read_on.new.source)
          c.loop.self c.pass_line.new.self c.read_on.new.self c.loop.invariant.took none.0 none.1 (search rules) (omega (arith, counted, c.if-branch-eq0.false)) c.read_on.ensures.line.0 c.read_on.ensures.line.1;
      uncounted = search rules;
    }

pub returns-clause-count : goal.returns-clause-count
returns-clause-count g c _ =
    overran c.loop.counter c.args.self.now.ahead (g.S.Source.left c.args.source.now) (g.S.Source.left c.loop.source) c.loop.self c.loop.invariant.took c.loop-test.false
