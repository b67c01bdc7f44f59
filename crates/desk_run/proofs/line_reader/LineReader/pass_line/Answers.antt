use Rattle.desk_run.proofs.Cuts.{line_passed, none_passed}
use Rattle.desk_run.proofs.line_reader.LineReader.pass_line.Goals as goal

pub returns-in_ok-pass-in-Some-clause-cut : goal.returns-in_ok-pass-in-Some-clause-cut
returns-in_ok-pass-in-Some-clause-cut c _ =
    line_passed c.args.self.now c.pass.new.self c.skip.new.self c.ahead.result.now c.in-Some.end c.ahead.ensures c.in-Some.ensures
    c.in_ok-pass-in-Some.ensures.passed c.in_ok-pass-in-Some.ensures.ahead c.skip.ensures

pub returns-in_ok-pass-in-None-clause-uncut : goal.returns-in_ok-pass-in-None-clause-uncut
returns-in_ok-pass-in-None-clause-uncut c _ =
    none_passed c.args.self.now c.pass-in-None.new.self c.ahead.result.now c.ahead-count.result.now c.ahead.ensures c.in-None.ensures
    c.in_ok-pass-in-None.ensures.passed c.ahead-count.ensures
