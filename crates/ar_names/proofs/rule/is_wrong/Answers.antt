use Rattle.std.proofs.Common.{sym, arith}
use Rattle.ar_names.proofs.Places.{at_later_dot}
use Rattle.ar_names.proofs.rule.is_wrong.Goals as goal

pub returns-else-label-eq0 : goal.returns-else-label-eq0
returns-else-label-eq0 c =
    sym (at_later_dot c.args.text.now c.args.place c.args.label (omega arith) c.in-46.is (omega arith) c.requires.before)
