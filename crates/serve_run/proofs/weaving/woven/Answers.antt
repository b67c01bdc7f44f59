use Rattle.std.proofs.Common.{rules, [], refl}
use Rattle.serve_run.proofs.Rows.{weaves_stops, weaves_on}
use Rattle.serve_run.proofs.weaving.woven.Goals as goal

pub unreachable-requires : goal.unreachable-requires
unreachable-requires c = weaves_stops _ _ _ _ _ _ [] _ refl c.requires.some (search rules) c.in-None.ensures c.loop-number.invariant

pub loop-number-preserved : goal.loop-number-preserved
loop-number-preserved c = weaves_on _ _ _ _ _ _ _ _ _ _ refl c.requires.some (search rules) c.in-Some.ensures c.in_ok-push-in-Some.ensures.items c.loop-number.invariant
