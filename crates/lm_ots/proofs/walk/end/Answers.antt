use Rattle.std.proofs.Common.{sym, arith}
use Rattle.lm_ots.proofs.ChainLemmas.{chain-none}
use Rattle.lm_ots.proofs.walk.end.Goals as goal

pub returns-else-next-end : goal.returns-else-next-end
returns-else-next-end c = sym (chain-none c.args.id.now c.args.leaf c.args.i _ _ _ (omega arith))
