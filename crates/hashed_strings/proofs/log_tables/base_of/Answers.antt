use Rattle.std.proofs.Common.{arith}
use Rattle.hashed_strings.proofs.Bases.{base-sound}
use Rattle.hashed_strings.proofs.log_tables.base_of.Goals as goal

pub behind-requires-clause-sound : goal.behind-requires-clause-sound
behind-requires-clause-sound c =
    base-sound c.args.names.now c.args.ended.now c.loop-before.before c.loop-before.table c.requires (omega (arith, c.loop-before-test.true, c.ranges.epoch.fits)) c.loop-before.invariant
