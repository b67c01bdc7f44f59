use Rattle.std.proofs.Common.{length, ap, arith}
use Rattle.ar_message.proofs.steps.PathSteps.of_path.Goals as goal

pub of-requires : goal.of-requires
of-requires c = (length c.args.path.now.steps, (c.requires, omega (arith, c.as_flattened.ensures.len, ap length c.as_slice.ensures)))
