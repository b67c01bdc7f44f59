use Rattle.ar_base.proofs.Giving.{no-error}
use Rattle.authority_core.proofs.keyless.read.Goals as goal

pub returns-in-Ok-clause-range : goal.returns-in-Ok-clause-range
returns-in-Ok-clause-range c = ((c.only_texts_are_read.ensures.messages _ _ c.are_bytes.ensures).0 (no-error _ _ _ c.in-Ok.ensures)).0
