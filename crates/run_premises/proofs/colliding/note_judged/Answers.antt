-- The strings of one confirmation more, in front of those behind it.
use Rattle.std.proofs.Common.{◌∙◌, ap, arith, sym}
use Rattle.ar_safety.specs.Held.{AcceptedBytes}
use Rattle.run_premises.proofs.Hashing.{judged-before}
use Rattle.run_premises.proofs.colliding.note_judged.Goals as goal

pub loop-i-preserved : goal.loop-i-preserved
loop-i-preserved c = (
  λ others noted.
      judged-before c.note_confirmation.new.self c.args.judged.now c.loop-i.i c.index-judged-i.result c.deref.result.now others
      (omega (arith, c.loop-i-test.true)) c.loop-i.invariant.1 (sym c.index-judged-i.is) (c.deref.ensures.value ∙ ap (λ (t : AcceptedBytes). t.bytes) c.accepted.view_is) (c.in_ok-note_confirmation.ensures _ (c.loop-i.invariant.0 others noted)),
  omega (arith, c.loop-i.invariant.1),
)
