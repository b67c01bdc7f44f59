use Rattle.lm_ots.proofs.walk.take_turns.Goals as goal

pub loop-turn-preserved : goal.loop-turn-preserved
loop-turn-preserved c =
    let id = c.args.id.now in
    let leaf = c.args.leaf in
    let kept = c.loop-turn.invariant in
    let filled = c.refill-waiting.ensures in
    record {
      others = λ end all lanes. filled.others id leaf end (kept.others end all lanes) (kept.four end all lanes);
      four = λ end all lanes.
          c.advance.ensures end (filled.four id leaf end (kept.others end all lanes) (kept.four end all lanes));
    }

pub returns-then-steps-eq0-clause-others : goal.returns-then-steps-eq0-clause-others
returns-then-steps-eq0-clause-others c = λ end all lanes.
    let kept = c.loop-turn.invariant in
    c.refill-waiting.ensures.others c.args.id.now c.args.leaf end (kept.others end all lanes) (kept.four end all lanes)

pub returns-then-steps-eq0-clause-four : goal.returns-then-steps-eq0-clause-four
returns-then-steps-eq0-clause-four c = λ end all lanes.
    let kept = c.loop-turn.invariant in
    c.refill-waiting.ensures.four c.args.id.now c.args.leaf end (kept.others end all lanes) (kept.four end all lanes)
