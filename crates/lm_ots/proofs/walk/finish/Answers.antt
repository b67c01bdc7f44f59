use Rattle.std.proofs.Common.{◌≡◌, ◌∙◌, ◌<◌, [], arith, length}
use Rattle.std.proofs.lemmas.List.{get_or-set_other}
use Rattle.lm_ots.specs.Ways.{end_of}
use Rattle.lm_ots.proofs.WayLemmas.{put_more}
use Rattle.lm_ots.proofs.walk.finish.Goals as goal

pub loop-i-preserved : goal.loop-i-preserved
loop-i-preserved c =
    let kept = c.loop-i.invariant in
    let chains = c.loop-i.chains in
    let i = c.loop-i.i in
    let id = c.args.id.now in
    let goal_end = end_of id c.args.leaf c.args.chains.now in
    let room : i < length chains.values = omega arith in
    let still = kept.rest i (omega arith) in
    let next = kept.next in
    let ends = kept.ends in
    let found : c.end.result ≡ goal_end i = c.end.ensures ∙ cc in
    record {
      done = put_more goal_end [] chains.values i c.end.result room found kept.done;
      rest = λ j above.
          get_or-set_other chains.values i j c.end.result [] (λ same. absurd (omega arith))
          ∙ kept.rest j (omega arith);
      next = next;
      ends = ends;
    }
