use Rattle.std.proofs.Common.{◌∙◌, refl}
use Rattle.lm_ots.specs.Ways.{end_of}
use Rattle.lm_ots.proofs.walk.walk.Goals as goal

pub returns : goal.returns
returns c =
    let id = c.args.id.now in
    let leaf = c.args.leaf in
    let end = end_of id leaf c.args.chains.now in
    let first = c.take_first.ensures id leaf end (λ i. refl) (c.first-four.ensures id leaf end (λ i. refl)) in
    let turns = c.take_turns.ensures in
    λ i below.
    c.finish.ensures i below
    ∙ c.put_all_back.ensures id leaf end (turns.others end (λ i. refl) first) (turns.four end (λ i. refl) first) i
