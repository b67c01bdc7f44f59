use Rattle.std.proofs.Common.{◌∙◌, refl, lit<}
use Rattle.lm_ots.proofs.WayLemmas.{each_lane, chain-step}
use Rattle.lm_ots.proofs.chains.Four.step.Goals as goal

pub returns : goal.returns
returns c =
    let four = c.args.self.now in
    let id = c.args.id.now in
    let leaf = c.args.leaf in
    let moved = c.step_where.ensures.moved in
    let left = c.step_where.ensures.left in
    λ end holds. each_lane _
    (chain-step id leaf _ _ _ _ _ _ _ refl (moved 0 (lit< tt)) (left 0 (lit< tt)) c.next_of.ensures ∙ holds 0 (lit< tt))
    (chain-step id leaf _ _ _ _ _ _ _ refl (moved 1 (lit< tt)) (left 1 (lit< tt)) c.next_of-2.ensures ∙ holds 1 (lit< tt))
    (chain-step id leaf _ _ _ _ _ _ _ refl (moved 2 (lit< tt)) (left 2 (lit< tt)) c.next_of-3.ensures ∙ holds 2 (lit< tt))
    (chain-step id leaf _ _ _ _ _ _ _ refl (moved 3 (lit< tt)) (left 3 (lit< tt)) c.next_of-4.ensures ∙ holds 3 (lit< tt))
