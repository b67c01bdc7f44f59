use Rattle.std.proofs.Common.{◌≡◌, ◌∙◌, ◌+◌, ◌<◌, ℕ, [], ◌∷◌, ap, arith, slice_index, slice_index_or, sym}
use Rattle.sha2.specs.Sha256.{schedule}
use Rattle.hash_lanes.specs.Lanes.{lane_of}
use Rattle.hash_lanes.proofs.LaneLemmas.{each_of_sixteen, slice_index-lane_of}
use Rattle.hash_lanes.proofs.RoundLemmas.{follows}
use Rattle.hash_lanes.proofs.schedule.next_sixteen.Goals as goal

pub returns : goal.returns
returns given c = λ block i below held.
    let from = given.row.FROM in
    let words = c.args.words.now in
    let all = schedule block 48 in
    let old : (k : ℕ) → k < 16 → slice_index (slice_index_or words k []) i ≡ slice_index all (from + k) = λ k within.
    sym (slice_index-lane_of words i k) ∙ held k within in
    let w16 = c.following-w16.ensures i below ∙ follows block from 0 (omega arith) _ _ _ _ (old 14 (omega arith)) (old 9 (omega arith)) (old 1 (omega arith)) (old 0 (omega arith)) in
    let w17 = c.following-w17.ensures i below ∙ follows block from 1 (omega arith) _ _ _ _ (old 15 (omega arith)) (old 10 (omega arith)) (old 2 (omega arith)) (old 1 (omega arith)) in
    let w18 = c.following-w18.ensures i below ∙ follows block from 2 (omega arith) _ _ _ _ w16 (old 11 (omega arith)) (old 3 (omega arith)) (old 2 (omega arith)) in
    let w19 = c.following-w19.ensures i below ∙ follows block from 3 (omega arith) _ _ _ _ w17 (old 12 (omega arith)) (old 4 (omega arith)) (old 3 (omega arith)) in
    let w20 = c.following-w20.ensures i below ∙ follows block from 4 (omega arith) _ _ _ _ w18 (old 13 (omega arith)) (old 5 (omega arith)) (old 4 (omega arith)) in
    let w21 = c.following-w21.ensures i below ∙ follows block from 5 (omega arith) _ _ _ _ w19 (old 14 (omega arith)) (old 6 (omega arith)) (old 5 (omega arith)) in
    let w22 = c.following-w22.ensures i below ∙ follows block from 6 (omega arith) _ _ _ _ w20 (old 15 (omega arith)) (old 7 (omega arith)) (old 6 (omega arith)) in
    let w23 = c.following-w23.ensures i below ∙ follows block from 7 (omega arith) _ _ _ _ w21 w16 (old 8 (omega arith)) (old 7 (omega arith)) in
    let w24 = c.following-w24.ensures i below ∙ follows block from 8 (omega arith) _ _ _ _ w22 w17 (old 9 (omega arith)) (old 8 (omega arith)) in
    let w25 = c.following-w25.ensures i below ∙ follows block from 9 (omega arith) _ _ _ _ w23 w18 (old 10 (omega arith)) (old 9 (omega arith)) in
    let w26 = c.following-w26.ensures i below ∙ follows block from 10 (omega arith) _ _ _ _ w24 w19 (old 11 (omega arith)) (old 10 (omega arith)) in
    let w27 = c.following-w27.ensures i below ∙ follows block from 11 (omega arith) _ _ _ _ w25 w20 (old 12 (omega arith)) (old 11 (omega arith)) in
    let w28 = c.following-w28.ensures i below ∙ follows block from 12 (omega arith) _ _ _ _ w26 w21 (old 13 (omega arith)) (old 12 (omega arith)) in
    let w29 = c.following-w29.ensures i below ∙ follows block from 13 (omega arith) _ _ _ _ w27 w22 (old 14 (omega arith)) (old 13 (omega arith)) in
    let w30 = c.following-w30.ensures i below ∙ follows block from 14 (omega arith) _ _ _ _ w28 w23 (old 15 (omega arith)) (old 14 (omega arith)) in
    let w31 = c.following-w31.ensures i below ∙ follows block from 15 (omega arith) _ _ _ _ w29 w24 w16 (old 15 (omega arith)) in
    let made = c.following-w16.result ∷ c.following-w17.result ∷ c.following-w18.result ∷ c.following-w19.result ∷ c.following-w20.result ∷ c.following-w21.result ∷ c.following-w22.result ∷ c.following-w23.result
    ∷ c.following-w24.result ∷ c.following-w25.result ∷ c.following-w26.result ∷ c.following-w27.result ∷ c.following-w28.result ∷ c.following-w29.result ∷ c.following-w30.result ∷ c.following-w31.result ∷ [] in
    let each = each_of_sixteen (λ k. slice_index (lane_of made i) k ≡ slice_index all (from + (k + 16)))
    w16 w17 w18 w19 w20 w21 w22 w23 w24 w25 w26 w27 w28 w29 w30 w31 in
    λ k within.
    let place : from + (k + 16) ≡ from + 16 + k = omega arith in
    each k within ∙ ap (slice_index all) place
