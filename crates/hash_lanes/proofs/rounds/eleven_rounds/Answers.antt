use Rattle.std.proofs.Common.{◌≡◌, ◌∙◌, ◌+◌, ◌<◌, ℕ, [], arith, refl, slice_index, slice_index_or, sym}
use Rattle.hash_lanes.proofs.LaneLemmas.{slice_index-lane_of}
use Rattle.hash_lanes.proofs.RoundLemmas.{a_round_more}
use Rattle.hash_lanes.proofs.rounds.eleven_rounds.Goals as goal

pub returns : goal.returns
returns given c = λ start all i below words held.
    let from = given.row.FROM in
    let word : (k : ℕ) → k < 16 → slice_index (slice_index_or c.args.words.now k []) i ≡ slice_index all (from + k) = λ k within.
    sym (slice_index-lane_of c.args.words.now i k) ∙ words k within in
    let s6 = a_round_more start all _ _ _ (from + 6) _ _ (omega arith) held refl (word 5 (omega arith)) (c.round-v6.ensures i below) in
    let s7 = a_round_more start all _ _ _ (from + 7) _ _ (omega arith) s6 refl (word 6 (omega arith)) (c.round-v7.ensures i below) in
    let s8 = a_round_more start all _ _ _ (from + 8) _ _ (omega arith) s7 refl (word 7 (omega arith)) (c.round-v8.ensures i below) in
    let s9 = a_round_more start all _ _ _ (from + 9) _ _ (omega arith) s8 refl (word 8 (omega arith)) (c.round-v9.ensures i below) in
    let s10 = a_round_more start all _ _ _ (from + 10) _ _ (omega arith) s9 refl (word 9 (omega arith)) (c.round-v10.ensures i below) in
    let s11 = a_round_more start all _ _ _ (from + 11) _ _ (omega arith) s10 refl (word 10 (omega arith)) (c.round-v11.ensures i below) in
    let s12 = a_round_more start all _ _ _ (from + 12) _ _ (omega arith) s11 refl (word 11 (omega arith)) (c.round-v12.ensures i below) in
    let s13 = a_round_more start all _ _ _ (from + 13) _ _ (omega arith) s12 refl (word 12 (omega arith)) (c.round-v13.ensures i below) in
    let s14 = a_round_more start all _ _ _ (from + 14) _ _ (omega arith) s13 refl (word 13 (omega arith)) (c.round-v14.ensures i below) in
    let s15 = a_round_more start all _ _ _ (from + 15) _ _ (omega arith) s14 refl (word 14 (omega arith)) (c.round-v15.ensures i below) in
    let s16 = a_round_more start all _ _ _ (from + 16) _ _ (omega arith) s15 refl (word 15 (omega arith)) (c.round.ensures i below) in
    s16
