-- Words of the schedule and rounds, of one block.
use Rattle.std.proofs.Common.{◌≡◌, ◌∙◌, ℕ, suc, ◌+◌, ◌-◌, ◌<◌, List, slice_index, arith, ap, sym, refl}
use Rattle.sha2.specs.Sha256.{add32, round, round_constants, rounds, schedule, small_sigma0, small_sigma1}
use Rattle.sha2.proofs.Schedule256.{slice_index-schedule_first, slice_index-schedule_next}
use Rattle.hash_lanes.specs.Words.{AreFrom, HasWords}

-- the sum of 6.2.2, step 1
abbrev pub following : ℕ → ℕ → ℕ → ℕ → ℕ
following two seven fifteen sixteen = add32 (add32 (add32 (small_sigma1 two) seven) (small_sigma0 fifteen)) sixteen

-- word 16 places behind place k
pub follows : (block : List ℕ) (from k : ℕ) → from + k + 16 < 64 → (two seven fifteen sixteen : ℕ)
    → two ≡ slice_index (schedule block 48) (from + (k + 14)) → seven ≡ slice_index (schedule block 48) (from + (k + 9))
    → fifteen ≡ slice_index (schedule block 48) (from + (k + 1)) → sixteen ≡ slice_index (schedule block 48) (from + k)
    → following two seven fifteen sixteen ≡ slice_index (schedule block 48) (from + (k + 16))
follows block from k room two seven fifteen sixteen e2 e7 e15 e16 =
    let all = schedule block 48 in
    let place = from + (k + 16) in
    let at : (n m : ℕ) → m ≡ n → slice_index all n ≡ slice_index all m = λ n m same. ap (slice_index all) (sym same) in
    let t2 : two ≡ slice_index all (place - 2) = e2 ∙ at _ _ (omega arith) in
    let t7 : seven ≡ slice_index all (place - 7) = e7 ∙ at _ _ (omega arith) in
    let t15 : fifteen ≡ slice_index all (place - 15) = e15 ∙ at _ _ (omega arith) in
    let t16 : sixteen ≡ slice_index all (place - 16) = e16 ∙ at _ _ (omega arith) in
    rw (t2, t7, t15, t16) (sym (slice_index-schedule_next block 48 place (omega arith) (omega arith)))

-- the words of a block are the first of its schedule
pub first_sixteen : (words block : List ℕ) → HasWords words block → AreFrom words (schedule block 48) 0 16
first_sixteen words block has = λ k below.
    let place : k ≡ 0 + k = omega arith in
    has.each k below ∙ sym (slice_index-schedule_first block 48 k below) ∙ ap (slice_index (schedule block 48)) place

-- a round more, where the number of rounds done is spelled in any way
pub a_round_more : (start all before after : List ℕ) (done more constant word : ℕ) → more ≡ suc done
    → before ≡ rounds start all done → constant ≡ slice_index round_constants done → word ≡ slice_index all done
    → after ≡ round before constant word → after ≡ rounds start all more
unfolding rounds
a_round_more start all before after done more constant word counted held c w made = rw (made, held, c, w, counted) refl
