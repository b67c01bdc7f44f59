-- Words of blocks in lanes.
use Rattle.std.specs.Prelude.{◌≡◌, ℕ, ◌+◌, ◌*◌, ◌<◌, List, length, slice_index}
use Rattle.sha2.specs.Sha256.{initial_hash_256, rounds, schedule, word_at}
use Rattle.hash_lanes.specs.Lanes.{lane_of}

-- the sixteen words are those of a block (FIPS 180-4, 5.2.1)
pub record HasWords (words block : List ℕ) : Type 0 where
  pub count : length words ≡ 16
  pub each : (k : ℕ) → k < 16 → slice_index words k ≡ word_at block (4 * k)

-- the first `count` words are those that stand in a longer list from a place on
abbrev pub AreFrom : List ℕ → List ℕ → ℕ → ℕ → Type 0
AreFrom words all from count = (k : ℕ) → k < count → slice_index words k ≡ slice_index all (from + k)

-- the first five words of a block: the four of I, and the number of a leaf
pub record BeginsWith (block id : List ℕ) (leaf : ℕ) : Type 0 where
  pub id_words : (k : ℕ) → k < 4 → word_at block (4 * k) ≡ slice_index id k
  pub leaf_word : word_at block 16 ≡ leaf

-- in each lane the working variables are those after the first five rounds of each block that begins with the words of I
-- and the lane's leaf
abbrev pub AreAfterFive : List (List ℕ) → List ℕ → List ℕ → Type 0
AreAfterFive vectors id leaves = (b : List ℕ) (i : ℕ) → i < 4 → BeginsWith b id (slice_index leaves i)
    → lane_of vectors i ≡ rounds initial_hash_256 (schedule b 48) 5
