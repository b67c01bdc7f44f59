-- What an append leaves at each moment, of a party that takes its order by this text.
use Rattle.std.proofs.Common.{◌⊎◌, ℕ, List, inr}
use Rattle.kept_disk.specs.Moments.{LeavesOnly}
use Rattle.kept_journal.proofs.Moments.{weaker}
use Rattle.kept_journal.specs.Journal.{IsBeforeOrAfter}

module _ {D Reply : Type 0} (moment : D → ℕ) (left_since : D → ℕ → List ℕ → Type 0) (may_leave : D → List ℕ → Type 0) (says : List ℕ → Type 0)
    (takes : List ℕ → Reply → Type 0) where
  pub step_moment : (old new : D) (mark : List ℕ) (texts : List (List ℕ)) (text : List ℕ) (reply : Reply) → says text → takes text reply
      → LeavesOnly moment left_since old new (IsBeforeOrAfter mark texts text)
      → LeavesOnly moment left_since old new (λ c. may_leave old c ⊎ ((said : List ℕ) × (by : Reply) × says said × takes said by × IsBeforeOrAfter mark texts said c))
  step_moment old new mark texts text reply its taken run =
      weaker moment left_since old new (IsBeforeOrAfter mark texts text)
      (λ c. may_leave old c ⊎ ((said : List ℕ) × (by : Reply) × says said × takes said by × IsBeforeOrAfter mark texts said c)) run
      (λ c left. inr (text, reply, its, taken, left))
