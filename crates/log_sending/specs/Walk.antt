-- What a log proposes: a walk over its queue, from the front, on the table that is ripe in the epoch.
use Rattle.std.specs.Prelude.{◌≡◌, ℕ, ◌-◌, ◌==◌, nat_le, if◌then◌else◌, List, [], ◌∷◌, ◌++◌, length, Result, Ok, Err, Some, unwrap_or}
use Rattle.std.specs.List.{sum_by}
use Rattle.cert_policy.specs.declared.manner.Manner.{Manner}
use Rattle.ar_cert.specs.Changes.{Change, change_text}
use Rattle.domain_table.specs.declared.refusal.ChangeRefusal.{ChangeRefusal}
use Rattle.domain_table.specs.Applying.{apply, judge_ripe, ripen, taking_change}
use Rattle.domain_table.specs.Sound.{IsSound}
use Rattle.domain_table.specs.Tables.{Table}
use Rattle.domain_table.specs.Tree.{root_of}
use Rattle.log_sending.specs.declared.walking.Walked.{Walked}
use Rattle.log_sending.specs.declared.walking.Walker.{Walker}

-- the most changes of a proposal, and the most bytes of their texts
abbrev pub most_changes : ℕ
most_changes = 64

abbrev pub most_change_bytes : ℕ
most_change_bytes = 4000000

-- The changes that are taken of a queue, by how its first is judged: one that is refused is passed over; one that is
-- accepted is taken, and the walk goes on behind it, unless its text is longer than what is left, where the walk stops.
abbrev pub taken_first : Result Manner ChangeRefusal → Change → ℕ → List Change → (Manner → List Change) → List Change
taken_first (Err refusal) change left passed_over rest = passed_over
taken_first (Ok manner) change left passed_over rest = if nat_le (length (change_text change)) left then change ∷ rest manner else []

-- The changes that are taken of a queue, where so many more may be, and so many bytes are left for their texts: each
-- that is accepted on the table which those before it leave.
unfoldable pub walk : ℕ → Table → ℕ → ℕ → List Change → List Change
walk epoch table many left [] = []
walk epoch table many left (change ∷ queue) =
    if many == 0 then []
    else taken_first (judge_ripe table change) change left (walk epoch table many left queue)
    (λ manner. walk epoch (taking_change table epoch change manner) (many - 1) (left - length (change_text change)) queue)

-- how many bytes the texts of changes have
abbrev pub bytes_of : List Change → ℕ
bytes_of changes = sum_by (λ change. length (change_text change)) changes

-- these changes stand in a queue, in this order
abbrev pub StandIn : List Change → List Change → Type 0
StandIn [] queue = Unit {0}
StandIn (change ∷ changes) queue = (before : List Change) × (behind : List Change) × (queue ≡ before ++ change ∷ behind) × StandIn changes behind

-- ---- a walk on its way

-- what a walk that stands so takes of what is left of the queue
abbrev pub left_of : Walker → List Change → List Change
left_of w queue = walk w.epoch (ripen w.table w.epoch) w.many w.left queue

-- A walk goes over a change: what it took, and takes of what is behind the change, is what it took before and took from
-- the change on; and that leads to one table.
pub record IsStepOver (change : Change) (before after : Walker) : Type 0 where
  pub epoch : after.epoch ≡ before.epoch
  pub sound : IsSound after.table
  pub takes : (queue : List Change) → after.taken.items ++ left_of after queue ≡ before.taken.items ++ left_of before (change ∷ queue)
  pub leads : (queue : List Change) → apply after.table after.epoch (left_of after queue) ≡ apply before.table before.epoch (left_of before (change ∷ queue))

-- these changes are taken of a queue, and the value goes from the root of the table to that of the table to which they lead
pub record IsWalked (epoch : ℕ) (table : Table) (queue : List Change) (w : Walked) : Type 0 where
  pub changes : w.changes.items ≡ walk epoch (ripen table epoch) most_changes most_change_bytes queue
  pub base : w.value.base ≡ root_of table
  pub root : w.value.root ≡ root_of (unwrap_or (apply table epoch w.changes.items) table)
  pub leads : apply table epoch w.changes.items ≡ Some w.table
