-- What becomes of a list of changes on a table: each is judged on the table that those before it leave.
use Rattle.std.specs.Prelude.{ℕ, ◌+◌, List, [], ◌∷◌, Result, Ok, Err}
use Rattle.ar_cert.specs.Changes.{Change}
use Rattle.cert_policy.specs.declared.manner.Manner.{Manner}
use Rattle.domain_table.specs.declared.refusal.ChangeRefusal.{ChangeRefusal}
use Rattle.domain_table.specs.Applying.{judge_ripe, ripen, taking_change}
use Rattle.domain_table.specs.Tables.{Table}
use Rattle.log_sending.specs.declared.refusal.LogRefusal.{LogRefusal}
use Rattle.log_sending.specs.declared.refusal.LogRefusal.TheVariants as refusals

-- the table after the changes, or the index of the first that is refused, and why
abbrev pub TableJudgement : Type 0
TableJudgement = Result Table (ℕ × ChangeRefusal)

-- the refusal of a change, by its index and why it is refused
abbrev pub bad_change : ℕ × ChangeRefusal → LogRefusal
bad_change refused = refusals.BadChange refused.0 refused.1

-- the rest of the changes, behind one that is judged so
abbrev pub behind_one : Result Manner ChangeRefusal → ℕ → (Manner → TableJudgement) → TableJudgement
behind_one (Ok manner) index rest = rest manner
behind_one (Err refusal) index rest = Err (index, refusal)

-- the changes, the first of which has this index, on a table that is ripe
unfoldable pub judged_from : ℕ → Table → ℕ → List Change → TableJudgement
judged_from index table epoch [] = Ok table
judged_from index table epoch (change ∷ changes) =
    behind_one (judge_ripe table change) index (λ manner. judged_from (index + 1) (taking_change table epoch change manner) epoch changes)

-- the changes of an epoch, on the table that is ripened once, before the first
abbrev pub judged : Table → ℕ → List Change → TableJudgement
judged table epoch changes = judged_from 0 (ripen table epoch) epoch changes
