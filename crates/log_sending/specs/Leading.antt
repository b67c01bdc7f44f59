-- Where the changes of a proposal or a decision lead, and the checks that the two share.
use Rattle.std.specs.Prelude.{ℕ, List, [], ◌∷◌, Result}
use Rattle.std.specs.Result.{result_map_both}
use Rattle.ar_base.specs.Gives.{with_error}
use Rattle.ar_cert.specs.Changes.{Change}
use Rattle.cert_policy.specs.declared.manner.Manner.{Manner}
use Rattle.domain_table.specs.Applying.{taking_change}
use Rattle.domain_table.specs.Tables.{Table}
use Rattle.domain_table.specs.declared.refusal.ChangeRefusal.{ChangeRefusal}
use Rattle.vote_quorum.specs.declared.value.Value.{Value}
use Rattle.epoch_log.specs.State.{LogState, epoch_of, table_of}
use Rattle.log_sending.specs.Checks.{Check, all_taken, same_base, same_root}
use Rattle.log_sending.specs.Judged.{TableJudgement, bad_change, judged}
use Rattle.log_sending.specs.declared.refusal.LogRefusal.{LogRefusal}
use Rattle.log_sending.specs.declared.refusal.LogRefusal.TheVariants as refusals

-- the table behind a change that is judged so on a ripe table, or the refusal of the change with this index
abbrev pub table_behind : Result Manner ChangeRefusal → ℕ → Table → ℕ → Change → Result Table LogRefusal
table_behind answer index table epoch change = result_map_both (taking_change table epoch change) (refusals.BadChange index) answer

-- the table behind changes that are judged so, or the refusal of the first that is refused
abbrev pub table_in : TableJudgement → Result Table LogRefusal
table_in = with_error bad_change

-- the value is for the log's base, the table accepts each change behind those before it, and they lead to the root
abbrev pub leading_checks : LogState → Value → List Change → List Check
leading_checks s value changes =
    same_base s value.base
    ∷ all_taken (judged (table_of s) (epoch_of s) changes)
    ∷ same_root (judged (table_of s) (epoch_of s) changes) value.root
    ∷ []
