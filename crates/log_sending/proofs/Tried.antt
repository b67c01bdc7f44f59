-- The table that a log tried for its own vote is the one to which the same changes lead once more.
use Rattle.std.proofs.Common.{◌≡◌, List, [], ◌∷◌, ◌++◌, refl, sym, ap, ◌∙◌, true, Option, Some, None}
use Rattle.std.specs.Prelude.{All, IfSome, bytes_eq, option_and_then}
use Rattle.std.specs.List.{AllByRecursion}
use Rattle.std.proofs.lemmas.Bool.{and_parts}
use Rattle.std.proofs.lemmas.List.Elements.{recursion_from_All}
use Rattle.std.proofs.lemmas.Slice.Eq.{bytes_eq-Decides}
use Rattle.ar_cert.specs.Changes.{Change, IsChange, change_at, change_text}
use Rattle.ar_cert.proofs.ChangeLaws.{change_again, one_text}
use Rattle.domain_table.specs.Applying.{apply}
use Rattle.domain_table.specs.Tables.{Table}
use Rattle.epoch_log.specs.Ending.{own_table, own_vote}
use Rattle.epoch_log.specs.State.{IsKeptLog, LogState, epoch_of, table_of}
use Rattle.epoch_log.specs.declared.entries.Voted.{Voted}
use Rattle.epoch_log.proofs.Plans.{own-leads}
use Rattle.log_sending.specs.Queued.{are_same_changes}

same-changes : (changes others : List Change) → AllByRecursion IsChange changes → AllByRecursion IsChange others → are_same_changes changes others ≡ true → changes ≡ others
same-changes [] [] are others-are same = refl
same-changes [] (other ∷ others) are others-are same = absurd cc
same-changes (change ∷ changes) [] are others-are same = absurd cc
same-changes (change ∷ changes) (other ∷ others) are others-are same =
    let both = and_parts (bytes_eq (change_text change) (change_text other)) (are_same_changes changes others) same in
    let texts : change_text change ≡ change_text other = (bytes_eq-Decides (change_text change) (change_text other)).0 both.0 in
    let first = one_text change_at change other (change_text change) (change_text other) [] [] (change_again change are.0) (change_again other others-are.0) (ap (λ l. l ++ []) texts) in
    ap (λ c. c ∷ changes) first.0 ∙ ap (λ l. other ∷ l) (same-changes changes others are.1 others-are.1 both.1)

pub tried-leads : (s : LogState) (v : Voted) (changes : List Change) (tried : Option Table) → IsKeptLog s → own_vote s.past.voted (epoch_of s) ≡ Some v → All IsChange changes
    → are_same_changes v.changes changes ≡ true → tried ≡ own_table s → IfSome tried (λ table. apply (table_of s) (epoch_of s) changes ≡ Some table)
tried-leads s v changes None kept own are same is = tt
tried-leads s v changes (Some table) kept own are same is =
    let one : v.changes ≡ changes =
    same-changes v.changes changes (recursion_from_All IsChange v.changes (own-leads s v kept own).are_changes) (recursion_from_All IsChange changes are) same in
    sym (is ∙ ap (option_and_then (λ (w : Voted). apply (table_of s) (epoch_of s) w.changes)) own ∙ ap (apply (table_of s) (epoch_of s)) one)
