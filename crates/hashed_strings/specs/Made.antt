-- The changes of epochs, with their names, and the strings of the tables to which they lead.
use Rattle.std.specs.Prelude.{ℕ, List, [], All, Option, Some, None, option_and_then}
use Rattle.ar_base.specs.Apart.{IsIn}
use Rattle.ar_cert.specs.Changes.{Change, IsChange}
use Rattle.domain_table.specs.Tables.{Table}
use Rattle.domain_table.specs.Tree.{table_strings}
use Rattle.epoch_log.specs.Record.{ending}
use Rattle.epoch_log.specs.declared.entries.Ended.{Ended}
use Rattle.epoch_log.specs.declared.entries.How.{How}
use Rattle.epoch_log.specs.declared.entries.How.TheVariants.{Decided, Skipped}

-- the changes of an ending: a skipped epoch has none
abbrev pub changes_in : How → List Change
changes_in (Skipped statuses) = []
changes_in (Decided changes root) = changes

-- those by which an epoch was decided, if it was
abbrev pub decided_in : How → Option (List Change)
decided_in (Skipped statuses) = None
decided_in (Decided changes root) = Some changes

abbrev pub decided_at : List Ended → ℕ → Option (List Change)
decided_at ended epoch = option_and_then decided_in (ending ended epoch)

-- a change is in its ranges, and its name is among these
abbrev pub Tells : List (List ℕ) → Change → Type 0
Tells names change = IsChange change × IsIn names change.cert.name

-- so is each change of each epoch that ended
abbrev pub EachTold : List (List ℕ) → List Ended → Type 0
EachTold names ended = All (λ x. All (Tells names) (changes_in x.how)) ended

-- the strings that are hashed for a table, if there is one
abbrev pub strings_made : Option Table → List (List ℕ)
strings_made None = []
strings_made (Some table) = table_strings table
