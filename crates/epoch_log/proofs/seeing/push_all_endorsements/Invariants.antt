use Rattle.std.proofs.Common.{◌≡◌, ◌++◌, drop}
use Rattle.std.specs.List.{flat_map}
use Rattle.epoch_log.specs.Calls.{endorsements_of}
use Rattle.epoch_log.proofs.seeing.push_all_endorsements.Given as goal

-- what is appended and what is left are the endorsements of all
abbrev pub invariant-loop-change : goal.invariant-loop-change
invariant-loop-change l =
    l.list.items ++ flat_map endorsements_of (drop l.change-index l.changes) ≡ l.initial.list.items ++ flat_map endorsements_of l.changes
