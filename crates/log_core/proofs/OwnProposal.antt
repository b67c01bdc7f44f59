-- What a log proposes is what a walk over its queue takes.
use Rattle.std.proofs.Common.{◌≡◌, ◌≤◌, length, sym, ap, Some}
use Rattle.std.specs.Prelude.{unwrap_or}
use Rattle.domain_table.specs.Applying.{apply, ripen}
use Rattle.domain_table.specs.Tables.{Table}
use Rattle.domain_table.specs.Tree.{root_of}
use Rattle.epoch_log.specs.State.{epoch_of, table_of}
use Rattle.log_core.specs.State.{CoreState}
use Rattle.log_sending.specs.Walk.{StandIn, bytes_of, most_change_bytes, most_changes}
use Rattle.log_core.specs.Proposing.{proposal, proposed_value}
use Rattle.log_sending.proofs.Taken.{walk-applies, walk-fits, walk-stands}

pub proposal-applies : (s : CoreState) → (after : Table) × (apply (table_of s.log) (epoch_of s.log) (proposal s) ≡ Some after) × (root_of after ≡ (proposed_value s).root)
proposal-applies s =
    let walked = walk-applies s.queue (epoch_of s.log) most_changes most_change_bytes (ripen (table_of s.log) (epoch_of s.log)) in
    (walked.0, walked.1, sym (ap (λ o. root_of (unwrap_or o (table_of s.log))) walked.1))

pub proposal-fits : (s : CoreState) → (length (proposal s) ≤ 64) × (bytes_of (proposal s) ≤ 4000000)
proposal-fits s = walk-fits s.queue (epoch_of s.log) most_changes most_change_bytes (ripen (table_of s.log) (epoch_of s.log))

pub proposal-stands : (s : CoreState) → StandIn (proposal s) s.queue
proposal-stands s = walk-stands s.queue (epoch_of s.log) most_changes most_change_bytes (ripen (table_of s.log) (epoch_of s.log))
