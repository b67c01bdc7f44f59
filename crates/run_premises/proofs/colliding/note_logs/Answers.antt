-- The strings of one log more, in front of those of the logs before it.
use Rattle.std.proofs.Common.{◌++◌, List, sym, subst}
use Rattle.std.specs.Prelude.{flat_map}
use Rattle.ar_safety.specs.Held.{records_of}
use Rattle.domain_table.specs.Tables.{Table}
use Rattle.domain_table.specs.Tree.{table_strings}
use Rattle.hashed_strings.specs.Index.{AreNoted}
use Rattle.run_premises.proofs.Hashing.{first-log, next-log}
use Rattle.run_premises.proofs.colliding.note_logs.Goals as goal

pub loop-number-preserved : goal.loop-number-preserved
loop-number-preserved c = λ others noted.
    subst (AreNoted c.note_log.new.noted) (next-log (records_of c.args.records.now) c.loop-number.number others) (c.in_ok-note_log.ensures _ (c.loop-number.invariant others noted))

pub loop-number-init : goal.loop-number-init
loop-number-init c = λ others noted.
    subst (λ (tables : List Table). AreNoted c.args.noted.now (flat_map table_strings tables ++ others)) (sym (first-log (records_of c.args.records.now))) noted
