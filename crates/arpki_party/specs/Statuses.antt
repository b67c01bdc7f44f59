-- The status where a run ends.
use Rattle.std.specs.Prelude.{ℕ, Bool, true, false, Result, Ok, Err}
use Rattle.desk_run.specs.declared.stop.Stop.{Stop}
use Rattle.desk_run.specs.declared.stop.Stop.TheVariants as stops
use Rattle.arpki_party.specs.declared.not_opened.NotOpened.{NotOpened}
use Rattle.arpki_party.specs.declared.not_opened.NotOpened.TheVariants as why

-- where it stops before its lines end: 3 where the journal failed, 4 where a read did, 5 where a write did, and 6 where memory ran out;
-- more lines than can be counted are as good as a read that failed
abbrev pub stop_status : Stop → ℕ
stop_status stops.Disk = 3
stop_status stops.Source = 4
stop_status stops.Count = 4
stop_status stops.Sink = 5
stop_status stops.Memory = 6

-- 0 where its lines end
abbrev pub end_status : Result (Unit {0}) Stop → ℕ
end_status (Ok end) = 0
end_status (Err stop) = stop_status stop

-- where a party is not opened: 6 for want of memory, else 3
abbrev pub refused_status : NotOpened → ℕ
refused_status why.Memory = 6
refused_status _ = 3

-- where the line of a key, or the help, was written or was not: 5 where a write failed
abbrev pub written_status : Bool → ℕ
written_status true = 0
written_status false = 5
