use Rattle.kept_disk.proofs.Calls.{sync-passes, sync-shrinks}
use Rattle.kept_disk.proofs.mem_disk.MemDiskDisk.sync.Goals as goal

pub returns-clause-time : goal.returns-clause-time
returns-clause-time c = sync-passes _ _ _ c.keep.ensures.became

pub returns-clause-crash : goal.returns-clause-crash
returns-clause-crash c = sync-shrinks _ _ _ c.keep.ensures.became
