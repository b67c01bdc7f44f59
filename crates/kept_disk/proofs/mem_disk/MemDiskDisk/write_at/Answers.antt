use Rattle.kept_disk.proofs.Calls.{write-crashes, write-holds, write-passes}
use Rattle.kept_disk.proofs.mem_disk.MemDiskDisk.write_at.Goals as goal

pub returns-clause-time : goal.returns-clause-time
returns-clause-time c = write-passes _ _ _ c.args.at c.args.bytes.now c.requires c.put.ensures.became

pub returns-clause-crash : goal.returns-clause-crash
returns-clause-crash c = write-crashes _ _ _ c.args.at c.args.bytes.now c.requires c.put.ensures.became

pub returns-clause-held : goal.returns-clause-held
returns-clause-held c = write-holds _ _ _ c.args.at c.args.bytes.now c.requires c.put.ensures.became
