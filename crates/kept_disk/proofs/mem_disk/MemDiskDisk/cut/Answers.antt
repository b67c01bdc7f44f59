use Rattle.kept_disk.proofs.Calls.{cut-crashes, cut-holds, cut-passes}
use Rattle.kept_disk.proofs.mem_disk.MemDiskDisk.cut.Goals as goal

pub returns-clause-time : goal.returns-clause-time
returns-clause-time c = cut-passes _ _ _ c.args.len c.requires _ c.shorten.ensures.became

pub returns-clause-crash : goal.returns-clause-crash
returns-clause-crash c = cut-crashes _ _ _ c.args.len c.requires _ c.shorten.ensures.became

pub returns-clause-held : goal.returns-clause-held
returns-clause-held c = cut-holds _ _ _ c.args.len c.requires _ c.shorten.ensures.became
