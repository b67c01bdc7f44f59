use Rattle.table_map.proofs.Bits.{no-bits, read-bits}
use Rattle.table_map.proofs.tables.first_bits.Goals as goal

pub returns-then-bits-eq0 : goal.returns-then-bits-eq0
returns-then-bits-eq0 c = no-bits c.args.bits c.args.key.now c.if-bits-eq0.true

pub returns : goal.returns
returns c = read-bits c.args.bits c.from_be_bytes.result c.args.key.now c.requires c.digest_told.ensures c.from_be_bytes.ensures
