use Rattle.std.proofs.Common.{◌++◌, ◌∙◌, ◌*◌, ◌^◌, ◌-◌, ap, arith, replicate}
use Rattle.table_map.specs.Tables.{table_key}
use Rattle.table_map.proofs.Bits.{low-bytes, no-key}
use Rattle.table_map.proofs.tables.table_key.Goals as goal

pub returns-then-bits-gt0 : goal.returns-then-bits-gt0
unfolding table_key
returns-then-bits-gt0 c =
    ap (λ xs. xs ++ replicate 28 0)
    (c.copy_from_slice.ensures.after ∙ c.to_be_bytes.ensures ∙ low-bytes (c.args.table * 2 ^ (32 - c.args.bits)))

pub returns-else-bits-gt0 : goal.returns-else-bits-gt0
returns-else-bits-gt0 c = no-key c.args.bits c.args.table (omega (arith, c.if-bits-gt0.false)) c.requires.table
