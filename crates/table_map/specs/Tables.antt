-- Which table a name has, and under which key the table's directory stands in the tree of a map.
use Rattle.std.specs.Prelude.{ℕ, zero, suc, ◌+◌, ◌-◌, ◌*◌, ◌^◌, List, ◌++◌, replicate}
use Rattle.std.specs.Int.{w32, to_be_bytes}
use Rattle.ar_names.specs.Names.{name_digest_of}
use Rattle.hash_tree.specs.Entries.{bit}

-- the number that the first bits of a key are, this many, the highest first
unfoldable pub first_bits : ℕ → List ℕ → ℕ
first_bits zero key = 0
first_bits (suc bits) key = 2 * first_bits bits key + bit key bits

-- the number of a name's table, where there are 2 ^ bits tables: the first bits of the key that the name has in a table
unfoldable pub table_of : ℕ → List ℕ → ℕ
table_of bits name = first_bits bits (name_digest_of name)

-- the key of a table in the tree over the directories: its number in the first bits, and zeros behind
unfoldable pub table_key : ℕ → ℕ → List ℕ
table_key bits table = to_be_bytes w32 (table * 2 ^ (32 - bits)) ++ replicate 28 0
