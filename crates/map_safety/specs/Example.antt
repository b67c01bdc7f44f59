-- A map of one table, whose parties have done nothing yet.
use Rattle.std.specs.Prelude.{[]}
use Rattle.hash_tree.specs.Strings.{entry_digest}
use Rattle.ar_council.specs.Council.{council_of}
use Rattle.ar_safety.specs.Records.{fresh_records}
use Rattle.ar_safety.specs.RegisteredRun.{directory_of_five}
use Rattle.table_map.specs.Digests.{directory_digest}
use Rattle.table_map.specs.Tables.{table_key}
use Rattle.map_safety.specs.World.{MapRecords}

-- five logs and three authorities; the root is that of the directory alone, and nobody asked anything
abbrev pub fresh_map : MapRecords
fresh_map = record {
  of_map = record { bits = 0; root = entry_digest (table_key 0 0) (directory_digest directory_of_five) };
  directories = λ _. directory_of_five;
  paths = λ _. [];
  tables = λ _. fresh_records (council_of directory_of_five) 32;
  accepted = λ _. [];
}
