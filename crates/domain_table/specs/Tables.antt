-- Tables: for each name the chain of its changes, the oldest first, and at most one change that waits.
use Rattle.std.specs.Prelude.{◌≡◌, ℕ, ◌+◌, List, [], map, length, sum, Option, None, unwrap_or}
use Rattle.std.specs.List.{last_or}
use Rattle.std.specs.Option.{option_map}
use Rattle.std.specs.FinMap.{FinMap, empty, entries, get}
use Rattle.hash_tree.specs.Entries.{key_cmp}
use Rattle.ar_cert.specs.Certificate.{Certificate, digest_of}
use Rattle.ar_cert.specs.Changes.{Change}

-- a change that waits, and the epoch since which it does
pub record Pending : Type 0 where
  pub change : Change
  pub since : ℕ

-- a table: the names that have a chain, and those for which a change waits
pub record Table : Type 0 where
  pub chains : FinMap key_cmp (List Change)
  pub waiting : FinMap key_cmp Pending

-- the table without names
abbrev pub no_table : Table
no_table = record { chains = empty; waiting = empty }

-- the chain of a name: no change where the name is absent
abbrev pub chain_of : Table → List ℕ → List Change
chain_of table name = unwrap_or (get table.chains name) []

-- the certificates of changes
abbrev pub certificates_of : List Change → List Certificate
certificates_of changes = map (λ r. r.cert) changes

-- the newest certificate of a chain
abbrev pub newest : List Change → Option Certificate
newest chain = last_or None (certificates_of chain)

-- the digest of a certificate that waits
abbrev pub waiting_digest : Pending → List ℕ
waiting_digest p = digest_of p.change.cert

-- how many certificates and waiting changes there are, of all names together
abbrev pub size : Table → ℕ
size table = sum (map (λ e. length e.1) (entries table.chains)) + length (entries table.waiting)

-- ---- what two tables have in common

-- what is compared of a waiting change: its certificate, and since when it waits
abbrev pub pair_of : Pending → Certificate × ℕ
pair_of p = (p.change.cert, p.since)

-- the certificates of a name, the oldest first
abbrev pub certificates : Table → List ℕ → List Certificate
certificates table name = certificates_of (chain_of table name)

-- what waits for a name
abbrev pub pairs : Table → List ℕ → Option (Certificate × ℕ)
pairs table name = option_map pair_of (get table.waiting name)

-- Two tables are equal: each name has the same certificates and the same pair in both. What vouches for the
-- certificates is not compared.
abbrev pub SameTable : Table → Table → Type 0
SameTable one other = (name : List ℕ) → (certificates one name ≡ certificates other name) × (pairs one name ≡ pairs other name)
