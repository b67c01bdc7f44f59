-- The entries of a table in the integrity tree, its root, and the strings that are hashed for it.
use Rattle.std.specs.Prelude.{ℕ, List, [], ◌∷◌, ◌++◌, map, Option, Some, None, unwrap_or}
use Rattle.std.specs.List.{flat_map}
use Rattle.std.specs.Option.{option_map}
use Rattle.std.specs.FinMap.{entries, from_entries}
use Rattle.sha2.specs.Sha256.{sha256}
use Rattle.hash_tree.specs.Strings.{value_string, pending_string, pending_digest, pending_key_string}
use Rattle.hash_tree.specs.Entries.{Entries}
use Rattle.hash_tree.specs.Root.{root, strings_of}
use Rattle.ar_names.specs.Names.{name_string}
use Rattle.ar_cert.specs.Certificate.{Certificate, certificate_string, certificate_value, digest_of}
use Rattle.ar_cert.specs.Changes.{Change}
use Rattle.domain_table.specs.Tables.{Pending, Table, certificates_of, newest, waiting_digest}

-- the value of a name: that of its newest certificate
abbrev pub value_of : List Change → List ℕ
value_of chain = unwrap_or (option_map certificate_value (newest chain)) []

-- the value of what waits: since when, and the certificate
abbrev pub pending_value : Pending → List ℕ
pending_value p = pending_digest p.since (waiting_digest p)

-- the string of each name, and the value of what stands there
abbrev pub valued : {A V : Type 0} → (List ℕ → List ℕ) → (A → V) → List (List ℕ × A) → List (List ℕ × V)
valued string value es = map (λ e. (string e.0, value e.1)) es

-- strings with a value each, under the digests of the strings
abbrev pub keyed : {V : Type 0} → List (List ℕ × V) → List (List ℕ × V)
keyed ps = map (λ e. (sha256 e.0, e.1)) ps

-- the strings whose digests are the keys of the entries, with the values: those of the names, ascending, and then
-- those of the names for which a change waits, ascending
abbrev pub tree_strings : Table → List (List ℕ × List ℕ)
tree_strings table =
    valued name_string value_of (entries table.chains) ++ valued pending_key_string pending_value (entries table.waiting)

-- the entries of a table; where two strings have one digest the first of the list is the entry
unfoldable pub tree_entries : Table → Entries
tree_entries table = from_entries (keyed (tree_strings table))

-- the root of a table
abbrev pub root_of : Table → List ℕ
root_of table = root (tree_entries table)

-- ---- what is hashed

-- for the value of a name
abbrev pub newest_strings : Option Certificate → List (List ℕ)
newest_strings None = []
newest_strings (Some c) = value_string c.serial (digest_of c) ∷ []

-- for a name: its key, its value, and the digest of each of its certificates
abbrev pub chain_strings : List ℕ → List Change → List (List ℕ)
chain_strings name chain =
    name_string name ∷ (newest_strings (newest chain) ++ map certificate_string (certificates_of chain))

-- for what waits: its key, its value, and the digest of its certificate
abbrev pub pending_strings : List ℕ → Pending → List (List ℕ)
pending_strings name p =
    pending_key_string name ∷ (pending_string p.since (waiting_digest p) ∷ (certificate_string p.change.cert ∷ []))

-- all strings that are hashed for a table: those of its tree, of its names and of what waits
unfoldable pub table_strings : Table → List (List ℕ)
table_strings table =
    strings_of (tree_entries table)
    ++ (flat_map (λ e. chain_strings e.0 e.1) (entries table.chains)
    ++ flat_map (λ e. pending_strings e.0 e.1) (entries table.waiting))
