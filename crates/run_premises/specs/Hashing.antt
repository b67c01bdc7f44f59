-- The tables of one log of a run, and what the premise on collisions says beside its hashed strings.
use Rattle.std.specs.Prelude.{◌≡◌, ℕ, if◌then◌else◌, List, [], Contains}
use Rattle.ar_cert.specs.Certificate.{Certificate, digest_of}
use Rattle.ar_safety.specs.Hashed.{StandsIn, listed_tables, log_tables}
use Rattle.ar_safety.specs.Records.{IsHonest, Records, is_dishonest}
use Rattle.ar_statement.specs.Claims.{authority_party, log_party}
use Rattle.authority_core.specs.declared.entries.Approved.{Approved}
use Rattle.domain_table.specs.Tables.{Table}
use Rattle.lms_tree.specs.PublicKey.{key_text}

-- those that it voted for or decided, if it is honest
abbrev pub tables_of : Records → ℕ → List Table
tables_of r log = if is_dishonest r (log_party log) then [] else log_tables (r.logs log)

-- where an honest authority's check said yes to a certificate with the digest of one that stands in a listed table, the two have one
-- name and one key
abbrev pub AreAskedAlike : Records → Type 0
AreAskedAlike r = (authority : ℕ) → IsHonest r (authority_party authority) → (a : Approved) → Contains (r.authorities authority).asked a
    → (table : Table) → Contains (listed_tables r) table → (name : List ℕ) (certificate : Certificate) → StandsIn table name certificate
    → digest_of certificate ≡ a.certificate → (certificate.name ≡ a.name) × (key_text certificate.subject ≡ a.key)
