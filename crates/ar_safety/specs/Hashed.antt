-- The tables that honest logs voted for or decided, and the strings that are hashed for them and by clients.
use Rattle.std.specs.Prelude.{◌≡◌, ℕ, zero, suc, ◌⊎◌, if◌then◌else◌, List, [], ◌∷◌, ◌++◌, flat_map, Contains, Option, Some, None, filter_map}
use Rattle.ar_statement.specs.Claims.{log_party}
use Rattle.domain_table.specs.Applying.{apply}
use Rattle.domain_table.specs.Tables.{Table, certificates, pairs}
use Rattle.ar_names.specs.Names.{name_digest_of, name_string}
use Rattle.ar_cert.specs.Certificate.{Certificate, certificate_string, certificate_value, digest_of}
use Rattle.ar_message.specs.Confirmation.{Body, present, absent}
use Rattle.hash_tree.specs.Strings.{entry_string, value_string}
use Rattle.tree_proof.specs.Fold.{digests_in}
use Rattle.tree_proof.specs.Membership.{bottom_string, path_strings}
use Rattle.domain_table.specs.Tree.{table_strings}
use Rattle.epoch_log.specs.Record.{LogRecord, base_of}
use Rattle.epoch_log.specs.declared.entries.Ended.{Ended}
use Rattle.epoch_log.specs.declared.entries.How.{How}
use Rattle.epoch_log.specs.declared.entries.How.TheVariants.{Decided, Skipped}
use Rattle.epoch_log.specs.declared.entries.Voted.{Voted}
use Rattle.ar_safety.specs.Records.{AcceptedConfirmation, Records, is_dishonest}

-- the table of a vote
abbrev pub voted_table : List Ended → Voted → Option Table
voted_table ended v = apply (base_of ended v.epoch) v.epoch v.changes

-- the table of a decided epoch; a skipped one makes none
abbrev pub ended_table : List Ended → ℕ → How → Option Table
ended_table ended epoch (Skipped statuses) = None
ended_table ended epoch (Decided changes to) = apply (base_of ended epoch) epoch changes

-- the tables that a log voted for, and those that it decided
abbrev pub log_tables : LogRecord → List Table
log_tables l =
    filter_map (voted_table l.ended) l.voted ++ filter_map (λ (x : Ended). ended_table l.ended x.epoch x.how) l.ended

-- those of the honest logs below a number
unfoldable pub tables_below : Records → ℕ → List Table
tables_below r zero = []
tables_below r (suc log) = (if is_dishonest r (log_party log) then [] else log_tables (r.logs log)) ++ tables_below r log

-- those of all honest logs
abbrev pub listed_tables : Records → List Table
listed_tables r = tables_below r r.council.logs

-- the strings that a client hashes for what it accepted: the name's key, the certificate and its value, and the path
abbrev pub body_strings : List ℕ → List ℕ → Body → List (List ℕ)
body_strings key steps (present certificate) =
    value_string certificate.serial (digest_of certificate)
    ∷ (certificate_string certificate
    ∷ path_strings key (entry_string key (certificate_value certificate)) (digests_in steps))
body_strings key steps (absent bottom) = path_strings key (bottom_string bottom) (digests_in steps)

abbrev pub judged_strings : AcceptedConfirmation → List (List ℕ)
judged_strings j =
    name_string j.confirmation.about.name
    ∷ body_strings (name_digest_of j.confirmation.about.name) j.confirmation.steps j.confirmation.body

-- all strings that are hashed for the tables, and by clients
abbrev pub hashed : Records → List (List ℕ)
hashed r = flat_map table_strings (listed_tables r) ++ flat_map judged_strings r.judged

-- a certificate stands in a table for a name: in the name's chain, or it waits for the name
abbrev pub StandsIn : Table → List ℕ → Certificate → Type 0
StandsIn table name certificate = Contains (certificates table name) certificate ⊎ ((since : ℕ) × (pairs table name ≡ Some (certificate, since)))
