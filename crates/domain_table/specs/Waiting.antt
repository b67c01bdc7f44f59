-- What it is that a recovery waited, in the tables of epochs. Which tables are those of an epoch is told by a relation: in the
-- theorem (`ar_safety`), the tables that are agreed in the epoch.
use Rattle.std.specs.Prelude.{◌≡◌, ℕ, ◌+◌, ◌<◌, ◌≤◌, ◌⊎◌, false, List, length, get_or, Contains, Some}
use Rattle.cert_policy.specs.declared.manner.Manner.TheVariants.{Full}
use Rattle.ar_cert.specs.Certificate.{Certificate}
use Rattle.ar_cert.specs.Changes.{Change}
use Rattle.ar_cert.specs.Judging.{IsTakenIn}
use Rattle.domain_table.specs.Tables.{SameTable, Table, certificates, chain_of, newest, pairs}
use Rattle.domain_table.specs.Applying.{apply}

-- in the table the old certificate is the newest of the name, and the new one waits behind it since this epoch
abbrev pub WaitsBehind : Table → List ℕ → Certificate → Certificate → ℕ → Type 0
WaitsBehind table name old new since = (newest (chain_of table name) ≡ Some old) × (pairs table name ≡ Some (new, since))

-- The new certificate waited behind the old one: it began to wait in an epoch, and was taken in a later one, after at least as
-- many epochs as the old policy says, skipped ones counted. Both epochs have a table. In each table of the epochs from the one
-- up to before the other the old certificate is the newest and the new one waits since the first; so no objection ended it. In
-- each table of the last of them the new certificate stands in the chain.
pub record Waited (InEpoch : ℕ → Table → Type 0) (epoch : ℕ) (name : List ℕ) (old new : Certificate) : Type 0 where
  pub wait : ℕ
  pub is_wait : old.policy.wait ≡ Some wait
  pub since : ℕ
  pub taken : ℕ
  pub later : since < taken
  pub long : since + wait ≤ taken
  pub by_now : taken ≤ epoch
  pub began : (table : Table) × InEpoch since table
  pub waits : (e : ℕ) (table : Table) → since ≤ e → e < taken → InEpoch e table → WaitsBehind table name old new since
  pub ended : (table : Table) × InEpoch taken table
  pub stands : (table : Table) → InEpoch taken table → Contains (certificates table name) new

-- each change of a chain that stands behind another is a full update of that one's certificate, or its own waited
abbrev pub EachWaited : (ℕ → Table → Type 0) → ℕ → List ℕ → List Change → Type 0
EachWaited InEpoch epoch name chain = (k : ℕ) (d : Change) → k + 1 < length chain
    → IsTakenIn Full (get_or chain k d).cert false (get_or chain (k + 1) d)
    ⊎ Waited InEpoch epoch name (get_or chain k d).cert (get_or chain (k + 1) d).cert

-- An epoch leads from a table to the next one: it left the table as it is, or it applied changes and has a table. Each table of
-- the epoch is equal to the next one.
pub record Leads (InEpoch : ℕ → Table → Type 0) (epoch : ℕ) (before after : Table) : Type 0 where
  pub how : (before ≡ after) ⊎ ((changes : List Change) × (apply before epoch changes ≡ Some after) × ((table : Table) × InEpoch epoch table))
  pub same : (table : Table) → InEpoch epoch table → SameTable table after
