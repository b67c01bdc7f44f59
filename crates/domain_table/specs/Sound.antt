-- What each table keeps that comes from the one without names by applying changes.
use Rattle.std.specs.Prelude.{◌≡◌, ℕ, ◌^◌, ◌<◌, false, List, All, Contains, Some}
use Rattle.std.specs.FinMap.{get}
use Rattle.cert_policy.specs.declared.manner.Manner.TheVariants.{Recovery}
use Rattle.ar_cert.specs.Certificate.{Certificate}
use Rattle.ar_cert.specs.Changes.{Change, IsChange}
use Rattle.ar_cert.specs.Judging.{IsChain, IsTakenIn}
use Rattle.domain_table.specs.Tables.{Pending, Table, chain_of, newest}
use Rattle.domain_table.specs.Applying.{Epoch}

-- the changes are the chain of this name: each is accepted behind the one before it, and speaks of the name
pub record IsChainOf (name : List ℕ) (changes : List Change) : Type 0 where
  pub chain : IsChain changes
  pub each : All IsChange changes
  pub named : All (λ r. r.cert.name ≡ name) changes

-- what waits for a name is a recovery from the newest certificate as it is now
pub record Waits (name : List ℕ) (chain : List Change) (p : Pending) : Type 0 where
  pub old : Certificate
  pub is_newest : newest chain ≡ Some old
  pub recovers : IsTakenIn Recovery old false p.change
  pub change : IsChange p.change
  pub named : p.change.cert.name ≡ name
  pub since : p.since < 2 ^ 64

-- each chain is that of its name, and each change that waits may follow it
pub record IsSound (table : Table) : Type 0 where
  pub chains : (name : List ℕ) (chain : List Change) → get table.chains name ≡ Some chain → IsChainOf name chain
  pub waits : (name : List ℕ) (p : Pending) → get table.waiting name ≡ Some p → Waits name (chain_of table name) p

-- the number of an epoch has a text, and each of its changes has one
pub record IsEpochOf (epoch : Epoch) : Type 0 where
  pub number : epoch.0 < 2 ^ 64
  pub changes : All IsChange epoch.1

-- a change of a name that is among these
abbrev pub IsAmong : List Change → List ℕ → Change → Type 0
IsAmong changes name c = Contains changes c × (c.cert.name ≡ name)

-- each change of a table, and each that waits, is among these and speaks of the name under which it stands
pub record AllCameBy (changes : List Change) (table : Table) : Type 0 where
  pub chains : (name : List ℕ) (chain : List Change) → get table.chains name ≡ Some chain → All (IsAmong changes name) chain
  pub waits : (name : List ℕ) (p : Pending) → get table.waiting name ≡ Some p → IsAmong changes name p.change
