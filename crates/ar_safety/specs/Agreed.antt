-- The words of the theorem's clauses: which root is backed and which table agreed, which endings are alike, who confirms
-- what, what the agreed table has for a name, who vouches for it, and who saw which votes.
use Rattle.std.specs.Prelude.{◌≡◌, ℕ, ◌+◌, ◌⊎◌, ◌==◌, Bool, true, not, ◌&&◌, List, Contains, Option, Some, None}
use Rattle.std.specs.List.{list_any}
use Rattle.std.specs.Str.{bytes_eq}
use Rattle.std.specs.FinMap.{get}
use Rattle.ar_base.specs.Bytes.{IsDigest}
use Rattle.lms_tree.specs.PublicKey.{key_text}
use Rattle.ar_cert.specs.Certificate.{Certificate, digest_of}
use Rattle.ar_cert.specs.Changes.{Change}
use Rattle.ar_cert.specs.Judging.{IsChain}
use Rattle.ar_message.specs.Confirmation.{Confirmation}
use Rattle.client_rule.specs.Rule.{claim_on}
use Rattle.ar_council.specs.Votes.{SawVotes}
use Rattle.ar_statement.specs.declared.party.Party.{Party}
use Rattle.ar_statement.specs.Claims.{authority_party, confirmation_by, endorse, log_party, text_of}
use Rattle.ar_statement.specs.Ranges.{IsValid}
use Rattle.vote_quorum.specs.Counted.{AtLeast, count_below}
use Rattle.domain_table.specs.Applying.{apply}
use Rattle.domain_table.specs.Tables.{Table, chain_of, newest}
use Rattle.domain_table.specs.Tree.{root_of}
use Rattle.epoch_log.specs.Record.{base_of}
use Rattle.epoch_log.specs.Told.{HasVoted}
use Rattle.epoch_log.specs.declared.entries.How.{How}
use Rattle.epoch_log.specs.declared.entries.How.TheVariants.{Decided, Skipped}
use Rattle.epoch_log.specs.declared.entries.Voted.{Voted}
use Rattle.authority_core.specs.declared.entries.Approved.{Approved}
use Rattle.ar_safety.specs.Records.{IsHonest, IsHonestLog, Records, is_dishonest, seen_by, signed_by, signers}

-- a log backs a root in an epoch: it is dishonest, or it voted for the root
abbrev pub Backs : Records → ℕ → List ℕ → ℕ → Type 0
Backs r epoch to log =
    (is_dishonest r (log_party log) ≡ true) ⊎ (IsHonestLog r log × ((from : List ℕ) × HasVoted (r.logs log).voted epoch (record { base = from; root = to })))

-- a quorum of logs back the root
abbrev pub Backed : Records → ℕ → List ℕ → Type 0
Backed r epoch to = AtLeast r.council.quorum r.council.logs (Backs r epoch to)

-- whether a vote of the epoch for the root is among these
abbrev pub has_vote : List Voted → ℕ → List ℕ → Bool
has_vote voted epoch to = list_any (λ v. (v.epoch == epoch) && bytes_eq v.root to) voted

-- how many back the root: the honest logs that voted for it, and the dishonest logs
abbrev pub backing : Records → ℕ → List ℕ → ℕ
backing r epoch to =
    count_below r.council.logs (λ log. not (is_dishonest r (log_party log)) && has_vote (r.logs log).voted epoch to)
    + count_below r.council.logs (λ log. is_dishonest r (log_party log))

-- the table is agreed in the epoch: an honest log voted for it, and its root is backed
pub record Agreed (r : Records) (epoch : ℕ) (table : Table) : Type 0 where
  pub log : ℕ
  pub honest : IsHonestLog r log
  pub ballot : Voted
  pub is_cast : Contains (r.logs log).voted ballot
  pub of_epoch : ballot.epoch ≡ epoch
  pub leads : apply (base_of (r.logs log).ended epoch) epoch ballot.changes ≡ Some table
  pub is_root : ballot.root ≡ root_of table
  pub backed : Backed r epoch (root_of table)

-- two endings are of one kind, and of one root
abbrev pub SameEnding : How → How → Type 0
SameEnding (Skipped one) (Skipped other) = Unit {0}
SameEnding (Decided changes to) (Decided others root) = to ≡ root
SameEnding (Skipped statuses) (Decided others root) = ⊥
SameEnding (Decided changes to) (Skipped statuses) = ⊥

-- a party confirmed something of an epoch under the root
pub record Confirms (r : Records) (party : Party) (epoch : ℕ) (to : List ℕ) : Type 0 where
  pub name : List ℕ
  pub certificate : Option (List ℕ)
  pub valid : IsValid (confirmation_by party epoch name certificate to)
  pub signed : Contains (signed_by r party) (text_of (confirmation_by party epoch name certificate to))

-- in the table that is agreed in the epoch, with this root, the name has a chain whose newest certificate is this one
pub record HasNewest (r : Records) (name : List ℕ) (epoch : ℕ) (to : List ℕ) (certificate : Certificate) : Type 0 where
  pub table : Table
  pub agreed : Agreed r epoch table
  pub is_root : root_of table ≡ to
  pub chain : List Change
  pub there : get table.chains name ≡ Some chain
  pub is_chain : IsChain chain
  pub last : newest chain ≡ Some certificate

-- in the table that is agreed in the epoch, with this root, the name has none
pub record HasNone (r : Records) (name : List ℕ) (epoch : ℕ) (to : List ℕ) : Type 0 where
  pub table : Table
  pub agreed : Agreed r epoch table
  pub is_root : root_of table ≡ to
  pub none : get table.chains name ≡ None

-- An authority vouches for a certificate that stands for a name: it signed the endorsement, and its check said yes to this name
-- with the certificate's key.
pub record IsVouchedBy (r : Records) (name : List ℕ) (certificate : Certificate) (authority : ℕ) : Type 0 where
  pub signed : Contains (signed_by r (authority_party authority)) (text_of (endorse authority (digest_of certificate)))
  pub asked : Approved
  pub was_asked : Contains (r.authorities authority).asked asked
  pub is_digest : asked.certificate ≡ digest_of certificate
  pub is_name : (certificate.name ≡ name) × (asked.name ≡ name)
  pub is_key : asked.key ≡ key_text certificate.subject

-- an honest authority vouches for it
pub record IsVouchedFor (r : Records) (name : List ℕ) (certificate : Certificate) : Type 0 where
  pub authority : ℕ
  pub honest : IsHonest r (authority_party authority)
  pub vouches : IsVouchedBy r name certificate authority

-- a change that a table has for a name: one of its chain, or the one that waits
abbrev pub HasChange : Table → List ℕ → Change → Type 0
HasChange table name change =
    Contains (chain_of table name) change ⊎ ((since : ℕ) × (get table.waiting name ≡ Some (record { change = change; since = since })))

-- a party saw votes of the epoch, of a quorum of different logs, for the root, and all over one base
pub record SawQuorum (r : Records) (party : Party) (epoch : ℕ) (to : List ℕ) : Type 0 where
  pub base : List ℕ
  pub is_digest : IsDigest base
  pub saw : SawVotes r.council (seen_by r party) epoch (record { base = base; root = to })

-- one of the three that signed a confirmation is honest: it signed its statement of it, and saw a quorum's votes for its root
pub record HasHonestSigner (r : Records) (c : Confirmation) : Type 0 where
  pub party : Party
  pub one_of : Contains (signers c) party
  pub honest : IsHonest r party
  pub signed : Contains (signed_by r party) (text_of (claim_on c.about c.body party))
  pub saw : SawQuorum r party c.about.epoch c.about.root
