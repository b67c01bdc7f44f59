-- The theorem, as the law `records_are_safe` has it: records of honest parties (`AreHonest`) that meet the premises `Few`,
-- `NoForgery` and `NoCollision` are `Safe`.
use Rattle.std.specs.Prelude.{◌≡◌, ℕ, ◌+◌, ◌<◌, ◌≤◌, List, length, All, Contains, Some, IsTrue}
use Rattle.ar_base.specs.Prefixes.{BeginsWith}
use Rattle.ar_base.specs.Apart.{none_collide}
use Rattle.lms_tree.specs.PublicKey.{key_text}
use Rattle.ar_cert.specs.Certificate.{Certificate, digest_of}
use Rattle.ar_message.specs.Confirmation.{present, absent}
use Rattle.ar_statement.specs.declared.party.Party.{Party}
use Rattle.hash_tree.specs.declared.bottom.Bottom.{Bottom}
use Rattle.ar_statement.specs.Claims.{authority_party}
use Rattle.ar_cert.specs.Changes.{Change}
use Rattle.ar_cert.specs.Judging.{endorsers_of}
use Rattle.domain_table.specs.Tables.{SameTable, Table, certificates, chain_of}
use Rattle.domain_table.specs.Waiting.{EachWaited}
use Rattle.epoch_log.specs.Honest.{IsOfHonestLog}
use Rattle.epoch_log.specs.Record.{base_of, ending}
use Rattle.epoch_log.specs.declared.entries.How.{How}
use Rattle.authority_core.specs.Honest.{IsOfHonestAuthority}
use Rattle.authority_core.specs.declared.entries.Approved.{Approved}
use Rattle.client_rule.specs.Meaning.{IsTimely}
use Rattle.ar_safety.specs.Agreed.{Agreed, Backed, Confirms, HasChange, HasHonestSigner, HasNewest, HasNone, IsVouchedBy, IsVouchedFor, SameEnding}
use Rattle.ar_safety.specs.Hashed.{StandsIn, hashed, listed_tables}
use Rattle.ar_safety.specs.Records.{AreQuorums, AreSigned, IsHonest, IsHonestLog, IsJudged, AcceptedConfirmation, Records, carried}

-- ---- what every run meets

-- Two quorums of logs share more than two; the record of each log and authority that is not dishonest is an honest one's; and
-- what clients accepted they accepted by their rule.
pub record AreHonest (r : Records) : Type 0 where
  pub quorums : AreQuorums r.council
  pub logs : (log : ℕ) → IsHonestLog r log → IsOfHonestLog r.council log (r.logs log)
  pub authorities : (authority : ℕ) → IsHonest r (authority_party authority) → IsOfHonestAuthority r.council authority (r.authorities authority)
  pub judged : All (IsJudged r.council) r.judged

-- ---- the premises

-- 1. At most two logs and authorities, in all, are dishonest.
abbrev pub Few : Records → Type 0
Few r = length r.dishonest ≤ 2

-- 2. No signature was forged: each statement of an honest party that an honest log or authority saw, that a client accepted,
-- or from which the clients' directory learnt a key, stands in the book of that party.
pub record NoForgery (r : Records) : Type 0 where
  pub logs : (log : ℕ) → IsHonestLog r log → AreSigned r (r.logs log).seen
  pub authorities : (authority : ℕ) → IsHonest r (authority_party authority) → AreSigned r (r.authorities authority).seen
  pub judged : All (λ j. AreSigned r (carried j.confirmation)) r.judged
  pub learned : AreSigned r r.learned

-- 3. Nothing collides: no two of the strings that are hashed for the listed tables and by clients have one digest; and where
-- an honest authority's check said yes to a certificate with the digest of one that stands in a listed table, the two have
-- one name and one key.
pub record NoCollision (r : Records) : Type 0 where
  pub strings : IsTrue (none_collide (hashed r))
  pub asked : (authority : ℕ) → IsHonest r (authority_party authority) → (a : Approved) → Contains (r.authorities authority).asked a
      → (table : Table) → Contains (listed_tables r) table → (name : List ℕ) (certificate : Certificate) → StandsIn table name certificate
      → digest_of certificate ≡ a.certificate → (certificate.name ≡ a.name) × (key_text certificate.subject ≡ a.key)

-- ---- what then holds

-- 1. Honest parties agree on each epoch: one root alone is backed; one table alone is agreed; two honest logs that ended the
-- epoch ended it alike and begin the next with equal tables; and what two honest parties confirm of it is under one root.
pub record AgreeOnEpochs (r : Records) : Type 0 where
  pub one_root : (epoch : ℕ) (one other : List ℕ) → Backed r epoch one → Backed r epoch other → one ≡ other
  pub one_table : (epoch : ℕ) (one other : Table) → Agreed r epoch one → Agreed r epoch other → SameTable one other
  pub one_ending : (j k : ℕ) → IsHonestLog r j → IsHonestLog r k → (epoch : ℕ) (one other : How)
      → ending (r.logs j).ended epoch ≡ Some one → ending (r.logs k).ended epoch ≡ Some other
      → SameEnding one other × SameTable (base_of (r.logs j).ended (epoch + 1)) (base_of (r.logs k).ended (epoch + 1))
  pub one_confirmed : (p q : Party) → IsHonest r p → IsHonest r q → (epoch : ℕ) (one other : List ℕ)
      → Confirms r p epoch one → Confirms r q epoch other → one ≡ other

-- 2. A certificate that a client accepted is the newest of its name's policy-valid chain in the table that is agreed under the
-- confirmed root, and was accepted in time.
abbrev pub AcceptedAreNewest : Records → Type 0
AcceptedAreNewest r = (j : AcceptedConfirmation) (certificate : Certificate) → Contains r.judged j → j.confirmation.body ≡ present certificate
    → HasNewest r j.asked.name j.confirmation.about.epoch j.confirmation.about.root certificate × IsTimely j.asked j.confirmation.about.epoch j.confirmation.body

-- 3. Chains only grow: those of an agreed table begin those of the table that is agreed in a later epoch.
abbrev pub ChainsOnlyGrow : Records → Type 0
ChainsOnlyGrow r = (epoch later : ℕ) (one other : Table) → Agreed r epoch one → Agreed r later other → epoch < later
    → (name : List ℕ) → BeginsWith (certificates other name) (certificates one name)

-- 4. An honest authority vouches for each certificate of an agreed table, in a chain or waiting.
abbrev pub AreVouchedFor : Records → Type 0
AreVouchedFor r = (epoch : ℕ) (table : Table) → Agreed r epoch table → (name : List ℕ) (certificate : Certificate)
    → StandsIn table name certificate → IsVouchedFor r name certificate

-- 5. A name of which a client accepted that it has no certificate has none in the table that is agreed under the confirmed
-- root, and the client accepted this in time.
abbrev pub AbsentHaveNone : Records → Type 0
AbsentHaveNone r = (j : AcceptedConfirmation) (bottom : Bottom) → Contains r.judged j → j.confirmation.body ≡ absent bottom
    → HasNone r j.asked.name j.confirmation.about.epoch j.confirmation.about.root × IsTimely j.asked j.confirmation.about.epoch j.confirmation.body

-- 6. Each honest endorser vouches: of each change of an agreed table, in a chain or waiting, each honest authority among its
-- endorsers signed the endorsement, and its check had said yes to the name and the key.
abbrev pub EachEndorserVouches : Records → Type 0
EachEndorserVouches r = (epoch : ℕ) (table : Table) → Agreed r epoch table → (name : List ℕ) (change : Change) → HasChange table name change
    → (authority : ℕ) → Contains (endorsers_of change) authority → IsHonest r (authority_party authority)
    → IsVouchedBy r name change.cert authority

-- 7. What a client accepted was voted: an honest one of the three that signed it saw a quorum's votes for its root.
abbrev pub AcceptedWereVoted : Records → Type 0
AcceptedWereVoted r = (j : AcceptedConfirmation) → Contains r.judged j → HasHonestSigner r j.confirmation

-- 8. A recovery waited: in a chain of an agreed table each change behind another is a full update of that one's certificate,
-- or its certificate waited in the agreed tables, as long as the policy of that one says.
abbrev pub RecoveriesWaited : Records → Type 0
RecoveriesWaited r = (epoch : ℕ) (table : Table) → Agreed r epoch table → (name : List ℕ)
    → EachWaited (Agreed r) epoch name (chain_of table name)

-- All eight.
pub record Safe (r : Records) : Type 0 where
  pub agree : AgreeOnEpochs r
  pub newest : AcceptedAreNewest r
  pub grow : ChainsOnlyGrow r
  pub vouched : AreVouchedFor r
  pub absence : AbsentHaveNone r
  pub endorsers : EachEndorserVouches r
  pub voted : AcceptedWereVoted r
  pub waited : RecoveriesWaited r
