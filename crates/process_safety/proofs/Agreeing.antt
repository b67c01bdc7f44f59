-- What is agreed in a network is told by its logs, whatever its clients do.
use Rattle.std.proofs.Common.{◌≡◌, ◌∙◌, inl, inr, ℕ, List, sym, subst}
use Rattle.ar_cert.specs.Certificate.{Certificate}
use Rattle.ar_council.specs.Council.{Council, IsMember}
use Rattle.ar_safety.specs.Agreed.{Agreed, Backed, Backs, HasNewest, HasNone}
use Rattle.ar_safety.specs.Held.{records_of}
use Rattle.ar_safety.specs.Records.{AcceptedConfirmation, IsHonest, Records}
use Rattle.ar_statement.specs.declared.party.Party.{Party}
use Rattle.ar_statement.specs.declared.text.SeenText.{SeenText}
use Rattle.authority_core.specs.Record.{AuthorityRecord}
use Rattle.domain_table.specs.Tables.{Table}
use Rattle.domain_table.specs.Tree.{root_of}
use Rattle.vote_quorum.proofs.Counts.{at_least_wider}
use Rattle.vote_quorum.specs.Counted.{AtLeast}
use Rattle.process_safety.specs.Going.{with_clients}
use Rattle.process_safety.specs.Network.{ClientAct, IsNetwork, Network, held_in}
use Rattle.process_safety.proofs.Kept.{clients-kept}

-- ---- records of the same logs, by a council that is the same

abbrev others : Records → Council → (ℕ → AuthorityRecord) → List AcceptedConfirmation → List SeenText → Records
others r council authorities judged learned = record {
  council = council;
  dishonest = r.dishonest;
  logs = r.logs;
  authorities = authorities;
  judged = judged;
  learned = learned;
}

module _ (r : Records) (council : Council) (authorities : ℕ → AuthorityRecord) (judged : List AcceptedConfirmation) (learned : List SeenText) (same : council ≡ r.council) where
  abbrev s : Records
  s = others r council authorities judged learned

  honest-as : (party : Party) → IsHonest r party → IsHonest s party
  honest-as party h = record { known = subst (λ (c : Council). IsMember c party) (sym same) h.known; honest = h.honest }

  backs-as : (epoch : ℕ) (to : List ℕ) (log : ℕ) → Backs r epoch to log → Backs s epoch to log
  backs-as epoch to log (inl lies) = inl lies
  backs-as epoch to log (inr voted) = inr (honest-as _ voted.0, voted.1)

  backed-as : (epoch : ℕ) (to : List ℕ) → Backed r epoch to → Backed s epoch to
  backed-as epoch to backed =
      subst (λ (c : Council). AtLeast c.quorum c.logs (Backs s epoch to)) (sym same)
      (at_least_wider r.council.quorum r.council.logs (Backs r epoch to) (Backs s epoch to) (λ log less backs. backs-as epoch to log backs) backed)

  pub agreed-as : (epoch : ℕ) (table : Table) → Agreed r epoch table → Agreed s epoch table
  agreed-as epoch table a = record {
    log = a.log;
    honest = honest-as _ a.honest;
    ballot = a.ballot;
    is_cast = a.is_cast;
    of_epoch = a.of_epoch;
    leads = a.leads;
    is_root = a.is_root;
    backed = backed-as epoch (root_of table) a.backed;
  }

-- ---- the same network with other clients

same-council : (n : Network) (acts : List ClientAct) → IsNetwork n → IsNetwork (with_clients n acts)
    → (records_of (held_in (with_clients n acts))).council ≡ (records_of (held_in n)).council
same-council n acts is other = (clients-kept (with_clients n acts) other).council ∙ sym (clients-kept n is).council

pub still-agreed : (n : Network) (acts : List ClientAct) (epoch : ℕ) (table : Table) → IsNetwork n → IsNetwork (with_clients n acts) → Agreed (records_of (held_in n)) epoch table
    → Agreed (records_of (held_in (with_clients n acts))) epoch table
still-agreed n acts epoch table is other =
    let r : Records = records_of (held_in (with_clients n acts)) in
    agreed-as (records_of (held_in n)) r.council r.authorities r.judged r.learned (same-council n acts is other) epoch table

pub still-newest : (n : Network) (acts : List ClientAct) (name : List ℕ) (epoch : ℕ) (root : List ℕ) (certificate : Certificate) → IsNetwork n → IsNetwork (with_clients n acts)
    → HasNewest (records_of (held_in n)) name epoch root certificate → HasNewest (records_of (held_in (with_clients n acts))) name epoch root certificate
still-newest n acts name epoch root certificate is other h = record {
  table = h.table;
  agreed = still-agreed n acts epoch h.table is other h.agreed;
  is_root = h.is_root;
  chain = h.chain;
  there = h.there;
  is_chain = h.is_chain;
  last = h.last;
}

pub still-none : (n : Network) (acts : List ClientAct) (name : List ℕ) (epoch : ℕ) (root : List ℕ) → IsNetwork n → IsNetwork (with_clients n acts)
    → HasNone (records_of (held_in n)) name epoch root → HasNone (records_of (held_in (with_clients n acts))) name epoch root
still-none n acts name epoch root is other h = record { table = h.table; agreed = still-agreed n acts epoch h.table is other h.agreed; is_root = h.is_root; none = h.none }
