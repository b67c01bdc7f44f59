-- What an honest party confirms is backed by a quorum, whose votes it saw; and so is what a client accepts.
use Rattle.std.proofs.Common.{◌≡◌, ◌≢◌, ℕ, zero, suc, ◌+◌, ◌<◌, ◌≤◌, ◌^◌, ◌⊎◌, inl, inr, List, length, get_or, refl, sym, ap, ◌∙◌, subst, arith, Bool, true, false, nat_le, Option, Some, None}
use Rattle.std.specs.Prelude.{Contains}
use Rattle.std.specs.List.{list_any}
use Rattle.std.proofs.lemmas.Bool.{and_parts, cases_eq, leb-true}
use Rattle.std.proofs.lemmas.List.Elements.{All-contains}
use Rattle.std.proofs.lemmas.List.{get_or_default}
use Rattle.ar_base.specs.Bytes.{IsDigest}
use Rattle.ar_statement.specs.declared.party.Role.{Role}
use Rattle.ar_statement.specs.declared.party.Role.TheVariants.{LogServer, Authority, Owner, Client}
use Rattle.ar_statement.specs.declared.party.Party.{Party}
use Rattle.ar_statement.specs.Claims.{authority_party, confirmation_by, is_party, log_party, party}
use Rattle.ar_statement.specs.Fields.{is_epoch}
use Rattle.ar_statement.specs.Ranges.{IsValid, IsValue}
use Rattle.vote_quorum.specs.declared.value.Value.{Value}
use Rattle.domain_table.specs.Applying.{apply}
use Rattle.domain_table.specs.Tables.{Table}
use Rattle.domain_table.specs.Tree.{root_of}
use Rattle.domain_table.proofs.Trees.{root-digest}
use Rattle.epoch_log.specs.Honest.{IsOfHonestLog}
use Rattle.epoch_log.specs.Record.{base_of}
use Rattle.ar_council.proofs.Lists.{found}
use Rattle.ar_council.proofs.Seeing.{one_party}
use Rattle.ar_council.specs.Votes.{SawVotes}
use Rattle.epoch_log.specs.Right.{IsRightConfirmation, IsRightVote}
use Rattle.epoch_log.specs.Told.{HasConfirmed}
use Rattle.epoch_log.specs.declared.entries.Confirmed.{Confirmed}
use Rattle.epoch_log.specs.declared.entries.Voted.{Voted}
use Rattle.epoch_log.proofs.Read.{confirmations-signed}
use Rattle.authority_core.specs.Honest.{HasKept, IsOfHonestAuthority}
use Rattle.authority_core.specs.Record.{AuthorityRecord}
use Rattle.authority_core.proofs.Read.{confirmed-kept}
use Rattle.ar_safety.specs.Agreed.{Agreed, Backed, Backs, Confirms, SawQuorum}
use Rattle.ar_safety.specs.Records.{IsHonest, IsHonestLog, Records}
use Rattle.ar_safety.specs.Theorem.{AreHonest, Few, NoForgery}
use Rattle.ar_safety.proofs.Votes.{backs-voted, decided-backed, one-root, votes-back, witness}

-- ---- a backed root is that of an agreed table

pub record IsAgreed (r : Records) (e : ℕ) (to : List ℕ) : Type 0 where
  pub table : Table
  pub agreed : Agreed r e table
  pub is_root : root_of table ≡ to

pub backed-agreed : (r : Records) → AreHonest r → Few r → (e : ℕ) (to : List ℕ) → Backed r e to → IsAgreed r e to
backed-agreed r honest few e to backed =
    let w = witness r honest few (Backs r e to) (Backs r e to) backed backed in
    let k : ℕ = w.0 in
    let voted = backs-voted r e to k w.1.0 w.1.1 in
    let v : Voted = voted.1.0 in
    let there : Contains (r.logs k).voted v = voted.1.1.0 in
    let now : v.epoch ≡ e = voted.1.1.1 in
    let root : v.root ≡ to = ap (λ (x : Value). x.root) voted.1.1.2 in
    let right : IsRightVote (r.logs k).seen (r.logs k).ended v = All-contains (IsRightVote (r.logs k).seen (r.logs k).ended) (r.logs k).voted v (honest.logs k w.1.0).votes_rightly there in
    let t : Table = right.leads.reaches.table in
    let is : root_of t ≡ to = right.leads.reaches.is_root ∙ root in
    record {
      table = t;
      agreed = record {
        log = k;
        honest = w.1.0;
        ballot = v;
        is_cast = there;
        of_epoch = now;
        leads = subst (λ n. apply (base_of (r.logs k).ended n) n v.changes ≡ Some t) now right.leads.reaches.applied;
        is_root = sym right.leads.reaches.is_root;
        backed = subst (Backed r e) (sym is) backed;
      };
      is_root = is;
    }

-- ---- what an honest party confirms

epoch-of : (p : Party) (e : ℕ) (name : List ℕ) (certificate : Option (List ℕ)) (to : List ℕ) → IsValid (confirmation_by p e name certificate to) → is_epoch e ≡ true
epoch-of p e name None to valid = (and_parts _ (is_epoch e) valid.ranges).1
epoch-of p e name (Some certificate) to valid = (and_parts _ (is_epoch e) valid.ranges).1

root-of-claim : (p : Party) (e : ℕ) (name : List ℕ) (certificate : Option (List ℕ)) (to : List ℕ) → IsValid (confirmation_by p e name certificate to) → IsDigest to
root-of-claim p e name None to valid = valid.held.fields.1.1
root-of-claim p e name (Some certificate) to valid = valid.held.fields.1.1.1

-- a log decided what it confirms
log-decided : (r : Records) → AreHonest r → (log : ℕ) → IsHonestLog r log → (e : ℕ) (to : List ℕ) (c : Confirms r (log_party log) e to)
    → IsRightConfirmation (r.logs log).ended (record { epoch = e; name = c.name; certificate = c.certificate; root = to })
log-decided r honest log is e to c =
    let h : IsOfHonestLog r.council log (r.logs log) = honest.logs log is in
    let has : HasConfirmed (r.logs log).confirmed e c.name c.certificate to =
    (confirmations-signed r.council log (r.logs log) e c.name c.certificate to h c.valid).0 c.signed in
    let entry : Confirmed = record { epoch = e; name = c.name; certificate = c.certificate; root = to } in
    All-contains (IsRightConfirmation (r.logs log).ended) (r.logs log).confirmed entry h.confirms_rightly has

log-backed : (r : Records) → AreHonest r → NoForgery r → (log : ℕ) → IsHonestLog r log → (e : ℕ) (to : List ℕ) → Confirms r (log_party log) e to → Backed r e to
log-backed r honest forged log is e to c =
    let right = log-decided r honest log is e to c in
    decided-backed r honest forged log is e right.changes to right.decided

before : (e : ℕ) → is_epoch e ≡ true → (n : ℕ) × ((e ≡ n + 1) × (n < 2 ^ 63))
before zero is = absurd (omega (arith, leb-true 1 0 (and_parts (nat_le 1 0) (nat_le 0 (2 ^ 63)) is).0))
before (suc n) is = (n, (omega arith, omega (arith, leb-true (suc n) (2 ^ 63) (and_parts (nat_le 1 (suc n)) (nat_le (suc n) (2 ^ 63)) is).1)))

authority-backed : (r : Records) → AreHonest r → NoForgery r → (a : ℕ) → IsHonest r (authority_party a) → (e : ℕ) (to : List ℕ) → Confirms r (authority_party a) e to → Backed r e to
authority-backed r honest forged a is e to c =
    let h : IsOfHonestAuthority r.council a (r.authorities a) = honest.authorities a is in
    let own : AuthorityRecord = r.authorities a in
    let kept : HasKept r.council own.seen own.kept e c.name c.certificate to = confirmed-kept r.council a own e c.name c.certificate to h c.valid c.signed in
    let value : Value = record { base = kept.0.base; root = to } in
    let are : IsValue value = record { base = kept.1.5; root = root-of-claim (authority_party a) e c.name c.certificate to c.valid } in
    let n = before e (epoch-of (authority_party a) e c.name c.certificate to c.valid) in
    subst (λ x. Backed r x to) (sym n.1.0)
    (votes-back r honest own.seen (forged.authorities a is) n.0 n.1.1 value are (subst (λ x. SawVotes r.council own.seen x value) n.1.0 kept.1.6))

role-backed : (r : Records) → AreHonest r → NoForgery r → (role : Role) (number : ℕ) → IsHonest r (party role number) → (e : ℕ) (to : List ℕ) → Confirms r (party role number) e to → Backed r e to
role-backed r honest forged LogServer number is e to c = log-backed r honest forged number is e to c
role-backed r honest forged Authority number is e to c = authority-backed r honest forged number is e to c
role-backed r honest forged Owner number is e to c = absurd (omega (arith, is.known))
role-backed r honest forged Client number is e to c = absurd (omega (arith, is.known))

pub confirms-backed : (r : Records) → AreHonest r → NoForgery r → (p : Party) → IsHonest r p → (e : ℕ) (to : List ℕ) → Confirms r p e to → Backed r e to
confirms-backed r honest forged p is e to c = role-backed r honest forged p.role p.number is e to c

-- ---- and saw votes

-- a log that confirms decided the epoch, by votes that it saw
log-saw : (r : Records) → AreHonest r → (log : ℕ) → IsHonestLog r log → (e : ℕ) (to : List ℕ) → Confirms r (log_party log) e to → SawQuorum r (log_party log) e to
log-saw r honest log is e to c =
    let right = log-decided r honest log is e to c in
    let decision = (honest.logs log is).decides_rightly e right.changes to right.decided in
    let base : Table = base_of (r.logs log).ended e in
    record { base = root_of base; is_digest = root-digest base; saw = decision.votes }

-- an authority that confirms keeps what it saw votes for
authority-saw : (r : Records) → AreHonest r → (a : ℕ) → IsHonest r (authority_party a) → (e : ℕ) (to : List ℕ) → Confirms r (authority_party a) e to → SawQuorum r (authority_party a) e to
authority-saw r honest a is e to c =
    let own : AuthorityRecord = r.authorities a in
    let kept : HasKept r.council own.seen own.kept e c.name c.certificate to = confirmed-kept r.council a own e c.name c.certificate to (honest.authorities a is) c.valid c.signed in
    record { base = kept.0.base; is_digest = kept.1.5; saw = kept.1.6 }

role-saw : (r : Records) → AreHonest r → (role : Role) (number : ℕ) → IsHonest r (party role number) → (e : ℕ) (to : List ℕ) → Confirms r (party role number) e to → SawQuorum r (party role number) e to
role-saw r honest LogServer number is e to c = log-saw r honest number is e to c
role-saw r honest Authority number is e to c = authority-saw r honest number is e to c
role-saw r honest Owner number is e to c = absurd (omega (arith, is.known))
role-saw r honest Client number is e to c = absurd (omega (arith, is.known))

pub confirms-saw : (r : Records) → AreHonest r → (p : Party) → IsHonest r p → (e : ℕ) (to : List ℕ) → Confirms r p e to → SawQuorum r p e to
confirms-saw r honest p is e to c = role-saw r honest p.role p.number is e to c

pub one-confirmed : (r : Records) → AreHonest r → Few r → NoForgery r → (p q : Party) → IsHonest r p → IsHonest r q → (e : ℕ) (one other : List ℕ) → Confirms r p e one → Confirms r q e other → one ≡ other
one-confirmed r honest few forged p q is_p is_q e one other a b =
    one-root r honest few e one other (confirms-backed r honest forged p is_p e one a) (confirms-backed r honest forged q is_q e other b)

-- ---- one of three is honest

-- of three different parties one is not among two
pub one-of-three : (parties : List Party) (a b c : Party) → length parties ≤ 2 → a ≢ b → a ≢ c → b ≢ c
    → (list_any (is_party a) parties ≡ false) ⊎ ((list_any (is_party b) parties ≡ false) ⊎ (list_any (is_party c) parties ≡ false))
one-of-three parties a b c few ab ac bc = by (list_any (is_party a) parties) (list_any (is_party b) parties) (list_any (is_party c) parties) refl refl refl
  where
    among : (p : Party) → list_any (is_party p) parties ≡ true → Contains parties p
    among p is = let f = found (is_party p) parties is in subst (Contains parties) (sym (one_party p f.0 f.1.1)) f.1.0

    same : (p q : Party) (x : Contains parties p) (y : Contains parties q) → x.0 ≡ y.0 → p ≡ q
    same p q x y place = sym x.2 ∙ get_or_default parties x.0 p q x.1 ∙ ap (λ k. get_or parties k q) place ∙ y.2

    apart : (x : Contains parties a) (y : Contains parties b) (z : Contains parties c) → ⊥
    apart x y z = elim (cases_eq x.0 y.0) [
      | inl first ↦ ab (same a b x y first)
      | inr not-first ↦ elim (cases_eq x.0 z.0) [
        | inl second ↦ ac (same a c x z second)
        | inr not-second ↦ bc (same b c y z (omega (arith, not-first, not-second, x.1, y.1, z.1, few)))
      ]
    ]

    by : (x y z : Bool) → list_any (is_party a) parties ≡ x → list_any (is_party b) parties ≡ y → list_any (is_party c) parties ≡ z
        → (x ≡ false) ⊎ ((y ≡ false) ⊎ (z ≡ false))
    by false y z p q s = inl refl
    by true false z p q s = inr (inl refl)
    by true true false p q s = inr (inr refl)
    by true true true p q s = absurd (apart (among a p) (among b q) (among c s))
