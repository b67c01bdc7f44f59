-- What clients accepted of one name is in order, and was asked for; what a table has stands in it; and where an honest party saw a
-- quorum's votes, their root is backed.
use Rattle.std.proofs.Common.{◌≡◌, ℕ, zero, suc, ◌+◌, ◌<◌, ◌≤◌, ◌^◌, inl, inr, List, [], ◌∷◌, ◌++◌, length, get_or, refl, sym, ap, ◌∙◌, subst, arith, Option, Some, None}
use Rattle.std.specs.Prelude.{Contains, unwrap_or}
use Rattle.std.specs.List.{last_or}
use Rattle.std.specs.Option.{option_map}
use Rattle.std.proofs.lemmas.List.Elements.{All-contains}
use Rattle.std.proofs.lemmas.Option.{same_Some}
use Rattle.std.proofs.lemmas.List.{append-nil, length-append, length-map}
use Rattle.ar_base.specs.Bytes.{IsDigest}
use Rattle.ar_base.specs.Prefixes.{BeginsWith}
use Rattle.ar_cert.specs.Certificate.{Certificate}
use Rattle.ar_cert.specs.Changes.{Change}
use Rattle.ar_cert.specs.Judging.{IsChain}
use Rattle.ar_cert.proofs.Accepted.{serial_at}
use Rattle.authority_core.proofs.Growing.{map-has}
use Rattle.ar_message.specs.Confirmation.{Body, absent, certificate_in, present}
use Rattle.ar_council.specs.Votes.{SawVotes}
use Rattle.ar_statement.specs.Claims.{party}
use Rattle.ar_statement.specs.Ranges.{IsValue}
use Rattle.ar_statement.specs.declared.party.Party.{Party}
use Rattle.ar_statement.specs.declared.party.Role.{Role}
use Rattle.ar_statement.specs.declared.party.Role.TheVariants.{LogServer, Authority, Owner, Client}
use Rattle.vote_quorum.specs.declared.value.Value.{Value}
use Rattle.domain_table.specs.Tables.{SameTable, Table, certificates, certificates_of, chain_of, newest, pair_of}
use Rattle.domain_table.specs.Tree.{root_of}
use Rattle.domain_table.proofs.Newest.{newest_is, newest_there, some_there}
use Rattle.client_rule.specs.declared.judgement.Judgement.{Judgement}
use Rattle.client_rule.specs.declared.judgement.Judgement.TheVariants as judgements
use Rattle.ar_safety.specs.Agreed.{Agreed, Backed, HasChange, HasNewest, HasNone, IsVouchedFor, SawQuorum}
use Rattle.ar_safety.specs.Hashed.{StandsIn}
use Rattle.ar_safety.specs.Held.{AreSafe, Held, AcceptedBytes, records_of, verdict_on}
use Rattle.ar_safety.specs.Records.{AreSigned, IsHonest, AcceptedConfirmation, Records, seen_by}
use Rattle.ar_safety.specs.Succession.{AcceptedOf, AreInOrder, IsNoOlder, accepted_by, accepted_of}
use Rattle.ar_safety.specs.Theorem.{AreHonest, NoForgery, Safe}
use Rattle.ar_safety.proofs.Votes.{votes-back}

-- ---- a chain and its newest certificate

-- it has the highest serial number, the number of the certificates before it
newest-serial : (chain : List Change) → IsChain chain → (c : Certificate) → newest chain ≡ Some c → c.serial + 1 ≡ length chain
newest-serial [] is c last = absurd (omega (arith, is.some))
newest-serial (a ∷ chain) is c last =
    let got : (get_or (a ∷ chain) (length chain) a).cert ≡ c = same_Some (get_or (a ∷ chain) (length chain) a).cert c (sym (newest_is (a ∷ chain) (length chain) a (omega arith)) ∙ last) in
    let number : (get_or (a ∷ chain) (length chain) a).cert.serial ≡ length chain = serial_at (a ∷ chain) is (length chain) a (omega arith) in
    let own : c.serial ≡ length chain = sym (ap (λ (x : Certificate). x.serial) got) ∙ number in
    omega (arith, own)

-- it is one of its certificates
newest-in : (chain : List Change) (c : Certificate) → newest chain ≡ Some c → Contains (certificates_of chain) c
newest-in [] c is = absurd cc
newest-in (a ∷ []) c is = (0, omega arith, same_Some a.cert c is)
newest-in (a ∷ b ∷ chain) c is =
    let rest = newest-in (b ∷ chain) c is in
    (suc rest.0, omega (arith, rest.1), rest.2)

-- ---- in order

-- in the agreed table the name has this
record Stands (r : Records) (name : List ℕ) (a : AcceptedOf) : Type 0 where
  table : Table
  agreed : Agreed r a.epoch table
  is_root : root_of table ≡ a.root
  last : newest (chain_of table name) ≡ a.certificate
  chain : 0 < length (chain_of table name) → IsChain (chain_of table name)

with-newest : (r : Records) (name : List ℕ) (epoch : ℕ) (to : List ℕ) (c : Certificate) → HasNewest r name epoch to c
    → Stands r name (record { epoch = epoch; certificate = Some c; root = to })
with-newest r name epoch to c has =
    let is : chain_of has.table name ≡ has.chain = ap (λ o. unwrap_or o []) has.there in
    record { table = has.table; agreed = has.agreed; is_root = has.is_root; last = ap newest is ∙ has.last; chain = λ some. subst IsChain (sym is) has.is_chain }

with-none : (r : Records) (name : List ℕ) (epoch : ℕ) (to : List ℕ) → HasNone r name epoch to
    → Stands r name (record { epoch = epoch; certificate = None; root = to })
with-none r name epoch to has =
    let is : chain_of has.table name ≡ [] = ap (λ o. unwrap_or o []) has.none in
    record { table = has.table; agreed = has.agreed; is_root = has.is_root; last = ap newest is; chain = λ some. absurd (omega (arith, some, ap (length {A = Change}) is)) }

-- a list of certificates that begins with another has no older one at its end
goes-on : (one other : List Change) → IsChain one → (0 < length other → IsChain other) → (c : Certificate) (later : Option Certificate) → newest one ≡ Some c → newest other ≡ later
    → (rest : List Certificate) → certificates_of other ≡ certificates_of one ++ rest → IsNoOlder (Some c) later
goes-on one other is are c later first last [] more =
    let same : certificates_of other ≡ certificates_of one = more ∙ append-nil (certificates_of one) in
    let found : later ≡ Some c = sym last ∙ ap (last_or None) same ∙ first in
    subst (IsNoOlder (Some c)) (sym found) (inl refl)
goes-on one other is are c later first last (x ∷ rest) more = ends later last
  where
    counted : length other ≡ length one + suc (length rest)
    counted = sym (length-map other (λ (r : Change). r.cert)) ∙ ap (length {A = Certificate}) more ∙ length-append (certificates_of one) (x ∷ rest) ∙ ap (λ n. n + suc (length rest)) (length-map one (λ (r : Change). r.cert))

    ends : (o : Option Certificate) → newest other ≡ o → IsNoOlder (Some c) o
    ends None none =
        let some = newest_there other (omega (arith, counted)) in
        let wrong : ◌≡◌ {A = Option Certificate} None (Some some.0) = sym none ∙ some.1 in
        absurd cc
    ends (Some d) some =
        inr (omega (arith, counted, newest-serial one is c first, newest-serial other (are (omega (arith, counted))) d some))

in-order : (r : Records) → Safe r → (name : List ℕ) (one other : AcceptedOf) → Stands r name one → Stands r name other → AreInOrder one other
in-order r safe name one other a b = record { same = same; later = later one.certificate a.last }
  where
    same : one.epoch ≡ other.epoch → (one.certificate ≡ other.certificate) × (one.root ≡ other.root)
    same e =
        let there : Agreed r one.epoch b.table = subst (λ n. Agreed r n b.table) (sym e) b.agreed in
        let tables : SameTable a.table b.table = safe.agree.one_table one.epoch a.table b.table a.agreed there in
        let found : newest (chain_of a.table name) ≡ newest (chain_of b.table name) = ap (last_or None) (tables name).0 in (
          sym a.last ∙ found ∙ b.last,
          safe.agree.one_root one.epoch one.root other.root (subst (Backed r one.epoch) a.is_root a.agreed.backed) (subst (Backed r one.epoch) b.is_root there.backed),
        )

    later : (o : Option Certificate) → newest (chain_of a.table name) ≡ o → one.epoch < other.epoch → IsNoOlder o other.certificate
    later None none less = tt
    later (Some c) some less =
        let more : BeginsWith (certificates b.table name) (certificates a.table name) = safe.grow one.epoch other.epoch a.table b.table a.agreed b.agreed less name in
        goes-on (chain_of a.table name) (chain_of b.table name) (a.chain (some_there (chain_of a.table name) c some)) b.chain c other.certificate some b.last more.0 more.1

-- ---- of records

stands-judged : (r : Records) → Safe r → (j : AcceptedConfirmation) → Contains r.judged j → Stands r j.asked.name (accepted_by j)
stands-judged r safe j there = by j.confirmation.body refl
  where
    by : (b : Body) → j.confirmation.body ≡ b → Stands r j.asked.name (record { epoch = j.confirmation.about.epoch; certificate = certificate_in b; root = j.confirmation.about.root })
    by (present certificate) is = with-newest r j.asked.name j.confirmation.about.epoch j.confirmation.about.root certificate (safe.newest j certificate there is).0
    by (absent bottom) is = with-none r j.asked.name j.confirmation.about.epoch j.confirmation.about.root (safe.absence j bottom there is).0

pub judged-in-order : (r : Records) → Safe r → (j k : AcceptedConfirmation) → Contains r.judged j → Contains r.judged k → j.asked.name ≡ k.asked.name → AreInOrder (accepted_by j) (accepted_by k)
judged-in-order r safe j k one other same =
    in-order r safe j.asked.name (accepted_by j) (accepted_by k) (stands-judged r safe j one) (subst (λ name. Stands r name (accepted_by k)) (sym same) (stands-judged r safe k other))

-- ---- of a run

stands-taken : (h : Held) → AreSafe h → (t : AcceptedBytes) (a : AcceptedOf) → Contains h.judged t → accepted_of (verdict_on h.directory t) ≡ Some a → Stands (records_of h) t.name a
stands-taken h safe t a there is = by (verdict_on h.directory t) refl is
  where
    by : (v : Judgement) → verdict_on h.directory t ≡ v → accepted_of v ≡ Some a → Stands (records_of h) t.name a
    by (judgements.Accepted certificate digest epoch root) said e =
        let same : ◌≡◌ {A = AcceptedOf} (record { epoch = epoch; certificate = Some certificate; root = root }) a = same_Some _ a e in
        subst (Stands (records_of h) t.name) same (with-newest (records_of h) t.name epoch root certificate (safe.accepted t certificate digest epoch root there said))
    by (judgements.Absent epoch root) said e =
        let same : ◌≡◌ {A = AcceptedOf} (record { epoch = epoch; certificate = None; root = root }) a = same_Some _ a e in
        subst (Stands (records_of h) t.name) same (with-none (records_of h) t.name epoch root (safe.absence t epoch root there said))
    by (judgements.Refused number) said e = absurd cc

pub taken-in-order : (h : Held) → AreSafe h → (t u : AcceptedBytes) (one other : AcceptedOf) → Contains h.judged t → Contains h.judged u → t.name ≡ u.name
    → accepted_of (verdict_on h.directory t) ≡ Some one → accepted_of (verdict_on h.directory u) ≡ Some other → AreInOrder one other
taken-in-order h safe t u one other first second same says tells =
    in-order (records_of h) safe.safe t.name one other (stands-taken h safe t one first says)
    (subst (λ name. Stands (records_of h) name other) (sym same) (stands-taken h safe u other second tells))

-- ---- vouched for

pub accepted-vouched : (r : Records) → Safe r → (j : AcceptedConfirmation) (certificate : Certificate) → Contains r.judged j → j.confirmation.body ≡ present certificate → IsVouchedFor r j.asked.name certificate
accepted-vouched r safe j certificate there is =
    let has = (safe.newest j certificate there is).0 in
    let chain : chain_of has.table j.asked.name ≡ has.chain = ap (λ o. unwrap_or o []) has.there in
    let stands : StandsIn has.table j.asked.name certificate = inl (subst (λ (x : List Change). Contains (certificates_of x) certificate) (sym chain) (newest-in has.chain certificate has.last)) in
    safe.vouched j.confirmation.about.epoch has.table has.agreed j.asked.name certificate stands

-- each change that a table has for a name stands in it
pub has-stands : (table : Table) (name : List ℕ) (change : Change) → HasChange table name change → StandsIn table name change.cert
has-stands table name change (inl in-chain) =
    inl (All-contains (λ (x : Change). Contains (certificates_of (chain_of table name)) x.cert) (chain_of table name) change (map-has (λ (x : Change). x.cert) (chain_of table name)) in-chain)
has-stands table name change (inr waits) = inr (waits.0, ap (option_map pair_of) waits.1)

-- ---- backed

honest-saw : (r : Records) → NoForgery r → (role : Role) (number : ℕ) → IsHonest r (party role number) → AreSigned r (seen_by r (party role number))
honest-saw r forged LogServer number is = forged.logs number is
honest-saw r forged Authority number is = forged.authorities number is
honest-saw r forged Owner number is = absurd (omega (arith, is.known))
honest-saw r forged Client number is = absurd (omega (arith, is.known))

before : (epoch : ℕ) → 1 ≤ epoch → (n : ℕ) × (epoch ≡ n + 1)
before zero least = absurd (omega (arith, least))
before (suc n) least = (n, omega arith)

pub saw-backed : (r : Records) → AreHonest r → NoForgery r → (p : Party) → IsHonest r p → (epoch : ℕ) (to : List ℕ) → 1 ≤ epoch → epoch ≤ 2 ^ 63 → IsDigest to
    → SawQuorum r p epoch to → Backed r epoch to
saw-backed r honest forged p is epoch to least most digest saw =
    let n = before epoch least in
    let value : Value = record { base = saw.base; root = to } in
    let are : IsValue value = record { base = saw.is_digest; root = digest } in
    subst (λ x. Backed r x to) (sym n.1)
    (votes-back r honest (seen_by r p) (honest-saw r forged p.role p.number is) n.0 (omega (arith, n.1, most)) value are (subst (λ x. SawVotes r.council (seen_by r p) x value) n.1 saw.saw))
