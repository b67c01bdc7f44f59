-- Each honest endorser of a change of an agreed table vouches for it: its endorsement was seen. And of at least three endorsers
-- one is honest.
use Rattle.std.proofs.Common.{◌≡◌, ℕ, zero, suc, ◌+◌, ◌<◌, ◌≤◌, inl, inr, List, [], ◌∷◌, length, get_or, refl, sym, ap, ◌∙◌, subst, arith, Bool, not, ◌&&◌, ◌||◌, Option, Some, None}
use Rattle.std.specs.Prelude.{All, Contains, unwrap_or}
use Rattle.std.specs.FinMap.{get}
use Rattle.std.specs.Option.{option_map}
use Rattle.std.proofs.lemmas.List.Elements.{All-contains, recursion_from_All}
use Rattle.std.proofs.lemmas.Bool.{and_parts, not-true}
use Rattle.std.proofs.lemmas.List.{get_or-map, length-map}
use Rattle.ar_cert.specs.Certificate.{Certificate, digest_of}
use Rattle.ar_cert.specs.Changes.{Change}
use Rattle.ar_cert.specs.Judging.{IsAccepted, endorsers_of}
use Rattle.ar_cert.proofs.Digests.{digest-fits}
use Rattle.ar_statement.specs.Claims.{authority_party, endorse, text_of}
use Rattle.ar_statement.specs.Ranges.{IsValid}
use Rattle.ar_statement.specs.declared.party.Role.TheVariants.{Authority}
use Rattle.ar_statement.specs.declared.text.SeenText.{SeenText}
use Rattle.key_roll.specs.Book.{texts_of}
use Rattle.party_keys.specs.Seen.{Saw}
use Rattle.vote_quorum.specs.Numbers.{distinct_count}
use Rattle.vote_quorum.proofs.Below.{distinct_count-below}
use Rattle.vote_quorum.proofs.Counting.{among, Contains-from_among}
use Rattle.vote_quorum.proofs.Counts.{count_below-either, count_below-wider}
use Rattle.domain_table.specs.Sound.{IsChainOf, Waits}
use Rattle.domain_table.specs.Tables.{Pending, Table, certificates_of, chain_of, pair_of}
use Rattle.ar_council.specs.Council.{IsMember}
use Rattle.epoch_log.specs.Honest.{IsOfHonestLog}
use Rattle.epoch_log.specs.Right.{SawEndorsements}
use Rattle.authority_core.specs.Honest.{HasAsked}
use Rattle.authority_core.proofs.Read.{endorsed-asked}
use Rattle.ar_safety.specs.Agreed.{Agreed, HasChange, IsVouchedBy, IsVouchedFor}
use Rattle.ar_safety.specs.Hashed.{StandsIn}
use Rattle.ar_safety.specs.Records.{IsHonest, Records, is_dishonest}
use Rattle.ar_safety.specs.Theorem.{AreHonest, Few, NoCollision, NoForgery}
use Rattle.ar_safety.proofs.Agreement.{Endorsed, agreed-follows, agreed-listed}
use Rattle.ar_safety.proofs.Votes.{few-dishonest, some_below, split}

-- ---- at least three endorsers

three-of : (old : Option Certificate) (change : Change) → IsAccepted old change → 3 ≤ distinct_count (endorsers_of change)
unfolding IsAccepted
three-of None change is = is.registers.endorsed
three-of (Some old) change (inl full) = full.updates.succeeds.endorsed
three-of (Some old) change (inr recovery) = recovery.updates.succeeds.endorsed

in-chain : (name : List ℕ) (chain : List Change) (change : Change) → IsChainOf name chain → Contains chain change → 3 ≤ distinct_count (endorsers_of change)
in-chain name chain change is there = by there.0 there.1 there.2
  where
    by : (k : ℕ) → k < length chain → get_or chain k change ≡ change → 3 ≤ distinct_count (endorsers_of change)
    by zero within at = three-of None change (subst (IsAccepted None) at (is.chain.first change))
    by (suc k) within at =
        let next : k + 1 ≡ suc k = omega arith in
        let old : Option Certificate = Some (get_or chain k change).cert in
        three-of old change (subst (IsAccepted old) (ap (λ n. get_or chain n change) next ∙ at) (is.chain.next k change (omega (arith, within))))

-- a certificate of a chain is that of one of its changes
change-of : (chain : List Change) (certificate : Certificate) → Contains (certificates_of chain) certificate → (change : Change) × (Contains chain change × (change.cert ≡ certificate))
change-of [] certificate there = absurd (omega (arith, there.1))
change-of (c ∷ chain) certificate there = by there.0 there.1 there.2 (change-of chain certificate)
  where
    by : (k : ℕ) → k < length (c.cert ∷ certificates_of chain) → get_or (c.cert ∷ certificates_of chain) k certificate ≡ certificate
        → (Contains (certificates_of chain) certificate → (change : Change) × (Contains chain change × (change.cert ≡ certificate)))
        → (change : Change) × (Contains (c ∷ chain) change × (change.cert ≡ certificate))
    by zero within at rest = (c, ((0, omega arith, refl), at))
    by (suc k) within at rest =
        let later = rest (k, omega (arith, within), at) in
        (later.0, ((suc later.1.0.0, omega (arith, later.1.0.1), later.1.0.2), later.1.1))

-- ---- one of them is honest

record HonestEndorser (r : Records) (seen : List SeenText) (change : Change) : Type 0 where
  number : ℕ
  honest : IsHonest r (authority_party number)
  saw : Saw seen (authority_party number) (endorse number (digest_of change.cert))

honest-endorser : (r : Records) → Few r → (seen : List SeenText) → All (λ s. IsMember r.council s.party) seen → (change : Change) → SawEndorsements seen change → 3 ≤ distinct_count (endorsers_of change)
    → HonestEndorser r seen change
honest-endorser r few seen members change saw three =
    let n : ℕ = r.council.authorities in
    let xs : List ℕ = endorsers_of change in
    let p : ℕ → Bool = λ k. among k xs in
    let d : ℕ → Bool = λ k. is_dishonest r (authority_party k) in
    let good : ℕ → Bool = λ k. p k && not (d k) in
    let below : All (λ k. k < n) xs = λ k e within. member (get_or xs k e) (saw k e within) in
    let many = distinct_count-below n xs (recursion_from_All (λ k. k < n) xs below) in
    let wider = count_below-wider n p (λ k. d k || good k) (λ k less is. split (d k) (p k) is) in
    let either = count_below-either n d good in
    let some = some_below n good (omega (arith, many, wider, either, few-dishonest r few Authority n, three)) in
    let parts = and_parts (p some.0) (not (d some.0)) some.1.1 in
    record {
      number = some.0;
      honest = record { known = some.1.0; honest = not-true (d some.0) parts.1 };
      saw = All-contains (λ a. Saw seen (authority_party a) (endorse a (digest_of change.cert))) xs some.0 saw (Contains-from_among xs some.0 parts.0);
    }
  where
    member : (a : ℕ) → Saw seen (authority_party a) (endorse a (digest_of change.cert)) → a < r.council.authorities
    member a there = All-contains (λ (s : SeenText). IsMember r.council s.party) seen (record { party = authority_party a; text = text_of (endorse a (digest_of change.cert)) }) members there

-- ---- and vouches

was-asked : (r : Records) → AreHonest r → (a : ℕ) → IsHonest r (authority_party a) → (certificate : Certificate) → Contains (texts_of (r.authorities a).signed) (text_of (endorse a (digest_of certificate)))
    → HasAsked (r.authorities a).asked (digest_of certificate)
was-asked r honest a is certificate there =
    let valid : IsValid (endorse a (digest_of certificate)) = record { held = record { signer = omega (arith, is.known, honest.quorums.few_authorities); fields = digest-fits certificate }; ranges = refl } in
    endorsed-asked r.council a (r.authorities a) (digest_of certificate) (honest.authorities a is) valid there

-- an honest authority whose endorsement of a certificate of an agreed table was seen vouches for it
endorser-vouches : (r : Records) → AreHonest r → NoForgery r → NoCollision r → (e : ℕ) (t : Table) (a : Agreed r e t) (name : List ℕ) (certificate : Certificate)
    → StandsIn t name certificate → certificate.name ≡ name → (v : ℕ) → IsHonest r (authority_party v)
    → Saw (r.logs a.log).seen (authority_party v) (endorse v (digest_of certificate)) → IsVouchedBy r name certificate v
endorser-vouches r honest forged clean e t a name certificate stands named v good saw =
    let signed = forged.logs a.log a.honest (authority_party v) (text_of (endorse v (digest_of certificate))) good saw in
    let asked = was-asked r honest v good certificate signed in
    let same = clean.asked v good asked.0 asked.1.0 t (agreed-listed r e t a) name certificate stands (sym asked.1.1) in
    record {
      signed = signed;
      asked = asked.0;
      was_asked = asked.1.0;
      is_digest = asked.1.1;
      is_name = (named, sym same.0 ∙ named);
      is_key = sym same.1;
    }

-- ---- a change of an agreed table

chain-there : (o : Option (List Change)) (change : Change) → Contains (unwrap_or o []) change → o ≡ Some (unwrap_or o [])
chain-there None change there = absurd (omega (arith, there.1))
chain-there (Some chain) change there = refl

-- what is known of a change of an agreed table: it stands there, under its name, with at least three endorsers, and the log
-- that voted for the table saw their endorsements
record IsKnown (seen : List SeenText) (t : Table) (name : List ℕ) (change : Change) : Type 0 where
  stands : StandsIn t name change.cert
  named : change.cert.name ≡ name
  saw : SawEndorsements seen change
  many : 3 ≤ distinct_count (endorsers_of change)

-- a certificate of a chain is that of one of its changes
cert-of : (chain : List Change) (change : Change) → Contains chain change → Contains (certificates_of chain) change.cert
cert-of chain change there =
    let f : Change → Certificate = λ c. c.cert in
    (there.0, omega (arith, there.1, length-map chain f), get_or-map f chain there.0 change change.cert there.1 ∙ ap f there.2)

known : (r : Records) → AreHonest r → (e : ℕ) (t : Table) (a : Agreed r e t) (name : List ℕ) (change : Change) → HasChange t name change → IsKnown (r.logs a.log).seen t name change
known r honest e t a name change (inl there) =
    let f = agreed-follows r honest e t a in
    let chain : List Change = chain_of t name in
    let has = chain-there (get t.chains name) change there in
    let is : IsChainOf name chain = f.sound.chains name chain has in
    record {
      stands = inl (cert-of chain change there);
      named = All-contains (λ (x : Change). x.cert.name ≡ name) chain change is.named there;
      saw = All-contains (Endorsed (r.logs a.log).seen name) chain change (f.holds.chains name chain has) there;
      many = in-chain name chain change is there;
    }
known r honest e t a name change (inr there) =
    let f = agreed-follows r honest e t a in
    let p : Pending = record { change = change; since = there.0 } in
    let waits : Waits name (chain_of t name) p = f.sound.waits name p there.1 in
    record {
      stands = inr (there.0, ap (option_map pair_of) there.1);
      named = waits.named;
      saw = f.holds.waiting name p there.1;
      many = waits.recovers.updates.succeeds.endorsed;
    }

-- each honest endorser vouches
pub each-vouches : (r : Records) → AreHonest r → NoForgery r → NoCollision r → (e : ℕ) (t : Table) → Agreed r e t → (name : List ℕ) (change : Change) → HasChange t name change
    → (v : ℕ) → Contains (endorsers_of change) v → IsHonest r (authority_party v) → IsVouchedBy r name change.cert v
each-vouches r honest forged clean e t a name change has v among good =
    let k = known r honest e t a name change has in
    endorser-vouches r honest forged clean e t a name change.cert k.stands k.named v good
    (All-contains (λ x. Saw (r.logs a.log).seen (authority_party x) (endorse x (digest_of change.cert))) (endorsers_of change) v k.saw among)

-- and of each change there is one
change-vouched : (r : Records) → AreHonest r → Few r → NoForgery r → NoCollision r → (e : ℕ) (t : Table) → Agreed r e t → (name : List ℕ) (change : Change) → HasChange t name change → IsVouchedFor r name change.cert
change-vouched r honest few forged clean e t a name change has =
    let k = known r honest e t a name change has in
    let h : IsOfHonestLog r.council a.log (r.logs a.log) = honest.logs a.log a.honest in
    let v = honest-endorser r few (r.logs a.log).seen h.sees_members change k.saw k.many in
    record { authority = v.number; honest = v.honest; vouches = endorser-vouches r honest forged clean e t a name change.cert k.stands k.named v.number v.honest v.saw }

-- what waits, with its certificate
waiting-of : (o : Option Pending) (certificate : Certificate) (since : ℕ) → option_map pair_of o ≡ Some (certificate, since)
    → (change : Change) × ((o ≡ Some (record { change = change; since = since })) × (change.cert ≡ certificate))
waiting-of None certificate since e = absurd cc
waiting-of (Some p) certificate since e =
    let same : ◌≡◌ {A = Certificate × ℕ} (pair_of p) (certificate, since) = cc in
    (p.change, (ap (λ n. Some (record { change = p.change; since = n })) (ap (λ (x : Certificate × ℕ). x.1) same), ap (λ (x : Certificate × ℕ). x.0) same))

-- each certificate of an agreed table is that of one of its changes
pub vouched-for : (r : Records) → AreHonest r → Few r → NoForgery r → NoCollision r → (e : ℕ) (t : Table) → Agreed r e t → (name : List ℕ) (certificate : Certificate) → StandsIn t name certificate
    → IsVouchedFor r name certificate
vouched-for r honest few forged clean e t a name certificate (inl stands) =
    let c = change-of (chain_of t name) certificate stands in
    subst (IsVouchedFor r name) c.1.1 (change-vouched r honest few forged clean e t a name c.0 (inl c.1.0))
vouched-for r honest few forged clean e t a name certificate (inr stands) =
    let c = waiting-of (get t.waiting name) certificate stands.0 stands.1 in
    subst (IsVouchedFor r name) c.1.1 (change-vouched r honest few forged clean e t a name c.0 (inr (stands.0, c.1.0)))
