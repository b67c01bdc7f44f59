-- What a client accepted is in the table that is agreed.
use Rattle.std.proofs.Common.{◌≡◌, ℕ, zero, suc, ◌<◌, ◌^◌, inl, inr, List, [], ◌∷◌, ◌++◌, length, get_or, drop, refl, sym, ap, ◌∙◌, subst, arith, true, false, Option, Some, None}
use Rattle.std.specs.Prelude.{Contains, IsTrue, unwrap_or}
use Rattle.std.specs.FinMap.{get}
use Rattle.std.specs.Int.{w64, to_be_bytes}
use Rattle.std.specs.List.{list_any, flat_map}
use Rattle.std.specs.Option.{option_map}
use Rattle.std.specs.Cmp.Derive.{both_true}
use Rattle.std.proofs.lemmas.List.Elements.{All-contains}
use Rattle.authority_core.proofs.Growing.{map-has}
use Rattle.authority_core.proofs.Keeping.{epoch-test}
use Rattle.ar_base.specs.Apart.{Apart, IsIn, none_collide}
use Rattle.ar_base.specs.Bytes.{IsDigest}
use Rattle.ar_base.proofs.Apart.{apart, in_both, in_front, in_rest, none_collide-part}
use Rattle.ar_base.proofs.Digests.{sha256-IsDigest}
use Rattle.ar_base.proofs.Shown.{mapped}
use Rattle.ar_names.specs.Names.{name_digest_of, name_string}
use Rattle.ar_cert.specs.Certificate.{Certificate, IsCertificate, certificate_string, certificate_value, digest_of}
use Rattle.ar_cert.specs.Changes.{Change}
use Rattle.ar_cert.specs.Judging.{IsChain}
use Rattle.ar_cert.proofs.ChangeLaws.{only_text}
use Rattle.ar_cert.proofs.Digests.{digest-fits}
use Rattle.ar_message.specs.Confirmation.{Body, Confirmation, IsBody, IsBottom, IsConfirmation, absent, confirmation_at, confirmation_text, digest_in, present}
use Rattle.ar_message.proofs.ConfirmationLaws.{confirmation_again, confirmation_pass}
use Rattle.ar_statement.specs.declared.party.Role.TheVariants.{LogServer, Authority}
use Rattle.ar_statement.specs.declared.party.Party.{Party}
use Rattle.ar_statement.specs.Claims.{authority_party, is_party, log_party, text_of}
use Rattle.ar_statement.specs.Ranges.{IsValid, is_witness}
use Rattle.hash_tree.specs.Strings.{entry_string, value_string}
use Rattle.hash_tree.specs.Root.{root, strings_of}
use Rattle.hash_tree.specs.declared.bottom.Bottom.{Bottom}
use Rattle.hash_tree.specs.declared.bottom.Bottom.TheVariants.{Empty, Other}
use Rattle.tree_proof.specs.Fold.{digests_in}
use Rattle.tree_proof.specs.Membership.{HasDigestKey, Off, On, bottom_string, path_strings}
use Rattle.tree_proof.proofs.Bind.{absence, presence}
use Rattle.tree_proof.proofs.Lands.{same_parts}
use Rattle.domain_table.specs.Tables.{Table, newest}
use Rattle.domain_table.specs.Tree.{newest_strings, table_strings, tree_entries, value_of}
use Rattle.domain_table.proofs.Chains.{Good, one_certificate}
use Rattle.domain_table.proofs.Newest.{newest_has, newest_there}
use Rattle.domain_table.proofs.Trees.{chain_listed, entry_at, good_chain, holds_digests}
use Rattle.client_rule.specs.Meaning.{HasSigners, IsShown, IsTimely}
use Rattle.client_rule.specs.Rule.{claim_on}
use Rattle.ar_council.specs.Council.{Council, IsMember}
use Rattle.ar_safety.specs.Agreed.{Backed, Confirms, HasHonestSigner, HasNewest, HasNone}
use Rattle.ar_safety.specs.Hashed.{body_strings, hashed, judged_strings, listed_tables}
use Rattle.ar_safety.specs.Records.{AreSigned, IsHonest, IsJudged, AcceptedConfirmation, Records, carried, carried_by, signed_by, signers}
use Rattle.ar_safety.specs.Theorem.{AreHonest, Few, NoCollision, NoForgery}
use Rattle.ar_safety.proofs.Agreement.{Fine, agreed-fine}
use Rattle.ar_safety.proofs.Confirming.{IsAgreed, backed-agreed, confirms-backed, confirms-saw, one-of-three}

-- ---- what is accepted is backed

is-read : (council : Council) (j : AcceptedConfirmation) → IsJudged council j → IsConfirmation j.confirmation
is-read council j is = ((only_text confirmation_at confirmation_text IsConfirmation confirmation_again confirmation_pass j.bytes j.confirmation is.bytes).0 is.passes.is_read).0

pub valid-body : (c : Confirmation) (p : Party) → IsConfirmation c → p.number < 2 ^ 16 → is_witness p.role ≡ true → (b : Body) → IsBody b
    → IsValid (claim_on c.about b p)
valid-body c p is small witness (present certificate) fits = record {
  held = record { signer = small; fields = (omega (arith, is.about.epoch.1), (is.about.name, (digest-fits certificate, is.about.root))) };
  ranges = both_true witness (epoch-test c.about.epoch is.about.epoch.0 is.about.epoch.1);
}
valid-body c p is small witness (absent bottom) fits = record {
  held = record { signer = small; fields = (omega (arith, is.about.epoch.1), (is.about.name, is.about.root)) };
  ranges = both_true witness (epoch-test c.about.epoch is.about.epoch.0 is.about.epoch.1);
}

-- an honest party of the three confirmed it
confirmed : (r : Records) (c : Confirmation) (p : Party) → IsConfirmation c → p.number < 2 ^ 16 → is_witness p.role ≡ true → IsHonest r p → AreSigned r (carried c) → Contains (carried c) (carried_by c p)
    → Confirms r p c.about.epoch c.about.root
confirmed r c p is small witness honest signed there =
    record {
      name = c.about.name;
      certificate = digest_in c.body;
      valid = valid-body c p is small witness c.body is.body;
      signed = signed p (text_of (claim_on c.about c.body p)) honest there;
    }

-- an honest one of the three, which confirmed it
record Confirmer (r : Records) (c : Confirmation) : Type 0 where
  party : Party
  one_of : Contains (signers c) party
  honest : IsHonest r party
  confirms : Confirms r party c.about.epoch c.about.root
  signed : Contains (signed_by r party) (text_of (claim_on c.about c.body party))

-- of what a client accepted there is one
confirmer : (r : Records) → AreHonest r → Few r → NoForgery r → (j : AcceptedConfirmation) → Contains r.judged j → Confirmer r j.confirmation
confirmer r honest few forged j there = elim (one-of-three r.dishonest log first second few (λ e. log-not c.first.number e) (λ e. log-not c.second.number e) (λ e. two-not e)) [
  | inl good ↦ back log (omega (arith, log-in, honest.quorums.few)) refl log-in good (0, omega arith, refl)
  | inr rest ↦ elim rest [
    | inl good ↦ back first (omega (arith, first-in, honest.quorums.few_authorities)) refl first-in good (1, omega arith, refl)
    | inr good ↦ back second (omega (arith, second-in, honest.quorums.few_authorities)) refl second-in good (2, omega arith, refl)
  ]
]
  where
    c : Confirmation
    c = j.confirmation

    is : IsJudged r.council j
    is = All-contains (IsJudged r.council) r.judged j honest.judged there

    read : IsConfirmation c
    read = is-read r.council j is

    parties : HasSigners j.asked.keys c
    parties = is.passes.holds.1.0

    log : Party
    log = log_party c.log.number

    first : Party
    first = authority_party c.first.number

    second : Party
    second = authority_party c.second.number

    log-in : c.log.number < r.council.logs
    log-in = subst (λ (k : Council). c.log.number < k.logs) is.same_council parties.log

    first-in : c.first.number < r.council.authorities
    first-in = subst (λ (k : Council). c.first.number < k.authorities) is.same_council parties.first

    second-in : c.second.number < r.council.authorities
    second-in = subst (λ (k : Council). c.second.number < k.authorities) is.same_council parties.second

    log-not : (n : ℕ) → log ≡ authority_party n → ⊥
    log-not n e = let roles : LogServer ≡ Authority = ap (λ (p : Party). p.role) e in absurd cc

    two-not : first ≡ second → ⊥
    two-not e = parties.two (ap (λ (p : Party). p.number) e)

    back : (p : Party) → p.number < 2 ^ 16 → is_witness p.role ≡ true → IsMember r.council p → list_any (is_party p) r.dishonest ≡ false → Contains (signers c) p → Confirmer r c
    back p small witness known good one =
        let honest-p : IsHonest r p = record { known = known; honest = good } in
        let signed : AreSigned r (carried c) = All-contains (λ (x : AcceptedConfirmation). AreSigned r (carried x.confirmation)) r.judged j forged.judged there in
        let carries : Contains (carried c) (carried_by c p) = All-contains (λ q. Contains (carried c) (carried_by c q)) (signers c) p (map-has (carried_by c) (signers c)) one in
        record {
          party = p;
          one_of = one;
          honest = honest-p;
          confirms = confirmed r c p read small witness honest-p signed carries;
          signed = signed p (text_of (claim_on c.about c.body p)) honest-p carries;
        }

-- the root of what a client accepted is backed
pub judged-backed : (r : Records) → AreHonest r → Few r → NoForgery r → (j : AcceptedConfirmation) → Contains r.judged j → Backed r j.confirmation.about.epoch j.confirmation.about.root
judged-backed r honest few forged j there =
    let p = confirmer r honest few forged j there in
    confirms-backed r honest forged p.party p.honest j.confirmation.about.epoch j.confirmation.about.root p.confirms

-- and an honest one of the three saw votes for it
pub judged-voted : (r : Records) → AreHonest r → Few r → NoForgery r → (j : AcceptedConfirmation) → Contains r.judged j → HasHonestSigner r j.confirmation
judged-voted r honest few forged j there =
    let p = confirmer r honest few forged j there in
    record {
      party = p.party;
      one_of = p.one_of;
      honest = p.honest;
      signed = p.signed;
      saw = confirms-saw r honest p.party p.honest j.confirmation.about.epoch j.confirmation.about.root p.confirms;
    }

-- ---- strings

in-list : {X : Type 0} (f : X → List (List ℕ)) (xs : List X) (x : X) (s : List ℕ) → Contains xs x → IsIn (f x) s → IsIn (flat_map f xs) s
in-list f [] x s there is = absurd (omega (arith, there.1))
in-list {X} f (z ∷ xs) x s there is = by there.0 there.1 there.2 (in-list f xs x s)
  where
    by : (k : ℕ) → k < length (z ∷ xs) → get_or (z ∷ xs) k x ≡ x → (Contains xs x → IsIn (f x) s → IsIn (flat_map f xs) s) → IsIn (flat_map f (z ∷ xs)) s
    by zero within same rest = in_front (f z) (flat_map f xs) s (subst (λ w. IsIn (f w) s) (sym same) is)
    by (suc k) within same rest = in_rest (f z) (flat_map f xs) s (rest (k, omega (arith, within), same) is)

judged-hashed : (r : Records) (j : AcceptedConfirmation) (s : List ℕ) → Contains r.judged j → IsIn (judged_strings j) s → IsIn (hashed r) s
judged-hashed r j s there is = in_rest (flat_map table_strings (listed_tables r)) (flat_map judged_strings r.judged) s (in-list judged_strings r.judged j s there is)

name-hashed : (r : Records) (j : AcceptedConfirmation) → Contains r.judged j → IsIn (hashed r) (name_string j.confirmation.about.name)
name-hashed r j there = judged-hashed r j (name_string j.confirmation.about.name) there (inl refl)

body-hashed : (r : Records) (j : AcceptedConfirmation) (b : Body) → Contains r.judged j → j.confirmation.body ≡ b → (s : List ℕ) → IsIn (body_strings (name_digest_of j.confirmation.about.name) j.confirmation.steps b) s → IsIn (hashed r) s
body-hashed r j b there is s within =
    judged-hashed r j s there (inr (subst (λ x. IsIn (body_strings (name_digest_of j.confirmation.about.name) j.confirmation.steps x) s) (sym is) within))

clean-path : (r : Records) → NoCollision r → (t : Table) → Fine r t → (path : List (List ℕ)) → ((s : List ℕ) → IsIn path s → IsIn (hashed r) s) → IsTrue (none_collide (strings_of (tree_entries t) ++ path))
clean-path r clean t fine path within =
    none_collide-part (strings_of (tree_entries t) ++ path) (hashed r)
    (λ s is. elim (in_both (strings_of (tree_entries t)) path s is) [ inl tree ↦ fine.listed.tree s tree | inr step ↦ within s step ]) clean.strings

name-fits : (name : List ℕ) → IsDigest (name_digest_of name)
name-fits name = sha256-IsDigest _

mapped-none : {A B : Type 0} (f : A → B) (o : Option A) → option_map f o ≡ None → o ≡ None
mapped-none f None e = refl
mapped-none f (Some x) e = absurd cc

-- ---- the newest certificate

-- a chain with the value of a certificate has the certificate as its newest
newest-by-value : (r : Records) → NoCollision r → (t : Table) → Fine r t → (name : List ℕ) (chain : List Change) → get t.chains name ≡ Some chain → (certificate : Certificate) → IsCertificate certificate
    → IsIn (hashed r) (certificate_string certificate) → IsIn (hashed r) (value_string certificate.serial (digest_of certificate))
    → value_of chain ≡ certificate_value certificate → IsChain chain × (newest chain ≡ Some certificate)
newest-by-value r clean t fine name chain there certificate fits hashed-text hashed-value value =
    let strings : List (List ℕ) = hashed r in
    let none : Apart strings = apart strings clean.strings in
    let good : Good strings chain = good_chain strings t fine.sound fine.listed name chain there in
    let top = newest_there chain good.is_chain.some in
    let top-fits : IsCertificate top.0 = newest_has IsCertificate chain top.0 (λ k d l. (good.each k d l).cert) top.1 in
    let top-text : IsIn strings (certificate_string top.0) = newest_has (λ x. IsIn strings (certificate_string x)) chain top.0 good.hashed top.1 in
    let top-value : IsIn strings (value_string top.0.serial (digest_of top.0)) =
    chain_listed strings t fine.listed name chain there (value_string top.0.serial (digest_of top.0))
    (inr (in_front (newest_strings (newest chain)) _ (value_string top.0.serial (digest_of top.0)) (subst (λ o. IsIn (newest_strings o) (value_string top.0.serial (digest_of top.0))) (sym top.1) (inl refl)))) in
    let own : value_of chain ≡ certificate_value top.0 = ap (λ o. unwrap_or (option_map certificate_value o) []) top.1 in
    let same = none (value_string top.0.serial (digest_of top.0)) (value_string certificate.serial (digest_of certificate)) top-value hashed-value (sym own ∙ value) in
    let digests : digest_of top.0 ≡ digest_of certificate =
    (same_parts (to_be_bytes w64 top.0.serial) (digest_of top.0) (to_be_bytes w64 certificate.serial) (digest_of certificate) (ap (drop 1) same) refl).1 in
    let is : top.0 ≡ certificate = one_certificate strings none top.0 certificate top-fits fits top-text hashed-text digests in
    (good.is_chain, top.1 ∙ ap (λ c. Some c) is)

pub accepted-newest : (r : Records) → AreHonest r → Few r → NoForgery r → NoCollision r → (j : AcceptedConfirmation) (certificate : Certificate) → Contains r.judged j → j.confirmation.body ≡ present certificate
    → HasNewest r j.asked.name j.confirmation.about.epoch j.confirmation.about.root certificate
accepted-newest r honest few forged clean j certificate there is-present =
    let c : Confirmation = j.confirmation in
    let is : IsJudged r.council j = All-contains (IsJudged r.council) r.judged j honest.judged there in
    let read : IsConfirmation c = is-read r.council j is in
    let fits : IsCertificate certificate = subst IsBody is-present read.body in
    let a : IsAgreed r c.about.epoch c.about.root = backed-agreed r honest few c.about.epoch c.about.root (judged-backed r honest few forged j there) in
    let t : Table = a.table in
    let fine : Fine r t = agreed-fine r honest c.about.epoch t a.agreed in
    let key : List ℕ = name_digest_of c.about.name in
    let value : List ℕ = certificate_value certificate in
    let steps : List (List ℕ) = digests_in c.steps in
    let shown = subst (λ b. IsShown c.about b c.steps) is-present is.passes.holds.1.1.1.1.1.0 in
    let on : On key value steps (root (tree_entries t)) = subst (On key value steps) (sym a.is_root) shown.1.1 in
    let in-body = body-hashed r j (present certificate) there is-present in
    let path : List (List ℕ) = path_strings key (entry_string key value) steps in
    let found : get (tree_entries t) key ≡ Some value =
    presence (tree_entries t) key value steps (holds_digests t fine.sound) (name-fits c.about.name) (clean-path r clean t fine path (λ s within. in-body s (inr (inr within)))) on in
    let entry = entry_at (hashed r) (apart (hashed r) clean.strings) t fine.listed c.about.name (name-hashed r j there) in
    let chain = mapped value_of (get t.chains c.about.name) value (sym entry ∙ found) in
    let last = newest-by-value r clean t fine c.about.name chain.0 chain.1 certificate fits (in-body (certificate_string certificate) (inr (inl refl))) (in-body (value_string certificate.serial (digest_of certificate)) (inl refl)) chain.2 in
    record {
      table = t;
      agreed = a.agreed;
      is_root = a.is_root;
      chain = chain.0;
      there = subst (λ n. get t.chains n ≡ Some chain.0) is.passes.holds.0 chain.1;
      is_chain = last.0;
      last = last.1;
    }

-- ---- absence

digest-key : (bottom : Bottom) → IsBottom bottom → HasDigestKey bottom
digest-key Empty is = tt
digest-key (Other key value) is = is.0

pub accepted-absence : (r : Records) → AreHonest r → Few r → NoForgery r → NoCollision r → (j : AcceptedConfirmation) (bottom : Bottom) → Contains r.judged j → j.confirmation.body ≡ absent bottom
    → HasNone r j.asked.name j.confirmation.about.epoch j.confirmation.about.root
accepted-absence r honest few forged clean j bottom there is-absent =
    let c : Confirmation = j.confirmation in
    let is : IsJudged r.council j = All-contains (IsJudged r.council) r.judged j honest.judged there in
    let read : IsConfirmation c = is-read r.council j is in
    let fits : IsBottom bottom = subst IsBody is-absent read.body in
    let a : IsAgreed r c.about.epoch c.about.root = backed-agreed r honest few c.about.epoch c.about.root (judged-backed r honest few forged j there) in
    let t : Table = a.table in
    let fine : Fine r t = agreed-fine r honest c.about.epoch t a.agreed in
    let key : List ℕ = name_digest_of c.about.name in
    let steps : List (List ℕ) = digests_in c.steps in
    let shown = subst (λ b. IsShown c.about b c.steps) is-absent is.passes.holds.1.1.1.1.1.0 in
    let off : Off key bottom steps (root (tree_entries t)) = subst (Off key bottom steps) (sym a.is_root) shown.1 in
    let in-body = body-hashed r j (absent bottom) there is-absent in
    let none : get (tree_entries t) key ≡ None =
    absence (tree_entries t) key bottom steps (holds_digests t fine.sound) (name-fits c.about.name) (digest-key bottom fits)
    (clean-path r clean t fine (path_strings key (bottom_string bottom) steps) in-body) off in
    let entry = entry_at (hashed r) (apart (hashed r) clean.strings) t fine.listed c.about.name (name-hashed r j there) in
    record {
      table = t;
      agreed = a.agreed;
      is_root = a.is_root;
      none = subst (λ n. get t.chains n ≡ None) is.passes.holds.0 (mapped-none value_of (get t.chains c.about.name) (sym entry ∙ none));
    }

-- ---- ages

pub judged-timely : (r : Records) → AreHonest r → (j : AcceptedConfirmation) → Contains r.judged j → IsTimely j.asked j.confirmation.about.epoch j.confirmation.body
judged-timely r honest j there =
    let holds = (All-contains (IsJudged r.council) r.judged j honest.judged there).passes.holds in
    let ages = holds.1.1.1.1.1.1 in
    record { not_later = ages.0; young = ages.1.0; live = ages.1.1.0; current = ages.1.1.1.0 }
