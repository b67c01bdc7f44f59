-- The tests of the rule are the facts of the checks, and a judgement means what the first of them that fails says.
use Rattle.std.proofs.Common.{◌≡◌, ℕ, ◌-◌, ◌↔◌, Bool, true, false, List, length, Result, Ok, Err, IsErr, refl, sym, ap, inl, inr, subst}
use Rattle.std.specs.Prelude.{nat_le, not}
use Rattle.std.specs.Bool.{Decides}
use Rattle.std.specs.Result.{is_ok, result_ok}
use Rattle.std.specs.Str.{bytes_eq}
use Rattle.std.proofs.lemmas.Bool.Decides.{Decides-and, Decides-not, Decides-eqb, Decides-ltb}
use Rattle.std.proofs.lemmas.Slice.Eq.{bytes_eq-Decides}
use Rattle.tree_proof.proofs.Tested.{is_on-Decides, is_off-Decides, le_decides}
use Rattle.ar_base.specs.FirstFailing.{DecidesEach}
use Rattle.ar_base.proofs.Failing.{conditions_hold, condition_fails}
use Rattle.ar_bytes.specs.Reading.{whole}
use Rattle.ar_cert.specs.Certificate.{Certificate}
use Rattle.ar_statement.specs.Claims.{authority_party, log_party, text_of}
use Rattle.ar_statement.specs.declared.party.Party.{Party}
use Rattle.ar_message.specs.Confirmation.{Subject, Body, present, absent, Confirmation, confirmation_at}
use Rattle.party_keys.specs.Directory.{Directory}
use Rattle.party_keys.specs.Signatures.{verified}
use Rattle.party_keys.specs.declared.fault.VerifyFault.{VerifyFault}
use Rattle.ar_message.specs.Shown.{is_shown}
use Rattle.client_rule.specs.Rule.{has_parties, confirms, is_young, is_live, is_current, refusal_of, claim_on, accepted_body, unless_refused, judgement_on, judgement, Asked}
use Rattle.client_rule.specs.Meaning.{Check, same_name, parties, log_signature, first_signature, second_signature, path, not_later, young, live, current, number_of, all_checks, HasSigners, SignsConfirmation, IsShown, IsYoung, IsLive, IsCurrent, Holds, HoldsAll, HoldsUpTo, Accepts, AcceptsNone, Refuses}
use Rattle.client_rule.specs.declared.judgement.Judgement.{Judgement}
use Rattle.client_rule.specs.declared.judgement.Judgement.TheVariants.{Accepted, Absent, Refused}

-- ---- each test decides its fact

parties_decides : (keys : Directory) (c : Confirmation) → Decides (has_parties keys c) (HasSigners keys c)
parties_decides keys c =
    let d = Decides-and _ _ (Decides-ltb c.log.number (length keys.logs))
    (Decides-and _ _ (Decides-ltb c.first.number (length keys.authorities))
    (Decides-and _ _ (Decides-ltb c.second.number (length keys.authorities))
    (Decides-not _ (Decides-eqb c.first.number c.second.number)))) in (
      (λ h. let b = d.0 h in record { log = b.0; first = b.1.0; second = b.1.1.0; two = b.1.1.1 }),
      (λ h. d.1 (h.log, (h.first, (h.second, h.two)))),
    )

ok_decides : (r : Result (Unit {0}) VerifyFault) → Decides (is_ok r) (r ≡ Ok tt)
ok_decides (Ok u) = ((λ h. refl), (λ h. refl))
ok_decides (Err fault) = ((λ h. absurd cc), (λ h. absurd cc))

confirms_decides : (keys : Directory) (about : Subject) (body : Body) (signer : Party) (signature : List ℕ) → Decides (confirms keys about body signer signature) (SignsConfirmation keys about body signer signature)
unfolding confirms
confirms_decides keys about body signer signature = ok_decides (verified keys signer (text_of (claim_on about body signer)) signature)

pub shown_decides : (about : Subject) (body : Body) (steps : List ℕ) → Decides (is_shown about body steps) (IsShown about body steps)
unfolding is_shown
shown_decides about (present certificate) steps = Decides-and _ _ (bytes_eq-Decides _ _) (is_on-Decides _ _ _ _)
shown_decides about (absent bottom) steps = is_off-Decides _ bottom _ _

young_decides : (after age : ℕ) (body : Body) → Decides (is_young after age body) (IsYoung after age body)
young_decides after age (present certificate) = Decides-and _ _ (le_decides after age) (le_decides after certificate.policy.max_age)
young_decides after age (absent bottom) = le_decides after age

not_decides : (b : Bool) → Decides (not b) (b ≡ false)
not_decides true = ((λ h. absurd cc), (λ h. absurd cc))
not_decides false = ((λ h. refl), (λ h. refl))

live_decides : (body : Body) → Decides (is_live body) (IsLive body)
live_decides (present certificate) = not_decides certificate.revoked
live_decides (absent bottom) = ((λ h. tt), (λ h. refl))

current_decides : (now : ℕ) (body : Body) → Decides (is_current now body) (IsCurrent now body)
current_decides now (present certificate) = le_decides now certificate.policy.until
current_decides now (absent bottom) = ((λ h. tt), (λ h. refl))

-- ---- the tests of the rule

abbrev test_of : Asked → Confirmation → Check → Bool
test_of asked c same_name = bytes_eq c.about.name asked.name
test_of asked c parties = has_parties asked.keys c
test_of asked c log_signature = confirms asked.keys c.about c.body (log_party c.log.number) c.log.signature
test_of asked c first_signature = confirms asked.keys c.about c.body (authority_party c.first.number) c.first.signature
test_of asked c second_signature = confirms asked.keys c.about c.body (authority_party c.second.number) c.second.signature
test_of asked c path = is_shown c.about c.body c.steps
test_of asked c not_later = nat_le c.about.epoch asked.epoch
test_of asked c young = is_young (asked.epoch - c.about.epoch) asked.age c.body
test_of asked c live = is_live c.body
test_of asked c current = is_current asked.epoch c.body

decided : (asked : Asked) (c : Confirmation) → DecidesEach (test_of asked c) (Holds asked c)
decided asked c same_name = bytes_eq-Decides _ _
decided asked c parties = parties_decides asked.keys c
decided asked c log_signature = confirms_decides asked.keys c.about c.body _ _
decided asked c first_signature = confirms_decides asked.keys c.about c.body _ _
decided asked c second_signature = confirms_decides asked.keys c.about c.body _ _
decided asked c path = shown_decides c.about c.body c.steps
decided asked c not_later = le_decides c.about.epoch asked.epoch
decided asked c young = young_decides (asked.epoch - c.about.epoch) asked.age c.body
decided asked c live = live_decides c.body
decided asked c current = current_decides asked.epoch c.body

none : (asked : Asked) (c : Confirmation) → (refusal_of asked c ≡ Ok tt) ↔ HoldsAll asked c
unfolding refusal_of
none asked c = conditions_hold number_of (Holds asked c) (test_of asked c) (decided asked c) all_checks

some : (asked : Asked) (c : Confirmation) (k : ℕ) → (refusal_of asked c ≡ Err k) ↔ HoldsUpTo asked c k
unfolding refusal_of
some asked c k = condition_fails number_of (Holds asked c) (test_of asked c) (decided asked c) all_checks k

-- ---- the judgement

-- what is judged of what was read
abbrev Judged : Asked → Result Confirmation ℕ → Judgement
Judged asked read = judgement_on asked (result_ok read)

abbrev Whole : List ℕ → Result Confirmation ℕ
Whole bytes = whole confirmation_at bytes

pub accepted : (asked : Asked) (bytes : List ℕ) (certificate : Certificate) (digest : List ℕ) (epoch : ℕ) (root : List ℕ)
    → (judgement asked bytes ≡ Accepted certificate digest epoch root) ↔ Accepts asked bytes certificate digest epoch root
unfolding judgement
accepted asked bytes certificate digest epoch root = by_reading (Whole bytes) refl where
  by_body : (c : Confirmation) (body : Body) → c.body ≡ body → Whole bytes ≡ Ok c → refusal_of asked c ≡ Ok tt → accepted_body c.about body ≡ Accepted certificate digest epoch root → Accepts asked bytes certificate digest epoch root
  by_body c (present found) b read holds h = record {
    confirmation = c;
    passes = record { is_read = read; holds = (none asked c).0 holds };
    body = cc;
    digest_is = cc;
    epoch_is = cc;
    root_is = cc;
  }
  by_body c (absent bottom) b read holds h = absurd cc

  by_refusal : (c : Confirmation) (refusal : Result (Unit {0}) ℕ) → refusal_of asked c ≡ refusal → Whole bytes ≡ Ok c → unless_refused refusal c ≡ Accepted certificate digest epoch root → Accepts asked bytes certificate digest epoch root
  by_refusal c (Ok u) r read h = by_body c c.body refl read r h
  by_refusal c (Err k) r read h = absurd cc

  backwards : (c : Confirmation) → Whole bytes ≡ Ok c → Accepts asked bytes certificate digest epoch root → unless_refused (refusal_of asked c) c ≡ Accepted certificate digest epoch root
  backwards c read a =
      let same : c ≡ a.confirmation = cc in
      let holds : refusal_of asked a.confirmation ≡ Ok tt = (none asked a.confirmation).1 a.passes.holds in
      rw (same, holds, a.body, a.digest_is, a.epoch_is, a.root_is) refl

  by_reading : (read : Result Confirmation ℕ) → Whole bytes ≡ read → (Judged asked read ≡ Accepted certificate digest epoch root) ↔ Accepts asked bytes certificate digest epoch root
  by_reading (Err place) e = ((λ h. absurd cc), (λ a. let i = a.passes.is_read in absurd cc))
  by_reading (Ok c) e = ((λ h. by_refusal c (refusal_of asked c) refl e h), (λ a. backwards c e a))

pub absence : (asked : Asked) (bytes : List ℕ) (epoch : ℕ) (root : List ℕ)
    → (judgement asked bytes ≡ Absent epoch root) ↔ AcceptsNone asked bytes epoch root
unfolding judgement
absence asked bytes epoch root = by_reading (Whole bytes) refl where
  by_body : (c : Confirmation) (body : Body) → c.body ≡ body → Whole bytes ≡ Ok c → refusal_of asked c ≡ Ok tt → accepted_body c.about body ≡ Absent epoch root → AcceptsNone asked bytes epoch root
  by_body c (present found) b read holds h = absurd cc
  by_body c (absent foot) b read holds h = record {
    confirmation = c;
    passes = record { is_read = read; holds = (none asked c).0 holds };
    bottom = (foot, b);
    epoch_is = cc;
    root_is = cc;
  }

  by_refusal : (c : Confirmation) (refusal : Result (Unit {0}) ℕ) → refusal_of asked c ≡ refusal → Whole bytes ≡ Ok c → unless_refused refusal c ≡ Absent epoch root → AcceptsNone asked bytes epoch root
  by_refusal c (Ok u) r read h = by_body c c.body refl read r h
  by_refusal c (Err k) r read h = absurd cc

  backwards : (c : Confirmation) → Whole bytes ≡ Ok c → AcceptsNone asked bytes epoch root → unless_refused (refusal_of asked c) c ≡ Absent epoch root
  backwards c read a =
      let same : c ≡ a.confirmation = cc in
      let holds : refusal_of asked a.confirmation ≡ Ok tt = (none asked a.confirmation).1 a.passes.holds in
      rw (same, holds, a.bottom.1, a.epoch_is, a.root_is) refl

  by_reading : (read : Result Confirmation ℕ) → Whole bytes ≡ read → (Judged asked read ≡ Absent epoch root) ↔ AcceptsNone asked bytes epoch root
  by_reading (Err place) e = ((λ h. absurd cc), (λ a. let i = a.passes.is_read in absurd cc))
  by_reading (Ok c) e = ((λ h. by_refusal c (refusal_of asked c) refl e h), (λ a. backwards c e a))

pub refused : (asked : Asked) (bytes : List ℕ) (k : ℕ)
    → (judgement asked bytes ≡ Refused k) ↔ Refuses asked bytes k
unfolding judgement
refused asked bytes k = by_reading (Whole bytes) refl where
  not_taken : (about : Subject) (body : Body) → accepted_body about body ≡ Refused k → ⊥
  not_taken about (present certificate) h = cc
  not_taken about (absent bottom) h = cc

  by_refusal : (c : Confirmation) (refusal : Result (Unit {0}) ℕ) → refusal_of asked c ≡ refusal → Whole bytes ≡ Ok c → unless_refused refusal c ≡ Refused k → Refuses asked bytes k
  by_refusal c (Ok u) r read h = absurd (not_taken c.about c.body h)
  by_refusal c (Err n) r read h = let e : refusal_of asked c ≡ Err k = cc in inr (c, read, (some asked c k).0 e)

  backwards : (c : Confirmation) → Whole bytes ≡ Ok c → Refuses asked bytes k → unless_refused (refusal_of asked c) c ≡ Refused k
  backwards c read (inl unread) = let none_read : IsErr {T = Confirmation} {E = ℕ} (Ok c) = subst (λ (r : Result Confirmation ℕ). IsErr r) read unread.1 in absurd cc
  backwards c read (inr found) =
      let same : c ≡ found.0 = cc in
      let e : refusal_of asked found.0 ≡ Err k = (some asked found.0 k).1 found.2 in
      rw (same, e) refl

  no_form : (place : ℕ) → Whole bytes ≡ Err place → Refuses asked bytes k → Refused 1 ≡ Refused k
  no_form place e (inl unread) = ap Refused (sym unread.0)
  no_form place e (inr found) = absurd cc

  by_reading : (read : Result Confirmation ℕ) → Whole bytes ≡ read → (Judged asked read ≡ Refused k) ↔ Refuses asked bytes k
  by_reading (Err place) e = ((λ h. inl (cc, rw e refl)), (λ a. no_form place e a))
  by_reading (Ok c) e = ((λ h. by_refusal c (refusal_of asked c) refl e h), (λ a. backwards c e a))
