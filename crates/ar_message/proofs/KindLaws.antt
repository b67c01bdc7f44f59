-- The fields of each kind of message: what was put is read again, and what is read is spelled so.
use Rattle.std.proofs.Common.{◌≡◌, ℕ, ◌+◌, ◌^◌, ◌<◌, ◌≤◌, true, false, eqb, cond, List, ◌++◌, refl, sym, ap, subst, arith}
use Rattle.std.specs.Prelude.{IfSome}
use Rattle.std.specs.Int.{w8, w16, w32, w64}
use Rattle.std.proofs.lemmas.Bool.{eqb-true, eqb-false}
use Rattle.ar_base.specs.Bytes.{IsDigest}
use Rattle.ar_bytes.specs.Reading.{Cursor, Reading, counted_at, mapped_at, number_at, such_that}
use Rattle.ar_bytes.specs.RoundTrip.{ReadsBack, IsSpelledBy, number_text, counted_text}
use Rattle.ar_bytes.specs.Joined.{pair_at, optional_at, optional_text}
use Rattle.ar_bytes.proofs.Passing.{counted_again, counted_pass, number_again, number_pass, wide16, wide32}
use Rattle.ar_bytes.proofs.Parts.{such_that_again, such_that_pass}
use Rattle.ar_bytes.proofs.JoinedFields.{pair_again, pair_pass, mapped_again, mapped_pass, if_pass}
use Rattle.ar_names.specs.Names.{IsName}
use Rattle.ar_statement.specs.Claims.{name_text, party, party_text, role_number, value_text, value_with}
use Rattle.ar_statement.specs.Fields.{IsEpoch, digest_at, epoch_at, name_at}
use Rattle.ar_statement.specs.Ranges.{IsValue, is_witness}
use Rattle.ar_statement.specs.Texts.{role_at, value_at}
use Rattle.ar_statement.proofs.FieldLaws.{digest_again, digest_pass, epoch_again, epoch_pass, name_again, name_pass}
use Rattle.ar_statement.proofs.Statements.{role_again, role_pass}
use Rattle.lms_tree.specs.PublicKey.{HasWidths, key_text}
use Rattle.ar_cert.specs.Certificate.{IsCertificate, certificate_text, counted_certificate_at, certified_key_at}
use Rattle.ar_cert.specs.Changes.{IsChange, IsSignature, change_at, change_text}
use Rattle.ar_cert.proofs.CertificateLaws.{counted_certificate_again, counted_certificate_pass}
use Rattle.ar_cert.proofs.ChangeLaws.{change_again, change_pass}
use Rattle.ar_statement.proofs.FieldsByKind.{value_again, value_pass}
use Rattle.ar_cert.proofs.FieldLaws.{key_again, key_pass}
use Rattle.ar_message.specs.Confirmation.{IsConfirmation, confirmation_fields_at, confirmation_fields_text}
use Rattle.ar_message.specs.Lists.{changes_at, changes_text, AreChanges, votes_at, votes_text, AreVotes, statuses_at, statuses_text, AreLogStatuses}
use Rattle.ar_message.specs.declared.message.Body.TheVariants.{Present, Absent}
use Rattle.ar_message.specs.declared.message.Message.{Message}
use Rattle.ar_message.specs.declared.message.Message.TheVariants.{EndorseAsk, Endorsed, Submit, Propose, Ballot, StatusNote, Decision, SkipNote, ConfirmAsk, LogConfirmed, HalfConfirmed, Confirmation, RollNote}
use Rattle.ar_message.specs.Messages.{IsMessage, IsConfirming, IsWitness, ballot_at, confirm_ask_at, confirmation_in, confirming_at, confirming_text, decision_at, endorse_ask_at, endorsed_at, fields_at, fields_text, half_confirmed_at, kind_of, log_confirmed_at, propose_at, roll_note_at, skip_note_at, status_note_at, submit_at, whole_confirmation_at, with_confirmation, witness_at}
use Rattle.ar_message.proofs.ConfirmationLaws.{confirmation_fields_again, confirmation_fields_pass}
use Rattle.ar_message.proofs.ConfirmingLaws.{confirming_again, confirming_pass, whole-with}
use Rattle.ar_message.proofs.ListLaws.{changes_again, changes_pass, votes_again, votes_pass, statuses_again, statuses_pass, optional_value_again, optional_value_pass}

-- ---- one field behind the other

-- each value that fits is read back from its text, and what is read is spelled so
record IsExact {A : Type 0} (field : Cursor → Reading A) (text : A → List ℕ) (fits : A → Type 0) : Type 0 where
  again : (x : A) → fits x → ReadsBack field x (text x)
  pass : IsSpelledBy field text fits

-- two such fields, one behind the other
pairs : {A B : Type 0} {first : Cursor → Reading A} {second : Cursor → Reading B} {text_a : A → List ℕ} {text_b : B → List ℕ} {fits_a : A → Type 0} {fits_b : B → Type 0}
    → IsExact first text_a fits_a → IsExact second text_b fits_b → IsExact (pair_at first second) (λ x. text_a x.0 ++ text_b x.1) (λ x. fits_a x.0 × fits_b x.1)
pairs {A} {B} {first} {second} {text_a} {text_b} {fits_a} {fits_b} one other = record {
  again = λ x h. pair_again first second x.0 x.1 (text_a x.0) (text_b x.1) (one.again x.0 h.0) (other.again x.1 h.1);
  pass = pair_pass first second text_a text_b fits_a fits_b one.pass other.pass;
}

-- ---- the fields that kinds share

number_exact : IsExact (number_at w16) (number_text w16) (λ n. n < 2 ^ 16)
number_exact = record { again = number_again w16 (2 ^ 16) wide16; pass = number_pass w16 (2 ^ 16) wide16 }

generation_exact : IsExact (number_at w32) (number_text w32) (λ n. n < 2 ^ 32)
generation_exact = record { again = number_again w32 (2 ^ 32) wide32; pass = number_pass w32 (2 ^ 32) wide32 }

epoch_exact : IsExact epoch_at (number_text w64) IsEpoch
epoch_exact = record { again = epoch_again; pass = epoch_pass }

digest_exact : IsExact digest_at (λ d. d) IsDigest
digest_exact = record { again = digest_again; pass = digest_pass }

name_exact : IsExact name_at name_text IsName
name_exact = record { again = name_again; pass = name_pass }

signature_exact : IsExact counted_at counted_text IsSignature
signature_exact = record { again = counted_again; pass = counted_pass }

value_exact : IsExact value_at value_text IsValue
value_exact = record { again = value_again; pass = value_pass }

optional_value_exact : IsExact (optional_at value_at) (optional_text value_text) (λ value. IfSome value IsValue)
optional_value_exact = record { again = optional_value_again; pass = optional_value_pass }

certificate_exact : IsExact counted_certificate_at (λ c. counted_text (certificate_text c)) IsCertificate
certificate_exact = record { again = counted_certificate_again; pass = counted_certificate_pass }

change_exact : IsExact change_at change_text IsChange
change_exact = record { again = change_again; pass = change_pass }

changes_exact : IsExact changes_at changes_text AreChanges
changes_exact = record { again = changes_again; pass = changes_pass }

votes_exact : IsExact votes_at votes_text AreVotes
votes_exact = record { again = votes_again; pass = votes_pass }

statuses_exact : IsExact statuses_at statuses_text AreLogStatuses
statuses_exact = record { again = statuses_again; pass = statuses_pass }

fields_exact : IsExact confirmation_fields_at confirmation_fields_text IsConfirmation
fields_exact = record { again = confirmation_fields_again; pass = confirmation_fields_pass }

confirming_exact : IsExact confirming_at confirming_text IsConfirming
confirming_exact = record { again = confirming_again; pass = confirming_pass }

key_exact : IsExact certified_key_at key_text HasWidths
key_exact = record { again = key_again; pass = key_pass }

-- the role of a log or an authority
role_exact : IsExact (such_that is_witness role_at) (λ r. number_text w8 (role_number r)) (λ r. Unit {0} × (is_witness r ≡ true))
role_exact = record {
  again = λ r h. such_that_again is_witness role_at r (number_text w8 (role_number r)) (role_again r) h.1;
  pass = such_that_pass is_witness role_at (λ r. number_text w8 (role_number r)) (λ _. Unit {0}) role_pass;
}

-- a log or an authority
witness_exact : IsExact witness_at party_text IsWitness
unfolding witness_at
witness_exact =
    let both = pairs role_exact number_exact in
    let parts = pair_at (such_that is_witness role_at) (number_at w16) in
    record {
      again = λ p h. mapped_again (λ f. party f.0 f.1) parts (p.role, p.number) (party_text p) (both.again (p.role, p.number) ((tt, h.0), h.1));
      pass = mapped_pass (λ f. party f.0 f.1) parts (λ f. number_text w8 (role_number f.0) ++ number_text w16 f.1) (λ f. (Unit {0} × (is_witness f.0 ≡ true)) × (f.1 < 2 ^ 16)) party_text IsWitness both.pass (λ f h. (refl, (h.0.1, h.1)));
    }

-- ---- a text is read again

-- the message that fields stand for is read back
sent : {A : Type 0} {field : Cursor → Reading A} {text : A → List ℕ} {fits : A → Type 0} → IsExact field text fits → (value : A → Message) (x : A) → fits x → ReadsBack (mapped_at value field) (value x) (text x)
sent {A} {field} {text} {fits} exact value x h = mapped_again value field x (text x) (exact.again x h)

pub fields_again : (m : Message) → IsMessage m → ReadsBack (fields_at (kind_of m)) m (fields_text m)
unfolding fields_at fields_text endorse_ask_at endorsed_at submit_at propose_at ballot_at status_note_at decision_at skip_note_at confirm_ask_at log_confirmed_at half_confirmed_at whole_confirmation_at roll_note_at
fields_again (EndorseAsk owner cert) h = sent (pairs number_exact certificate_exact) (λ f. EndorseAsk f.0 f.1) (owner, cert) h
fields_again (Endorsed owner authority certificate signature) h =
    sent (pairs number_exact (pairs number_exact (pairs digest_exact signature_exact))) (λ f. Endorsed f.0 f.1.0 f.1.1.0 f.1.1.1) (owner, (authority, (certificate, signature))) h
fields_again (Submit change) h = sent change_exact Submit change h
fields_again (Propose log epoch base root changes signature) h =
    sent (pairs number_exact (pairs epoch_exact (pairs value_exact (pairs changes_exact signature_exact)))) (λ f. Propose f.0 f.1.0 f.1.1.0.base f.1.1.0.root f.1.1.1.0 f.1.1.1.1) (log, (epoch, (value_with base root, (changes, signature)))) h
fields_again (Ballot log epoch base root signature) h =
    sent (pairs number_exact (pairs epoch_exact (pairs value_exact signature_exact))) (λ f. Ballot f.0 f.1.0 f.1.1.0.base f.1.1.0.root f.1.1.1) (log, (epoch, (value_with base root, signature))) h
fields_again (StatusNote log epoch value signature) h =
    sent (pairs number_exact (pairs epoch_exact (pairs optional_value_exact signature_exact))) (λ f. StatusNote f.0 f.1.0 f.1.1.0 f.1.1.1) (log, (epoch, (value, signature))) h
fields_again (Decision epoch base root changes votes) h =
    sent (pairs epoch_exact (pairs value_exact (pairs changes_exact votes_exact))) (λ f. Decision f.0 f.1.0.base f.1.0.root f.1.1.0 f.1.1.1) (epoch, (value_with base root, (changes, votes))) h
fields_again (SkipNote epoch statuses) h = sent (pairs epoch_exact statuses_exact) (λ f. SkipNote f.0 f.1) (epoch, statuses) h
fields_again (ConfirmAsk client name first second) h =
    sent (pairs number_exact (pairs name_exact (pairs number_exact number_exact))) (λ f. ConfirmAsk f.0 f.1.0 f.1.1.0 f.1.1.1) (client, (name, (first, second))) h
fields_again (LogConfirmed part) h = sent confirming_exact LogConfirmed part h
fields_again (HalfConfirmed part first_signature) h = sent (pairs confirming_exact signature_exact) (λ f. HalfConfirmed f.0 f.1) (part, first_signature) h
fields_again (Confirmation client epoch name root (Present certificate path) log log_signature first first_signature second second_signature) h =
    sent fields_exact with_confirmation (confirmation_in client epoch name root (Present certificate path) log log_signature first first_signature second second_signature) h
fields_again (Confirmation client epoch name root (Absent bottom path) log log_signature first first_signature second second_signature) h =
    sent fields_exact with_confirmation (confirmation_in client epoch name root (Absent bottom path) log log_signature first first_signature second second_signature) h
fields_again (RollNote party generation key signature) h =
    sent (pairs witness_exact (pairs generation_exact (pairs key_exact signature_exact))) (λ f. RollNote f.0 f.1.0 f.1.1.0 f.1.1.1) (party, (generation, (key, signature))) h

-- ---- what is read is spelled so

-- the message is in order, and its kind is the one with this number
abbrev pub IsOfKind : ℕ → Message → Type 0
IsOfKind kind m = IsMessage m × (kind_of m ≡ kind)

abbrev KindPass : ℕ → (Cursor → Reading Message) → Type 0
KindPass kind field = IsSpelledBy field fields_text (IsOfKind kind)

-- the message that fields stand for
of_kind : {A : Type 0} {field : Cursor → Reading A} {text : A → List ℕ} {fits : A → Type 0} (kind : ℕ) → IsExact field text fits → (value : A → Message) → ((x : A) → fits x → (fields_text (value x) ≡ text x) × IsOfKind kind (value x)) → KindPass kind (mapped_at value field)
of_kind {A} {field} {text} {fits} kind exact value stands = mapped_pass value field text fits fields_text (IsOfKind kind) exact.pass stands

endorse_ask_pass : KindPass 1 endorse_ask_at
unfolding endorse_ask_at fields_text
endorse_ask_pass = of_kind 1 (pairs number_exact certificate_exact) (λ f. EndorseAsk f.0 f.1) (λ f h. (refl, (h, refl)))

endorsed_pass : KindPass 2 endorsed_at
unfolding endorsed_at fields_text
endorsed_pass = of_kind 2 (pairs number_exact (pairs number_exact (pairs digest_exact signature_exact))) (λ f. Endorsed f.0 f.1.0 f.1.1.0 f.1.1.1) (λ f h. (refl, (h, refl)))

submit_pass : KindPass 3 submit_at
unfolding submit_at fields_text
submit_pass = of_kind 3 change_exact Submit (λ f h. (refl, (h, refl)))

propose_pass : KindPass 4 propose_at
unfolding propose_at fields_text
propose_pass =
    of_kind 4 (pairs number_exact (pairs epoch_exact (pairs value_exact (pairs changes_exact signature_exact)))) (λ f. Propose f.0 f.1.0 f.1.1.0.base f.1.1.0.root f.1.1.1.0 f.1.1.1.1) (λ f h. (refl, (h, refl)))

ballot_pass : KindPass 5 ballot_at
unfolding ballot_at fields_text
ballot_pass =
    of_kind 5 (pairs number_exact (pairs epoch_exact (pairs value_exact signature_exact))) (λ f. Ballot f.0 f.1.0 f.1.1.0.base f.1.1.0.root f.1.1.1) (λ f h. (refl, (h, refl)))

status_note_pass : KindPass 6 status_note_at
unfolding status_note_at fields_text
status_note_pass =
    of_kind 6 (pairs number_exact (pairs epoch_exact (pairs optional_value_exact signature_exact))) (λ f. StatusNote f.0 f.1.0 f.1.1.0 f.1.1.1) (λ f h. (refl, (h, refl)))

decision_pass : KindPass 7 decision_at
unfolding decision_at fields_text
decision_pass =
    of_kind 7 (pairs epoch_exact (pairs value_exact (pairs changes_exact votes_exact))) (λ f. Decision f.0 f.1.0.base f.1.0.root f.1.1.0 f.1.1.1) (λ f h. (refl, (h, refl)))

skip_note_pass : KindPass 8 skip_note_at
unfolding skip_note_at fields_text
skip_note_pass = of_kind 8 (pairs epoch_exact statuses_exact) (λ f. SkipNote f.0 f.1) (λ f h. (refl, (h, refl)))

confirm_ask_pass : KindPass 9 confirm_ask_at
unfolding confirm_ask_at fields_text
confirm_ask_pass =
    of_kind 9 (pairs number_exact (pairs name_exact (pairs number_exact number_exact))) (λ f. ConfirmAsk f.0 f.1.0 f.1.1.0 f.1.1.1) (λ f h. (refl, (h, refl)))

log_confirmed_pass : KindPass 10 log_confirmed_at
unfolding log_confirmed_at fields_text
log_confirmed_pass = of_kind 10 confirming_exact LogConfirmed (λ f h. (refl, (h, refl)))

half_confirmed_pass : KindPass 11 half_confirmed_at
unfolding half_confirmed_at fields_text
half_confirmed_pass = of_kind 11 (pairs confirming_exact signature_exact) (λ f. HalfConfirmed f.0 f.1) (λ f h. (refl, (h, refl)))

whole_confirmation_pass : KindPass 12 whole_confirmation_at
unfolding whole_confirmation_at fields_text
whole_confirmation_pass = of_kind 12 fields_exact with_confirmation (λ c h. (ap confirmation_fields_text (whole-with c), (subst IsConfirmation (sym (whole-with c)) h, refl)))

roll_note_pass : KindPass 13 roll_note_at
unfolding roll_note_at fields_text
roll_note_pass =
    of_kind 13 (pairs witness_exact (pairs generation_exact (pairs key_exact signature_exact))) (λ f. RollNote f.0 f.1.0 f.1.1.0 f.1.1.1) (λ f h. (refl, (h, refl)))

-- the kind with this number, or those behind it
or_else : (kind number : ℕ) (field other : Cursor → Reading Message) → number ≤ kind → KindPass number field → (number + 1 ≤ kind → KindPass kind other) → KindPass kind (λ at. cond (eqb kind number) (field at) (other at))
or_else kind number field other le here there =
    if_pass (eqb kind number) field other fields_text (IsOfKind kind) (λ t. let is : kind ≡ number = eqb-true kind number t in subst (λ (k : ℕ). KindPass k field) (sym is) here) (λ f. there (behind kind number le f)) where
      behind : (kind number : ℕ) → number ≤ kind → eqb kind number ≡ false → number + 1 ≤ kind
      behind kind number le f = omega (arith, eqb-false kind number f)

pub fields_pass : (kind : ℕ) → 1 ≤ kind → kind ≤ 13 → IsSpelledBy (fields_at kind) fields_text (IsOfKind kind)
unfolding fields_at
fields_pass kind first last =
    or_else kind 1 endorse_ask_at _ first endorse_ask_pass (λ k2.
    or_else kind 2 endorsed_at _ k2 endorsed_pass (λ k3.
    or_else kind 3 submit_at _ k3 submit_pass (λ k4.
    or_else kind 4 propose_at _ k4 propose_pass (λ k5.
    or_else kind 5 ballot_at _ k5 ballot_pass (λ k6.
    or_else kind 6 status_note_at _ k6 status_note_pass (λ k7.
    or_else kind 7 decision_at _ k7 decision_pass (λ k8.
    or_else kind 8 skip_note_at _ k8 skip_note_pass (λ k9.
    or_else kind 9 confirm_ask_at _ k9 confirm_ask_pass (λ k10.
    or_else kind 10 log_confirmed_at _ k10 log_confirmed_pass (λ k11.
    or_else kind 11 half_confirmed_at _ k11 half_confirmed_pass (λ k12.
    or_else kind 12 whole_confirmation_at _ k12 whole_confirmation_pass (λ k13.
    let is : 13 ≡ kind = omega arith in subst (λ (k : ℕ). KindPass k roll_note_at) is roll_note_pass))))))))))))
