-- What each row has, the answer to each message has: of any answer, and of those that do not refuse, by what the row found then.
use Rattle.std.proofs.Common.{◌≡◌, ℕ, List, Bool, true, false, Result, Ok, Err, refl, subst}
use Rattle.std.specs.Prelude.{IfOk, map}
use Rattle.std.specs.Result.{result_and}
use Rattle.ar_cert.specs.Certificate.{Certificate}
use Rattle.ar_message.specs.Filling.{nothing, zeros}
use Rattle.ar_message.specs.Messages.{message_text}
use Rattle.ar_message.specs.declared.address.Address.{Address}
use Rattle.ar_message.specs.declared.address.Address.TheVariants.{Logs, One}
use Rattle.ar_message.specs.declared.message.Confirming.{Confirming}
use Rattle.ar_message.specs.declared.message.Message.{Message}
use Rattle.ar_message.specs.declared.message.Message.TheVariants.{EndorseAsk, Endorsed, Submit, Propose, Ballot, StatusNote, Decision, SkipNote, ConfirmAsk, LogConfirmed, HalfConfirmed, Confirmation, RollNote}
use Rattle.ar_message.specs.declared.unsigned.Unsigned.{Unsigned}
use Rattle.ar_statement.specs.Claims.{authority_party, client_party, endorse, owner_party}
use Rattle.key_roll.specs.Due.{DueParts}
use Rattle.key_roll.specs.Entry.{roll_text, rolled}
use Rattle.key_roll.specs.declared.fault.RollFault.{RollFault}
use Rattle.lms_tree.specs.declared.public_key.LmsPublic.{LmsPublic}
use Rattle.owner_check.specs.declared.answer.Outcome.{Outcome}
use Rattle.owner_check.specs.declared.answer.Outcome.TheVariants.{Failed, No, Yes}
use Rattle.party_keys.specs.Learning.{Announced, learned}
use Rattle.party_keys.specs.Signers.{Claimed, seen_in}
use Rattle.party_keys.specs.declared.fault.LearnFault.{LearnFault}
use Rattle.party_keys.specs.declared.learning.Learned.{Learned}
use Rattle.authority_core.specs.Calls.{after_endorse, confirming, kept_claim}
use Rattle.authority_core.specs.ConfirmRows.{confirmation_with, half_claims, half_confirmed_row, log_claims, log_confirmed_row}
use Rattle.authority_core.specs.Confirming.{confirming_checks, confirming_too, confirming_with, kept_of, parties_of}
use Rattle.authority_core.specs.EndorseRow.{asked_of, endorse_row, endorsed_message, endorsing}
use Rattle.authority_core.specs.RollRows.{learning, roll_by, roll_message, roll_note_by, roll_note_row, roll_row, rolling}
use Rattle.authority_core.specs.Row.{message_row, row}
use Rattle.authority_core.specs.State.{AuthorityAnswer, AuthorityState, entering, if_due, sends}
use Rattle.authority_core.specs.declared.entries.Approved.{Approved}
use Rattle.authority_core.specs.declared.refusal.AuthorityRefusal.{AuthorityRefusal}
use Rattle.authority_core.specs.declared.refusal.AuthorityRefusal.TheVariants.{NotForAuthority}

-- ---- any answer

-- a property of a message and the answer to it, which each row's answer has
pub record EachAnswer (P : Message → AuthorityAnswer → Type 0) (s : AuthorityState) (retired : Bool) (said : Outcome) : Type 0 where
  pub endorses : (owner : ℕ) (cert : Certificate) → P (EndorseAsk owner cert) (endorse_row s retired owner cert said)
  pub first : (part : Confirming) → P (LogConfirmed part) (log_confirmed_row s part)
  pub second : (part : Confirming) (signature : List ℕ) → P (HalfConfirmed part signature) (half_confirmed_row s part signature)
  pub notes : (a : Announced) → P (RollNote a.party a.generation a.key a.signature) (roll_note_row s a)
  pub other : (m : Message) → P m (Err NotForAuthority)

pub answer-has : (P : Message → AuthorityAnswer → Type 0) (s : AuthorityState) (retired : Bool) (said : Outcome) → EachAnswer P s retired said → (m : Message) → P m (message_row s retired m said)
unfolding message_row
answer-has P s retired said each (EndorseAsk owner cert) = each.endorses owner cert
answer-has P s retired said each (LogConfirmed part) = each.first part
answer-has P s retired said each (HalfConfirmed part first_signature) = each.second part first_signature
answer-has P s retired said each (RollNote party generation key signature) =
    each.notes (record { party = party; generation = generation; key = key; signature = signature })
answer-has P s retired said each (Endorsed owner authority certificate signature) = each.other (Endorsed owner authority certificate signature)
answer-has P s retired said each (Submit change) = each.other (Submit change)
answer-has P s retired said each (Propose log epoch base root changes signature) = each.other (Propose log epoch base root changes signature)
answer-has P s retired said each (Ballot log epoch base root signature) = each.other (Ballot log epoch base root signature)
answer-has P s retired said each (StatusNote log epoch value signature) = each.other (StatusNote log epoch value signature)
answer-has P s retired said each (Decision epoch base root changes votes) = each.other (Decision epoch base root changes votes)
answer-has P s retired said each (SkipNote epoch statuses) = each.other (SkipNote epoch statuses)
answer-has P s retired said each (ConfirmAsk client name first second) = each.other (ConfirmAsk client name first second)
answer-has P s retired said each (Confirmation client epoch name root body log log_signature first first_signature second second_signature) =
    each.other (Confirmation client epoch name root body log log_signature first first_signature second second_signature)

-- ---- an answer that does not refuse

-- what an answer makes, where it does not refuse, has this property
abbrev pub Gives : (AuthorityState → Unsigned → Type 0) → AuthorityAnswer → Type 0
Gives P answer = IfOk answer (λ made. P made.0 made.1)

-- the same, of what it is said to make
abbrev pub AnswersWith : (AuthorityState → Unsigned → Type 0) → AuthorityAnswer → Type 0
AnswersWith P answer = (later : AuthorityState) (sent : Unsigned) → answer ≡ Ok (later, sent) → P later sent

pub answered : (P : AuthorityState → Unsigned → Type 0) (answer : AuthorityAnswer) → Gives P answer → AnswersWith P answer
answered P answer gives later sent is = subst (Gives P) is gives

-- where something is due
due-gives : (P : AuthorityState → Unsigned → Type 0) (e : Result DueParts AuthorityRefusal) (next : AuthorityState) (send : DueParts → Unsigned)
    → ((due : DueParts) → e ≡ Ok due → P next (send due)) → Gives P (if_due {A = AuthorityState × Unsigned} e (λ due. (next, send due)))
due-gives P (Ok due) next send has = has due refl
due-gives P (Err refusal) next send has = tt

-- where checks stand before it
ordered-gives : (P : AuthorityState → Unsigned → Type 0) (checks : Result (Unit {0}) AuthorityRefusal) (answer : AuthorityAnswer) → (checks ≡ Ok tt → Gives P answer)
    → Gives P (result_and checks answer)
ordered-gives P (Ok u) answer has = has refl
ordered-gives P (Err refusal) answer has = tt

-- ---- an endorsement

-- the authority behind one, and what it sends then
abbrev pub endorsed_by : AuthorityState → Approved → AuthorityState
endorsed_by s a = record s { past = after_endorse s.me s.past a }

abbrev pub endorsed_out : AuthorityState → ℕ → Approved → DueParts → Unsigned
endorsed_out s owner a due = sends s.signature_len (One (owner_party owner)) (message_text (endorsed_message s owner a.certificate)) due

-- the authority has not retired, its check said yes, and a leaf is left
abbrev pub OfEndorsing : (AuthorityState → Unsigned → Type 0) → AuthorityState → Bool → ℕ → Approved → Outcome → Type 0
OfEndorsing P s retired owner a said =
    (due : DueParts) → retired ≡ false → said ≡ Yes → entering s.past (endorse s.me a.certificate) ≡ Ok due → P (endorsed_by s a) (endorsed_out s owner a due)

endorsing-gives : (P : AuthorityState → Unsigned → Type 0) (s : AuthorityState) (owner : ℕ) (a : Approved) (said : Outcome) → OfEndorsing P s false owner a said
    → Gives P (endorsing s owner a said)
unfolding endorsing
endorsing-gives P s owner a Failed has = tt
endorsing-gives P s owner a No has = tt
endorsing-gives P s owner a Yes has =
    due-gives P (entering s.past (endorse s.me a.certificate)) (endorsed_by s a) (endorsed_out s owner a) (λ due entered. has due refl refl entered)

pub endorse-gives : (P : AuthorityState → Unsigned → Type 0) (s : AuthorityState) (retired : Bool) (owner : ℕ) (cert : Certificate) (said : Outcome)
    → OfEndorsing P s retired owner (asked_of cert) said → Gives P (endorse_row s retired owner cert said)
endorse-gives P s true owner cert said has = tt
endorse-gives P s false owner cert said has = endorsing-gives P s owner (asked_of cert) said has

-- ---- a confirmation

-- the authority behind one, and what it sends then
abbrev pub confirmed_by : AuthorityState → List Claimed → Confirming → AuthorityState
confirmed_by s claims part = record s { past = confirming s.me s.past (map seen_in claims) (kept_of part) }

abbrev pub confirmed_out : AuthorityState → Address → (List ℕ → Message) → DueParts → Unsigned
confirmed_out s to message due = sends s.signature_len to (message_text (message (zeros s.signature_len))) due

-- it passed the checks, and a leaf is left
abbrev pub OfConfirming : (AuthorityState → Unsigned → Type 0) → AuthorityState → Result (Unit {0}) AuthorityRefusal → List Claimed → Confirming → Address → (List ℕ → Message) → Type 0
OfConfirming P s checks claims part to message =
    (due : DueParts) → checks ≡ Ok tt → entering s.past (kept_claim (authority_party s.me) (kept_of part)) ≡ Ok due → P (confirmed_by s claims part) (confirmed_out s to message due)

confirming-gives : (P : AuthorityState → Unsigned → Type 0) (s : AuthorityState) (checks : Result (Unit {0}) AuthorityRefusal) (claims : List Claimed) (part : Confirming) (to : Address) (message : List ℕ → Message)
    → OfConfirming P s checks claims part to message → Gives P (result_and checks (confirming_too s (map seen_in claims) (kept_of part) to message))
unfolding confirming_with
confirming-gives P s checks claims part to message has =
    ordered-gives P checks (confirming_too s (map seen_in claims) (kept_of part) to message)
    (λ passed. due-gives P (entering s.past (kept_claim (authority_party s.me) (kept_of part))) (confirmed_by s claims part) (confirmed_out s to message) (λ due entered. has due passed entered))

-- as the first of two authorities
abbrev pub OfFirst : (AuthorityState → Unsigned → Type 0) → AuthorityState → Confirming → Type 0
OfFirst P s part =
    OfConfirming P s (confirming_checks s part.first (parties_of part part.second) (log_claims part) part) (log_claims part) part (One (authority_party part.second))
    (λ signature. HalfConfirmed part signature)

pub first-gives : (P : AuthorityState → Unsigned → Type 0) (s : AuthorityState) (part : Confirming) → OfFirst P s part → Gives P (log_confirmed_row s part)
unfolding log_confirmed_row
first-gives P s part has =
    confirming-gives P s (confirming_checks s part.first (parties_of part part.second) (log_claims part) part) (log_claims part) part (One (authority_party part.second))
    (λ signature. HalfConfirmed part signature) has

-- as the second
abbrev pub OfSecond : (AuthorityState → Unsigned → Type 0) → AuthorityState → Confirming → List ℕ → Type 0
OfSecond P s part signature =
    OfConfirming P s (confirming_checks s part.second (parties_of part part.first) (half_claims part signature) part) (half_claims part signature) part (One (client_party part.client))
    (confirmation_with part signature)

pub second-gives : (P : AuthorityState → Unsigned → Type 0) (s : AuthorityState) (part : Confirming) (signature : List ℕ) → OfSecond P s part signature → Gives P (half_confirmed_row s part signature)
unfolding half_confirmed_row
second-gives P s part signature has =
    confirming-gives P s (confirming_checks s part.second (parties_of part part.first) (half_claims part signature) part) (half_claims part signature) part (One (client_party part.client))
    (confirmation_with part signature) has

-- ---- Rolls

-- that of another party was learnt
abbrev pub OfNote : (AuthorityState → Unsigned → Type 0) → AuthorityState → Announced → Type 0
OfNote P s a = (how : Learned) → learned s.keys a ≡ Ok how → P (learning s a) nothing

note-gives : (P : AuthorityState → Unsigned → Type 0) (s : AuthorityState) (a : Announced) → OfNote P s a → Gives P (roll_note_row s a)
unfolding roll_note_row
note-gives P s a has = by (learned s.keys a) refl
  where
    by : (r : Result Learned LearnFault) → learned s.keys a ≡ r → Gives P (roll_note_by s a r)
    by (Ok how) at = has how at
    by (Err fault) at = tt

-- what is sent of its own
abbrev pub rolled_out : AuthorityState → LmsPublic → DueParts → Unsigned
rolled_out s next due = sends s.signature_len Logs (message_text (roll_message s next)) due

-- its own is due
pub rolled-with : (P : AuthorityState → Unsigned → Type 0) (s : AuthorityState) (next : LmsPublic)
    → ((due : DueParts) → rolled s.past.signed (roll_text (authority_party s.me) s.past.signed.newest next) ≡ Ok due → P (rolling s next) (rolled_out s next due))
    → AnswersWith P (roll_row s next)
unfolding roll_row
rolled-with P s next has = answered P (roll_by s next (rolled s.past.signed (roll_text (authority_party s.me) s.past.signed.newest next))) (by (rolled s.past.signed (roll_text (authority_party s.me) s.past.signed.newest next)) refl)
  where
    by : (r : Result DueParts RollFault) → rolled s.past.signed (roll_text (authority_party s.me) s.past.signed.newest next) ≡ r → Gives P (roll_by s next r)
    by (Ok due) at = has due at
    by (Err fault) at = tt

-- ---- each row

-- a property of a message and of what the authority makes of it, which each row that does not refuse has
pub record EachRow (P : Message → AuthorityState → Unsigned → Type 0) (s : AuthorityState) (retired : Bool) (said : Outcome) : Type 0 where
  pub endorses : (owner : ℕ) (cert : Certificate) → OfEndorsing (P (EndorseAsk owner cert)) s retired owner (asked_of cert) said
  pub first : (part : Confirming) → OfFirst (P (LogConfirmed part)) s part
  pub second : (part : Confirming) (signature : List ℕ) → OfSecond (P (HalfConfirmed part signature)) s part signature
  pub notes : (a : Announced) → OfNote (P (RollNote a.party a.generation a.key a.signature)) s a

-- so has the answer to each message
pub message-gives : (P : Message → AuthorityState → Unsigned → Type 0) (s : AuthorityState) (retired : Bool) (m : Message) (said : Outcome) → EachRow P s retired said
    → AnswersWith (P m) (message_row s retired m said)
message-gives P s retired m said each = answered (P m) (message_row s retired m said) (answer-has (λ n answer. Gives (P n) answer) s retired said (record {
  endorses = λ owner cert. endorse-gives (P (EndorseAsk owner cert)) s retired owner cert said (each.endorses owner cert);
  first = λ part. first-gives (P (LogConfirmed part)) s part (each.first part);
  second = λ part signature. second-gives (P (HalfConfirmed part signature)) s part signature (each.second part signature);
  notes = λ a. note-gives (P (RollNote a.party a.generation a.key a.signature)) s a (each.notes a);
  other = λ n. tt;
}) m)

-- and that to bytes
pub row-gives : (P : Result Message ℕ → AuthorityState → Unsigned → Type 0) (s : AuthorityState) (retired : Bool) (read : Result Message ℕ) (said : Outcome) → EachRow (λ m. P (Ok m)) s retired said
    → AnswersWith (P read) (row s retired read said)
row-gives P s retired (Ok m) said each = message-gives (λ n. P (Ok n)) s retired m said each
row-gives P s retired (Err place) said each = λ later sent is. absurd cc
