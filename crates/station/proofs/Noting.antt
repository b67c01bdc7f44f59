-- The note of an authority's step, and what the step replies by it.
use Rattle.std.proofs.Common.{◌≡◌, ◌≢◌, inl, inr, ℕ, List, Bool, true, false, cond, is_none, Option, Some, None, Result, Ok, Err, IfSome, refl, sym, ap, ◌∙◌, subst}
use Rattle.std.specs.Prelude.{unwrap_or}
use Rattle.std.specs.Option.{option_map}
use Rattle.ar_base.specs.Bytes.{AreBytes}
use Rattle.ar_message.specs.Messages.{message_in, message_text}
use Rattle.ar_message.specs.declared.message.Message.{Message}
use Rattle.ar_message.specs.declared.message.Message.TheVariants.{EndorseAsk, Endorsed, Submit, Propose, Ballot, StatusNote, Decision, SkipNote, ConfirmAsk, LogConfirmed, HalfConfirmed, Confirmation, RollNote}
use Rattle.ar_message.specs.declared.unsigned.Unsigned.{Unsigned}
use Rattle.ar_message.proofs.MessageLaws.{only_messages}
use Rattle.ar_bytes.specs.RoundTrip.{number_text}
use Rattle.ar_base.specs.Gives.{with_error}
use Rattle.ar_cert.specs.Certificate.{Certificate}
use Rattle.ar_statement.specs.Claims.{endorse, text_of}
use Rattle.key_roll.specs.Due.{DueParts}
use Rattle.key_roll.specs.Entry.{entered}
use Rattle.ar_statement.specs.declared.fault.BookFault.{BookFault}
use Rattle.ar_statement.specs.declared.fault.BookFault.TheVariants as book
use Rattle.authority_core.specs.Checked.{ChecksBy}
use Rattle.authority_core.specs.EndorseRow.{SaysAsTold, answers_after, asked_of, endorse_due, endorse_row, endorsing, outcome_by}
use Rattle.authority_core.specs.Record.{AuthorityRecord}
use Rattle.authority_core.specs.Refusals.{of_book}
use Rattle.authority_core.specs.Row.{answers_behind, asked_in, message_row, row}
use Rattle.authority_core.specs.State.{AuthorityAnswer, AuthorityState, StepsBy, if_due}
use Rattle.authority_core.specs.declared.entries.Approved.{Approved}
use Rattle.authority_core.specs.declared.refusal.AuthorityRefusal.{AuthorityRefusal}
use Rattle.authority_core.specs.declared.refusal.AuthorityRefusal.TheVariants as refusals
use Rattle.owner_check.specs.Answers.{Told}
use Rattle.owner_check.specs.declared.answer.CheckAnswer as check
use Rattle.owner_check.specs.declared.answer.Outcome.{Outcome}
use Rattle.owner_check.specs.declared.answer.Outcome.TheVariants.{Failed, No, Yes}
use Rattle.ar_nodes.specs.Authorities.{authority_reply, check_after, says_to}
use Rattle.ar_nodes.specs.Codes.{authority_code}
use Rattle.ar_nodes.specs.Parties.{CheckParts, check_told}
use Rattle.ar_nodes.proofs.Nodes.{after-alike, as-told, check-behind, check-waits, none-mapped, said-row}
use Rattle.station.specs.Station.{IsAnswerOf, an_authority, answered_by, asks_to_endorse, authority_replied, authority_took, coded, note_by}

-- ---- which bytes ask for an endorsement

-- whether a check is asked
abbrev asks : Option Approved → Bool
asks None = false
asks (Some asked) = true

text-asks : (m : Message) → asks_to_endorse (message_text m) ≡ asks (asked_in (Ok m))
unfolding message_text number_text
text-asks (EndorseAsk owner cert) = refl
text-asks (LogConfirmed part) = refl
text-asks (HalfConfirmed part first_signature) = refl
text-asks (RollNote party generation key signature) = refl
text-asks (Endorsed owner authority certificate signature) = refl
text-asks (Submit change) = refl
text-asks (Propose log epoch base root changes signature) = refl
text-asks (Ballot log epoch base root signature) = refl
text-asks (StatusNote log epoch value signature) = refl
text-asks (Decision epoch base root changes votes) = refl
text-asks (SkipNote epoch statuses) = refl
text-asks (ConfirmAsk client name first second) = refl
text-asks (Confirmation client epoch name root body log log_signature first first_signature second second_signature) = refl

bytes-ask : (bytes : List ℕ) (m : Message) → AreBytes bytes → message_in bytes ≡ Ok m → asks_to_endorse bytes ≡ asks (asked_in (Ok m))
bytes-ask bytes m are at =
    let text : message_text m ≡ bytes = ((only_messages bytes m are).0 at).1.0 in
    ap asks_to_endorse (sym text) ∙ text-asks m

-- ---- what the check answered

-- a call that refuses, and not for want of memory, refuses as the row does
is-refused : (s s' : AuthorityState) (answer : AuthorityAnswer) (r : AuthorityRefusal) → r ≢ refusals.Memory → StepsBy (Err r) s s' answer → answer ≡ Err r
is-refused s s' answer r some steps = elim steps.1 [ inl wants ↦ absurd (some wants) | inr is ↦ is ]

-- behind this refusal of a request to endorse the check was asked
abbrev Answers : AuthorityRefusal → Type 0
Answers r = answered_by {A = Unsigned} (Err r) ≡ Some (outcome_by {A = Unsigned} (Err r))

book-answers : (d : Result DueParts BookFault) (r : AuthorityRefusal) → with_error of_book d ≡ Err r → Answers r
book-answers (Ok due) r e = absurd cc
book-answers (Err book.Spent) r e = let is : refusals.Spent ≡ r = cc in subst Answers is refl
book-answers (Err book.Memory) r e = let is : refusals.Memory ≡ r = cc in subst Answers is refl

due-answers : (me : ℕ) (past : AuthorityRecord) (a : Approved) (said : Outcome) (r : AuthorityRefusal) → endorse_due me past a said ≡ Err r → Answers r
due-answers me past a Failed r e = let is : refusals.CheckFault ≡ r = cc in subst Answers is refl
due-answers me past a No r e = let is : refusals.NotOwner ≡ r = cc in subst Answers is refl
due-answers me past a Yes r e = book-answers (entered past.signed (text_of (endorse me a.certificate))) r e

if-refused : {A : Type 0} (d : Result DueParts AuthorityRefusal) (f : DueParts → A) (r : AuthorityRefusal) → if_due d f ≡ Err r → d ≡ Err r
if-refused (Ok due) f r e = absurd cc
if-refused (Err x) f r e = let is : x ≡ r = cc in ap (λ (y : AuthorityRefusal). Err y) is

endorsing-refuses : (s : AuthorityState) (owner : ℕ) (a : Approved) (said : Outcome) (r : AuthorityRefusal) → endorsing s owner a said ≡ Err r → Answers r
unfolding endorsing
endorsing-refuses s owner a said r e = due-answers s.me s.past a said r (if-refused (endorse_due s.me s.past a said) _ r e)

endorsing-answers : (s s' : AuthorityState) (owner : ℕ) (a : Approved) (said : Outcome) (result : Result Unsigned AuthorityRefusal) → result ≢ Err refusals.Memory
    → StepsBy result s s' (endorsing s owner a said) → answered_by result ≡ Some (outcome_by result)
endorsing-answers s s' owner a said (Ok unsigned) some steps = refl
endorsing-answers s s' owner a said (Err r) some steps =
    endorsing-refuses s owner a said r (is-refused s s' (endorsing s owner a said) r (λ e. some (ap (λ (x : AuthorityRefusal). Err x) e)) steps)

-- ---- the note

-- what is noted of a check, which is asked where it is there and the message asks it
abbrev noted : Option Approved → Bool → Outcome → Option Outcome
noted None retired said = None
noted (Some a) true said = None
noted (Some a) false said = Some said

none-either : (b : Bool) → cond {A = Option Outcome} b None None ≡ None
none-either true = refl
none-either false = refl

-- a call that answers as a row that refuses so
refused-so : (s s' : AuthorityState) (x : AuthorityRefusal) (result : Result Unsigned AuthorityRefusal) → result ≢ Err refusals.Memory → StepsBy result s s' (Err x) → Err x ≡ result
refused-so s s' x (Ok unsigned) some steps = absurd cc
refused-so s s' x (Err r) some steps =
    let is : x ≡ r = let same = is-refused s s' (Err x) r (λ e. some (ap (λ (y : AuthorityRefusal). Err y) e)) steps in cc in
    ap (λ (y : AuthorityRefusal). Err y) is

asked-note : (s s' : AuthorityState) (retired : Bool) (owner : ℕ) (cert : Certificate) (said : Outcome) (result : Result Unsigned AuthorityRefusal) → result ≢ Err refusals.Memory
    → StepsBy result s s' (endorse_row s retired owner cert said) → answered_by result ≡ noted (Some (asked_of cert)) retired (outcome_by result)
asked-note s s' true owner cert said result some steps =
    ap (λ (r : Result Unsigned AuthorityRefusal). answered_by r) (sym (refused-so s s' refusals.NotForAuthority result some steps))
asked-note s s' false owner cert said result some steps = endorsing-answers s s' owner (asked_of cert) said result some steps

message-note : (s s' : AuthorityState) (retired : Bool) (m : Message) (said : Outcome) (result : Result Unsigned AuthorityRefusal) → result ≢ Err refusals.Memory
    → StepsBy result s s' (message_row s retired m said)
    → cond (asks (asked_in (Ok m))) (answered_by result) None ≡ noted (asked_in (Ok m)) retired (outcome_by result)
unfolding message_row
message-note s s' retired (EndorseAsk owner cert) said result some steps = asked-note s s' retired owner cert said result some steps
message-note s s' retired (LogConfirmed part) said result some steps = refl
message-note s s' retired (HalfConfirmed part first_signature) said result some steps = refl
message-note s s' retired (RollNote party generation key signature) said result some steps = refl
message-note s s' retired (Endorsed owner authority certificate signature) said result some steps = refl
message-note s s' retired (Submit change) said result some steps = refl
message-note s s' retired (Propose log epoch base root changes signature) said result some steps = refl
message-note s s' retired (Ballot log epoch base root signature) said result some steps = refl
message-note s s' retired (StatusNote log epoch value signature) said result some steps = refl
message-note s s' retired (Decision epoch base root changes votes) said result some steps = refl
message-note s s' retired (SkipNote epoch statuses) said result some steps = refl
message-note s s' retired (ConfirmAsk client name first second) said result some steps = refl
message-note s s' retired (Confirmation client epoch name root body log log_signature first first_signature second second_signature) said result some steps = refl

note-is : (s s' : AuthorityState) (retired : Bool) (bytes : List ℕ) (said : Outcome) (result : Result Unsigned AuthorityRefusal) → AreBytes bytes → result ≢ Err refusals.Memory
    → StepsBy result s s' (row s retired (message_in bytes) said) → note_by bytes result ≡ noted (asked_in (message_in bytes)) retired (outcome_by result)
note-is s s' retired bytes said result are some steps = by (message_in bytes) refl steps
  where
    by : (read : Result Message ℕ) → message_in bytes ≡ read → StepsBy result s s' (row s retired read said) → note_by bytes result ≡ noted (asked_in read) retired (outcome_by result)
    by (Ok m) at h = ap (λ b. cond b (answered_by result) None) (bytes-ask bytes m are at) ∙ message-note s s' retired m said result some h
    by (Err place) at h = subst (λ (r : Result Unsigned AuthorityRefusal). note_by bytes r ≡ None) (refused-so s s' (refusals.Form place) result some h)
        (none-either (asks_to_endorse bytes))

-- ---- a check as contracts see it

module _ {C : Type 0} (told : C → Option Told) (answers : C → List check.CheckAnswer) where
  abbrev parts : Option C → Option CheckParts
  parts check = option_map (check_told told answers) check

  -- what is noted is what the check answered
  answer-of : (old : Option C) (asked : Option Approved) (result : Result Unsigned AuthorityRefusal) → result ≢ Err refusals.Memory
      → IfSome old (λ o. IfSome asked (λ a. SaysAsTold (told o) (answers o) a result)) → IsAnswerOf (parts old) asked (noted asked (is_none old) (outcome_by result))
  answer-of None None result some h = refl
  answer-of None (Some a) result some h = refl
  answer-of (Some o) None result some h = refl
  answer-of (Some o) (Some a) result some h = as-told told answers (Some o) (Some a) result some h

  -- and by it a message that asks the check is answered
  says-so : (old : Option C) (asked : Option Approved) (says : Outcome) → says_to says (parts old) asked ≡ says_to (unwrap_or (noted asked (is_none old) says) No) (parts old) asked
  says-so None None says = refl
  says-so None (Some a) says = refl
  says-so (Some o) None says = refl
  says-so (Some o) (Some a) says = refl

  -- the note of a call
  pub note-of : (old new : Option C) (s s' : AuthorityState) (bytes : List ℕ) (result : Result Unsigned AuthorityRefusal) → AreBytes bytes → result ≢ Err refusals.Memory
      → ChecksBy told answers old new (asked_in (message_in bytes)) result → StepsBy result s s' (row s (is_none old) (message_in bytes) (outcome_by result))
      → IsAnswerOf (parts old) (asked_in (message_in bytes)) (note_by bytes result)
  note-of old new s s' bytes result are some by steps =
      subst (IsAnswerOf (parts old) (asked_in (message_in bytes))) (sym (note-is s s' (is_none old) bytes (outcome_by result) result are some steps))
      (answer-of old (asked_in (message_in bytes)) result some by.by)

  -- the row's answer is that by the note
  reply-is : (old new : Option C) (s s' : AuthorityState) (bytes : List ℕ) (result : Result Unsigned AuthorityRefusal) → AreBytes bytes → result ≢ Err refusals.Memory
      → ChecksBy told answers old new (asked_in (message_in bytes)) result → StepsBy result s s' (row s (is_none old) (message_in bytes) (outcome_by result))
      → row s (is_none old) (message_in bytes) (outcome_by result) ≡ authority_reply (unwrap_or (note_by bytes result) No) s (parts old) (message_in bytes)
  reply-is old new s s' bytes result are some by steps =
      let m : Result Message ℕ = message_in bytes in
      let says : Outcome = outcome_by result in
      let note : note_by bytes result ≡ noted (asked_in m) (is_none old) says = note-is s s' (is_none old) bytes says result are some steps in
      ap (λ b. row s b m says) (sym (none-mapped (check_told told answers) old))
      ∙ said-row s (parts old) m says (as-told told answers old (asked_in m) result some by.by)
      ∙ ap (row s (is_none (parts old)) m) (says-so old (asked_in m) says)
      ∙ ap (λ (o : Option Outcome). authority_reply (unwrap_or o No) s (parts old) m) (sym note)

-- ---- a call by its row's answer

alike : (s s' : AuthorityState) (asked : Option Approved) (answer : AuthorityAnswer) (result : Result Unsigned AuthorityRefusal) → result ≢ Err refusals.Memory → StepsBy result s s' answer
    → (xs : List check.CheckAnswer) → answers_behind xs asked answer ≡ answers_behind xs asked result
alike s s' None answer result some steps xs = refl
alike s s' (Some a) answer (Ok unsigned) some steps xs = ap (answers_after xs a) steps
alike s s' (Some a) answer (Err r) some steps xs =
    ap (answers_after xs a) (is-refused s s' answer r (λ e. some (ap (λ (x : AuthorityRefusal). Err x) e)) steps) ∙ after-alike (AuthorityState × Unsigned) Unsigned xs a r

replied-so : (s s' : AuthorityState) (k : Option CheckParts) (answer : AuthorityAnswer) (result : Result Unsigned AuthorityRefusal) → result ≢ Err refusals.Memory → StepsBy result s s' answer
    → authority_replied s k answer ≡ (coded result, an_authority s' k)
replied-so s s' k answer (Ok unsigned) some steps = ap (authority_replied s k) steps
replied-so s s' k answer (Err r) some steps =
    ap (authority_replied s k) (is-refused s s' answer r (λ e. some (ap (λ (x : AuthorityRefusal). Err x) e)) steps)
    ∙ ap (λ (l : AuthorityState). (Err (authority_code r), an_authority l k)) (sym steps.0)

-- the whole call
pub took-so : {C : Type 0} (told : C → Option Told) (answers : C → List check.CheckAnswer) (old new : Option C) (s s' : AuthorityState) (bytes : List ℕ) (result : Result Unsigned AuthorityRefusal)
    → AreBytes bytes → result ≢ Err refusals.Memory → ChecksBy told answers old new (asked_in (message_in bytes)) result
    → StepsBy result s s' (row s (is_none old) (message_in bytes) (outcome_by result))
    → authority_took (unwrap_or (note_by bytes result) No) s (option_map (check_told told answers) old) (message_in bytes)
    ≡ (coded result, an_authority s' (option_map (check_told told answers) new))
took-so told answers old new s s' bytes result are some by steps =
    let m : Result Message ℕ = message_in bytes in
    let k : Option CheckParts = option_map (check_told told answers) old in
    let answer : AuthorityAnswer = row s (is_none old) m (outcome_by result) in
    ap (λ (a : AuthorityAnswer). authority_replied s (check_after k m a) a) (sym (reply-is told answers old new s s' bytes result are some by steps))
    ∙ replied-so s s' (check_after k m answer) answer result some steps
    ∙ ap (λ (c : Option CheckParts). (coded result, an_authority s' c))
    (check-behind told answers old new (asked_in m) answer result by (alike s s' (asked_in m) answer result some steps))

-- where memory is wanting
pub waits-so : {C : Type 0} (told : C → Option Told) (answers : C → List check.CheckAnswer) (old new : Option C) (asked : Option Approved) (result : Result Unsigned AuthorityRefusal)
    → ChecksBy told answers old new asked result → result ≡ Err refusals.Memory
    → option_map (check_told told answers) new ≡ option_map (check_told told answers) old
waits-so told answers old new asked result by is = check-waits told answers old new asked (subst (ChecksBy told answers old new asked) is by)

pub stays-so : (s s' : AuthorityState) (answer : AuthorityAnswer) (result : Result Unsigned AuthorityRefusal) → StepsBy result s s' answer → result ≡ Err refusals.Memory → s' ≡ s
stays-so s s' answer (Ok unsigned) steps is = absurd cc
stays-so s s' answer (Err r) steps is = steps.0
