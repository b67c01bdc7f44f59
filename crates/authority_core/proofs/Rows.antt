-- Each row leaves an honest authority.
use Rattle.std.proofs.Common.{◌≡◌, ℕ, ◌≤◌, List, Bool, true, false, Result, Ok, Err, refl, sym, subst}
use Rattle.std.specs.Prelude.{IsOk}
use Rattle.ar_base.specs.Bytes.{AreBytes}
use Rattle.ar_cert.specs.Certificate.{Certificate, digest_of}
use Rattle.ar_cert.proofs.Digests.{digest-fits}
use Rattle.ar_message.specs.Messages.{IsConfirming, IsMessage, message_in}
use Rattle.ar_message.proofs.MessageLaws.{only_messages}
use Rattle.ar_message.specs.declared.message.Confirming.{Confirming}
use Rattle.ar_message.specs.declared.message.Message.{Message}
use Rattle.ar_message.specs.declared.unsigned.Unsigned.{Unsigned}
use Rattle.ar_statement.specs.Ranges.{IsKeyText}
use Rattle.key_roll.specs.Due.{DueParts}
use Rattle.lms_tree.specs.PublicKey.{HasWidths, key_text}
use Rattle.lms_tree.specs.declared.public_key.LmsPublic.{LmsPublic}
use Rattle.owner_check.specs.declared.answer.Outcome.{Outcome}
use Rattle.owner_check.specs.declared.answer.Outcome.TheVariants.{Yes}
use Rattle.party_keys.specs.Directory.{Directory}
use Rattle.party_keys.specs.Learning.{Announced, after_adopting, after_learning, learned}
use Rattle.ar_statement.specs.Claims.{authority_party}
use Rattle.party_keys.specs.declared.fault.LearnFault.{LearnFault}
use Rattle.party_keys.specs.declared.learning.Learned.{Learned}
use Rattle.authority_core.specs.ConfirmRows.{half_claims, half_confirmed_row, log_claims, log_confirmed_row}
use Rattle.ar_message.specs.Shown.{shows}
use Rattle.authority_core.specs.Confirming.{parties_of, vote_count}
use Rattle.authority_core.specs.EndorseRow.{asked_of, endorse_row}
use Rattle.authority_core.specs.Honest.{HasAsked}
use Rattle.authority_core.specs.Record.{AuthorityRecord}
use Rattle.authority_core.specs.RollRows.{LearnsBy, RollsBy, learning, roll_row}
use Rattle.authority_core.specs.Row.{message_row, row}
use Rattle.authority_core.specs.State.{AuthorityAnswer, AuthorityState, EntersBy, IsAuthority, StepsBy}
use Rattle.authority_core.specs.declared.refusal.AuthorityRefusal.{AuthorityRefusal}
use Rattle.authority_core.proofs.Growing.{asked-has}
use Rattle.authority_core.proofs.Keeping.{endorse-keeps, half-keeps, log-keeps, note-keeps, passed-many, passed-shown, roll-keeps}
use Rattle.authority_core.proofs.EachRow.{AnswersWith, answered, endorse-gives, first-gives, message-gives, rolled-with, second-gives}

-- what is true of where an authority stands behind an answer
abbrev pub Leaves : AuthorityAnswer → Type 0
Leaves answer = AnswersWith (λ later sent. IsAuthority later) answer

pub log-row-keeps : (s : AuthorityState) (part : Confirming) → IsAuthority s → IsConfirming part → Leaves (log_confirmed_row s part)
log-row-keeps s part is range =
    answered (λ later sent. IsAuthority later) (log_confirmed_row s part) (first-gives (λ later sent. IsAuthority later) s part (λ due passed entered. log-keeps s part is range passed))

pub half-row-keeps : (s : AuthorityState) (part : Confirming) (first_signature : List ℕ) → IsAuthority s → IsConfirming part → Leaves (half_confirmed_row s part first_signature)
half-row-keeps s part first_signature is range =
    answered (λ later sent. IsAuthority later) (half_confirmed_row s part first_signature)
    (second-gives (λ later sent. IsAuthority later) s part first_signature (λ due passed entered. half-keeps s part first_signature is range passed))

pub roll-row-keeps : (s : AuthorityState) (next : LmsPublic) → IsAuthority s → IsKeyText (key_text next) → HasWidths next → Leaves (roll_row s next)
roll-row-keeps s next is text widths = rolled-with (λ later sent. IsAuthority later) s next (λ due rolls. roll-keeps s next due is rolls text widths)

pub message-keeps : (s : AuthorityState) (retired : Bool) (m : Message) (said : Outcome) → IsAuthority s → IsMessage m → Leaves (message_row s retired m said)
message-keeps s retired m said is range later sent e = message-gives (λ n next out. IsMessage n → IsAuthority next) s retired m said (record {
  endorses = λ owner cert due stays yes entered whole. endorse-keeps s (asked_of cert) is (digest-fits cert);
  first = λ part due passed entered whole. log-keeps s part is whole passed;
  second = λ part signature due passed entered whole. half-keeps s part signature is whole.0 passed;
  notes = λ a how learnt whole. note-keeps s a how is learnt;
}) later sent e range

-- bytes that are read are a message
pub read-keeps : (s : AuthorityState) (retired : Bool) (bytes : List ℕ) (said : Outcome) → IsAuthority s → AreBytes bytes → Leaves (row s retired (message_in bytes) said)
read-keeps s retired bytes said is are = by (message_in bytes) refl
  where
    by : (read : Result Message ℕ) → message_in bytes ≡ read → Leaves (row s retired read said)
    by (Ok m) at later sent e = message-keeps s retired m said is ((only_messages bytes m are).0 at).0 later sent e
    by (Err place) at later sent e = absurd cc

-- ---- what an answer Ok shows

pub said-yes : (s : AuthorityState) (owner : ℕ) (cert : Certificate) (said : Outcome)
    → AnswersWith (λ later sent. (said ≡ Yes) × HasAsked later.past.asked (digest_of cert)) (endorse_row s false owner cert said)
said-yes s owner cert said =
    let P : AuthorityState → Unsigned → Type 0 = λ later sent. (said ≡ Yes) × HasAsked later.past.asked (digest_of cert) in
    answered P (endorse_row s false owner cert said) (endorse-gives P s false owner cert said (λ due stays yes entered. (yes, asked-has s.past.asked (asked_of cert))))

-- a quorum voted for what the path shows
abbrev AsVoted : AuthorityState → Confirming → Type 0
AsVoted s part = (s.keys.quorum ≤ vote_count part) × (shows part ≡ true)

pub log-row-many : (s : AuthorityState) (part : Confirming) → AnswersWith (λ later sent. AsVoted s part) (log_confirmed_row s part)
log-row-many s part =
    answered (λ later sent. AsVoted s part) (log_confirmed_row s part) (first-gives (λ later sent. AsVoted s part) s part (λ due passed entered.
    (passed-many s part.first (parties_of part part.second) (log_claims part) part passed, passed-shown s part.first (parties_of part part.second) (log_claims part) part passed)))

pub half-row-many : (s : AuthorityState) (part : Confirming) (first_signature : List ℕ) → AnswersWith (λ later sent. AsVoted s part) (half_confirmed_row s part first_signature)
half-row-many s part first_signature =
    answered (λ later sent. AsVoted s part) (half_confirmed_row s part first_signature) (second-gives (λ later sent. AsVoted s part) s part first_signature (λ due passed entered. (
      passed-many s part.second (parties_of part part.first) (half_claims part first_signature) part passed,
      passed-shown s part.second (parties_of part part.first) (half_claims part first_signature) part passed,
    )))

-- ---- a call that steps by a row

-- where a call leaves an authority that stepped by a row which leaves one
pub steps-keep : (result : Result Unsigned AuthorityRefusal) (old new : AuthorityState) (answer : AuthorityAnswer) → IsAuthority old → StepsBy result old new answer → Leaves answer → IsAuthority new
steps-keep (Ok sent) old new answer is steps leaves = leaves new sent steps
steps-keep (Err refusal) old new answer is steps leaves = subst IsAuthority (sym steps.0) is

-- so does one that enters what is due, where the record that it is to be is an honest one's
pub entered-keeps : (s : AuthorityState) (made : Result DueParts AuthorityRefusal) (later : AuthorityRecord) (expected : Result DueParts AuthorityRefusal) (after : AuthorityRecord) → IsAuthority s
    → EntersBy made s.past later expected after → IsAuthority (record s { past = after }) → IsAuthority (record s { past = later })
entered-keeps s (Ok due) later expected after is e next = subst (λ (past : AuthorityRecord). IsAuthority (record s { past = past })) (sym e.1) next
entered-keeps s (Err refusal) later expected after is e next = subst (λ (past : AuthorityRecord). IsAuthority (record s { past = past })) (sym e.0) is

pub learnt-keeps : (s : AuthorityState) (result : Result (Unit {0}) AuthorityRefusal) (later : AuthorityRecord) (keys : Directory) (a : Announced) → IsAuthority s
    → LearnsBy result s.past later s.keys keys a → IsAuthority (record s { keys = keys; past = later })
learnt-keeps s (Ok u) later keys a is e =
    subst (λ (k : Directory). IsAuthority (record s { keys = k; past = later })) (sym e.2)
    (subst (λ (past : AuthorityRecord). IsAuthority (record s { keys = after_learning s.keys a; past = past })) (sym e.1) (by (learned s.keys a) refl e.0))
  where
    by : (r : Result Learned LearnFault) → learned s.keys a ≡ r → IsOk r → IsAuthority (learning s a)
    by (Ok l) at ok = note-keeps s a l is at
    by (Err fault) at ok = absurd cc
learnt-keeps s (Err refusal) later keys a is e =
    subst (λ (k : Directory). IsAuthority (record s { keys = k; past = later })) (sym e.1) (subst (λ (past : AuthorityRecord). IsAuthority (record s { past = past })) (sym e.0) is)

pub rolled-keeps : (s : AuthorityState) (made : Result DueParts AuthorityRefusal) (later : AuthorityRecord) (keys : Directory) (next : LmsPublic) → IsAuthority s
    → IsKeyText (key_text next) → HasWidths next → RollsBy made s.past later s.keys keys s.me next → IsAuthority (record s { keys = keys; past = later })
rolled-keeps s (Ok due) later keys next is text widths e =
    subst (λ (k : Directory). IsAuthority (record s { keys = k; past = later })) (sym e.2)
    (subst (λ (past : AuthorityRecord). IsAuthority (record s { keys = after_adopting s.keys (authority_party s.me) s.past.signed.newest next; past = past })) (sym e.1)
    (roll-keeps s next due is e.0 text widths))
rolled-keeps s (Err refusal) later keys next is text widths e =
    subst (λ (k : Directory). IsAuthority (record s { keys = k; past = later })) (sym e.1) (subst (λ (past : AuthorityRecord). IsAuthority (record s { past = past })) (sym e.0) is)
