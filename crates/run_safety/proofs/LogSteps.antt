-- A log's row is a step of its party: its directory learns no more than the Roll of a note that it takes.
use Rattle.std.proofs.Common.{◌≡◌, ◌∙◌, ◌⊎◌, inl, inr, ℕ, List, refl, ap, subst, Bool, true, false, cond, Option, Some, None, Result, Ok, Err}
use Rattle.std.specs.Prelude.{Contains}
use Rattle.ar_base.specs.Bytes.{AreBytes}
use Rattle.ar_base.specs.Prefixes.{BeginsWith}
use Rattle.ar_cert.specs.Changes.{Change}
use Rattle.ar_claims.specs.Claimed.{claimed_in_bytes}
use Rattle.ar_claims.specs.Verified.{IsVerifiedIn}
use Rattle.ar_message.proofs.MessageLaws.{only_messages}
use Rattle.ar_message.specs.Messages.{message_in}
use Rattle.ar_message.specs.declared.lists.LogStatus.{LogStatus}
use Rattle.ar_message.specs.declared.message.Message.{Message}
use Rattle.ar_message.specs.declared.message.Message.TheVariants as messages
use Rattle.ar_statement.specs.Claims.{log_party, value_with}
use Rattle.ar_statement.specs.declared.party.Party.{Party}
use Rattle.ar_statement.specs.declared.text.SeenText.{SeenText}
use Rattle.client_rule.proofs.Claiming.{roll-claims}
use Rattle.client_rule.specs.Notes.{note_of}
use Rattle.epoch_log.specs.declared.entries.Newest.{Newest}
use Rattle.key_roll.specs.Book.{texts_of}
use Rattle.key_roll.specs.Entry.{roll_text, with_roll}
use Rattle.lms_tree.specs.KeyParts.{KeyParts}
use Rattle.lms_tree.specs.declared.public_key.LmsPublic.{LmsPublic}
use Rattle.ar_world.proofs.log_core.Claiming.{input-sees}
use Rattle.ar_world.proofs.log_core.Later.{row-adds}
use Rattle.ar_world.proofs.log_core.Passed.{passed}
use Rattle.ar_world.specs.log_core.Balloted.{ballot_checks, ballot_reply, ballot_row}
use Rattle.ar_world.specs.log_core.Claimed.{IsOwnSigned, claims_of}
use Rattle.ar_world.specs.log_core.Confirming.{ConfirmQuestion, confirm_checks, confirm_reply, confirm_row}
use Rattle.ar_world.specs.log_core.Decided.{Decision, decision_checks, decision_reply, decision_row}
use Rattle.ar_world.specs.log_core.Keyed.{IsPlain}
use Rattle.ar_world.specs.log_core.Learning.{is_learned, roll_note_checks, roll_note_reply, roll_note_row}
use Rattle.ar_world.specs.log_core.Passing.{passing_checks, passing_reply, passing_row}
use Rattle.ar_world.specs.log_core.Proposed.{Proposal, proposed_checks, proposed_reply, proposed_row}
use Rattle.ar_world.specs.log_core.Proposing.{proposing_checks, proposing_reply, proposing_row}
use Rattle.ar_world.specs.log_core.Rolling.{rolling_checks, rolling_reply, rolling_row}
use Rattle.ar_world.specs.log_core.Row.{IsLogInput, message_row, read_row, row}
use Rattle.ar_world.specs.log_core.Skipped.{skip_checks, skip_reply, skip_row}
use Rattle.ar_world.specs.log_core.State.{CoreState, Input, LogStep, passes, proposes, rolls, takes}
use Rattle.ar_world.specs.log_core.Stated.{status_checks, status_reply, status_row}
use Rattle.ar_world.specs.log_core.Submit.{queueing, submit_checks, submit_reply, submit_row}
use Rattle.log_sending.specs.Queued.{is_queued}
use Rattle.party_keys.specs.Learning.{Announced, after_adopting, after_learning, learned}
use Rattle.party_keys.specs.Signers.{Claimed}
use Rattle.party_keys.specs.declared.fault.LearnFault.{LearnFault}
use Rattle.party_keys.specs.declared.learning.Learned.{Learned}
use Rattle.vote_quorum.specs.declared.value.Value.{Value}
use Rattle.run_safety.specs.Own.{PartyParts}
use Rattle.run_safety.proofs.PartySteps.{Adopts, Learns, Steps}
use Rattle.run_safety.proofs.Notes.{note-noted}

-- ---- rows that leave a log's directory

abbrev SameKeys : CoreState → LogStep → Type 0
SameKeys s reply = reply.after.keys ≡ s.keys

submit-same : (s : CoreState) (change : Change) (reply : LogStep) → submit_row s change ≡ Ok reply → SameKeys s reply
unfolding submit_row
submit-same s change reply answer = subst (SameKeys s) (passed (submit_checks s change) (submit_reply s change) reply answer).1 (by (is_queued s.queue change))
  where
    by : (b : Bool) → (cond b s (queueing s change)).keys ≡ s.keys
    by true = refl
    by false = refl

proposed-same : (s : CoreState) (p : Proposal) (reply : LogStep) → proposed_row s p ≡ Ok reply → SameKeys s reply
unfolding proposed_row
proposed-same s p reply answer = subst (SameKeys s) (passed (proposed_checks s p) (proposed_reply s p) reply answer).1 refl

ballot-same : (s : CoreState) (log epoch : ℕ) (value : Value) (signature : List ℕ) (reply : LogStep) → ballot_row s log epoch value signature ≡ Ok reply → SameKeys s reply
unfolding ballot_row
ballot-same s log epoch value signature reply answer =
    subst (SameKeys s) (passed (ballot_checks s log epoch value signature) (ballot_reply s log value signature) reply answer).1 refl

status-same : (s : CoreState) (log epoch : ℕ) (value : Option Value) (signature : List ℕ) (reply : LogStep) → status_row s log epoch value signature ≡ Ok reply → SameKeys s reply
unfolding status_row
status-same s log epoch value signature reply answer =
    subst (SameKeys s) (passed (status_checks s log epoch value signature) (status_reply s log value signature) reply answer).1 refl

decision-same : (s : CoreState) (d : Decision) (reply : LogStep) → decision_row s d ≡ Ok reply → SameKeys s reply
unfolding decision_row
decision-same s d reply answer = subst (SameKeys s) (passed (decision_checks s d) (decision_reply s d) reply answer).1 refl

skip-same : (s : CoreState) (epoch : ℕ) (statuses : List LogStatus) (reply : LogStep) → skip_row s epoch statuses ≡ Ok reply → SameKeys s reply
unfolding skip_row
skip-same s epoch statuses reply answer = subst (SameKeys s) (passed (skip_checks s epoch statuses) (skip_reply s statuses) reply answer).1 refl

confirm-same : (s : CoreState) (asked : ConfirmQuestion) (reply : LogStep) → confirm_row s asked ≡ Ok reply → SameKeys s reply
unfolding confirm_row
confirm-same s asked reply answer = subst (SameKeys s) (passed (confirm_checks s asked) (confirm_reply s s.log.newest asked) reply answer).1 (by s.log.newest)
  where
    by : (newest : Option Newest) → SameKeys s (confirm_reply s newest asked)
    by None = refl
    by (Some w) = refl

pub proposing-same : (s : CoreState) (reply : LogStep) → proposing_row s ≡ Ok reply → SameKeys s reply
unfolding proposing_row
proposing-same s reply answer = subst (SameKeys s) (passed (proposing_checks s) (proposing_reply s) reply answer).1 refl

pub passing-same : (s : CoreState) (reply : LogStep) → passing_row s ≡ Ok reply → SameKeys s reply
unfolding passing_row
passing-same s reply answer = subst (SameKeys s) (passed (passing_checks s) (passing_reply s) reply answer).1 refl

-- ---- the row of a note

learnt : (r : Result Learned LearnFault) (party : Party) (generation : ℕ) → is_learned r party generation ≡ Ok tt → (how : Learned) × (r ≡ Ok how)
learnt (Ok how) party generation is = (how, refl)
learnt (Err fault) party generation is = absurd cc

-- what the directory is behind it, of a Roll that was learnt
record LearnsNote (s : CoreState) (a : Announced) (reply : LogStep) : Type 0 where
  how : Learned
  learns : learned s.keys a ≡ Ok how
  is : reply.after.keys ≡ after_learning s.keys a

note-learns : (s : CoreState) (a : Announced) (reply : LogStep) → roll_note_row s a ≡ Ok reply → LearnsNote s a reply
unfolding roll_note_row
note-learns s a reply answer =
    let h = passed (roll_note_checks s a) (roll_note_reply s a) reply answer in
    let how = learnt (learned s.keys a) a.party a.generation h.0.0 in
    record { how = how.0; learns = how.1; is = subst (λ (r : LogStep). r.after.keys ≡ after_learning s.keys a) h.1 refl }

-- ---- the row of bytes

-- the directory is as it was, or learnt
abbrev pub IsTaught : List ℕ → CoreState → LogStep → Type 0
IsTaught bytes s reply = (reply.after.keys ≡ s.keys) ⊎ Learns (claimed_in_bytes bytes) s.keys reply.after.keys

message-teaches : (s : CoreState) (bytes : List ℕ) (m : Message) (reply : LogStep) → AreBytes bytes → message_in bytes ≡ Ok m → message_row s m ≡ Ok reply → IsTaught bytes s reply
message-teaches s bytes (messages.EndorseAsk owner cert) reply are read answer = absurd cc
message-teaches s bytes (messages.Endorsed owner authority certificate signature) reply are read answer = absurd cc
message-teaches s bytes (messages.Submit change) reply are read answer = inl (submit-same s change reply answer)
message-teaches s bytes (messages.Propose log epoch base root changes signature) reply are read answer =
    inl (proposed-same s (record { log = log; epoch = epoch; value = value_with base root; changes = changes; signature = signature }) reply answer)
message-teaches s bytes (messages.Ballot log epoch base root signature) reply are read answer = inl (ballot-same s log epoch (value_with base root) signature reply answer)
message-teaches s bytes (messages.StatusNote log epoch value signature) reply are read answer =
    inl (status-same s log epoch value signature reply answer)
message-teaches s bytes (messages.Decision epoch base root changes votes) reply are read answer =
    inl (decision-same s (record { epoch = epoch; value = value_with base root; changes = changes; votes = votes }) reply answer)
message-teaches s bytes (messages.SkipNote epoch statuses) reply are read answer = inl (skip-same s epoch statuses reply answer)
message-teaches s bytes (messages.ConfirmAsk client name first second) reply are read answer =
    inl (confirm-same s (record { client = client; name = name; first = first; second = second }) reply answer)
message-teaches s bytes (messages.LogConfirmed part) reply are read answer = absurd cc
message-teaches s bytes (messages.HalfConfirmed part first_signature) reply are read answer = absurd cc
message-teaches s bytes (messages.Confirmation client epoch name root body log log_signature first first_signature second second_signature) reply are read answer = absurd cc
message-teaches s bytes (messages.RollNote party generation key signature) reply are read answer =
    let a : Announced = record { party = party; generation = generation; key = key; signature = signature } in
    let l = note-learns s a reply answer in
    inr (record {
      note = a;
      is = l.is;
      noted = note-noted party generation key signature ((only_messages bytes (messages.RollNote party generation key signature) are).0 read).0;
      claimed = roll-claims s.keys bytes a l.how (ap note_of read) l.learns;
    })

pub bytes-teach : (s : CoreState) (bytes : List ℕ) (reply : LogStep) → AreBytes bytes → read_row s (message_in bytes) ≡ Ok reply → IsTaught bytes s reply
bytes-teach s bytes reply are answer = by (message_in bytes) refl answer
  where
    by : (read : Result Message ℕ) → message_in bytes ≡ read → read_row s read ≡ Ok reply → IsTaught bytes s reply
    by (Ok m) read answer = message-teaches s bytes m reply are read answer
    by (Err place) read answer = absurd cc

-- ---- the row of an input

-- the directory behind each input but a Roll of the log's own
pub input-teaches : (s : CoreState) (input : Input) (reply : LogStep) → IsLogInput input → IsPlain input → row s input ≡ Ok reply
    → (reply.after.keys ≡ s.keys) ⊎ Learns (claims_of input) s.keys reply.after.keys
unfolding row
input-teaches s (takes bytes) reply are plain answer = bytes-teach s bytes reply are answer
input-teaches s proposes reply are plain answer = inl (proposing-same s reply answer)
input-teaches s passes reply are plain answer = inl (passing-same s reply answer)
input-teaches s (rolls key) reply are plain answer = absurd plain

-- behind that Roll it is the one with the log's next key
pub rolling-adopts : (s : CoreState) (key : LmsPublic) (reply : LogStep) → row s (rolls key) ≡ Ok reply → reply.after.keys ≡ after_adopting s.keys (log_party s.log.me) s.log.past.signed.newest key
unfolding row rolling_row
rolling-adopts s key reply answer =
    subst (λ (r : LogStep). r.after.keys ≡ after_adopting s.keys (log_party s.log.me) s.log.past.signed.newest key) (passed (rolling_checks s) (rolling_reply s key) reply answer).1 refl

-- and the book is the one with the Roll
pub rolling-book : (s : CoreState) (key : LmsPublic) (reply : LogStep) → row s (rolls key) ≡ Ok reply
    → reply.after.log.past.signed ≡ with_roll s.log.past.signed (roll_text (log_party s.log.me) s.log.past.signed.newest key)
unfolding row rolling_row
rolling-book s key reply answer =
    subst (λ (r : LogStep). r.after.log.past.signed ≡ with_roll s.log.past.signed (roll_text (log_party s.log.me) s.log.past.signed.newest key))
    (passed (rolling_checks s) (rolling_reply s key) reply answer).1 refl

-- ---- a step

-- what a log has by its core and its keys
abbrev pub core_parts : CoreState → List KeyParts → PartyParts
core_parts s keys = record { knows = s.keys; saw = s.log.past.seen; ring = keys; book = s.log.past.signed }

pub log-steps : (number : ℕ) (claims : List Claimed) (s : CoreState) (keys later : List KeyParts) (input : Input) (reply : LogStep) → s.log.me ≡ number → row s input ≡ Ok reply → BeginsWith later keys
    → ((c : Claimed) → Contains (claims_of input) c → Contains claims c)
    → (reply.after.keys ≡ s.keys) ⊎ (Learns claims s.keys reply.after.keys ⊎ Adopts (log_party number) s.keys (core_parts reply.after later))
    → Steps (log_party number) claims (core_parts s keys) (core_parts reply.after later)
log-steps number claims s keys later input reply me answer grows within knows = record {
  grows = let adds = row-adds s input reply answer in record { book = adds.signed; ring = grows; saw = adds.seen };
  sees = λ t there. by t (input-sees s input reply answer t there);
  knows = knows;
}
  where
    by : (t : SeenText) → Contains s.log.past.seen t ⊎ (IsOwnSigned s.log.me reply.after.log.past.signed t ⊎ IsVerifiedIn s.keys (claims_of input) t)
        → Contains s.log.past.seen t ⊎ (((t.party ≡ log_party number) × Contains (texts_of reply.after.log.past.signed) t.text) ⊎ IsVerifiedIn s.keys claims t)
    by t (inl before) = inl before
    by t (inr (inl its)) = inr (inl (its.0 ∙ ap log_party me, its.1))
    by t (inr (inr v)) = inr (inr (v.0, within (record { party = t.party; text = t.text; signature = v.0 }) v.1, v.2))
