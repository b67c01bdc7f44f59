-- An authority's row leaves its directory, or learns the Roll of a note that it takes.
use Rattle.std.proofs.Common.{◌≡◌, ◌∙◌, ◌⊎◌, inl, inr, ℕ, ◌+◌, List, [], ◌∷◌, ◌++◌, length, Bool, true, false, Result, Ok, Err, refl, sym, ap, subst}
use Rattle.std.specs.Prelude.{Contains, map, slice_get}
use Rattle.std.specs.Result.{result_and}
use Rattle.ar_base.proofs.Prefixes.{begins_itself}
use Rattle.ar_base.specs.Bytes.{AreBytes}
use Rattle.ar_cert.specs.Certificate.{Certificate}
use Rattle.ar_claims.specs.Claimed.{claimed_by, claimed_in_bytes}
use Rattle.ar_claims.specs.Verified.{IsVerifiedIn}
use Rattle.ar_message.proofs.MessageLaws.{only_messages}
use Rattle.ar_message.specs.Filling.{nothing}
use Rattle.ar_message.specs.Messages.{message_in, message_text}
use Rattle.ar_message.specs.declared.address.Address.{Address}
use Rattle.ar_message.specs.declared.address.Address.TheVariants.{Logs, One}
use Rattle.ar_message.specs.declared.message.Confirming.{Confirming}
use Rattle.ar_message.specs.declared.message.Message.{Message}
use Rattle.ar_message.specs.declared.message.Message.TheVariants.{Ballot, ConfirmAsk, Confirmation, Decision, EndorseAsk, Endorsed, HalfConfirmed, LogConfirmed, Propose, RollNote, SkipNote, StatusNote, Submit}
use Rattle.ar_message.specs.declared.unsigned.Unsigned.{Unsigned}
use Rattle.ar_statement.specs.Claims.{authority_party, client_party}
use Rattle.ar_statement.specs.declared.text.SeenText.{SeenText}
use Rattle.authority_core.proofs.Claiming.{roll-row-sees, row-sees}
use Rattle.authority_core.proofs.Keeping.{due-state, same-state}
use Rattle.authority_core.proofs.Later.{rolling_step, row_step}
use Rattle.authority_core.specs.ConfirmRows.{confirmation_with, half_claims, half_confirmed_row, log_claims, log_confirmed_row}
use Rattle.authority_core.specs.Confirming.{confirming_checks, confirming_too, confirming_with, kept_of, parties_of}
use Rattle.authority_core.specs.EndorseRow.{asked_of, endorse_due, endorse_row, endorsing}
use Rattle.authority_core.specs.RollRows.{learning, roll_by, roll_message, roll_note_by, roll_note_row, roll_row, rolling}
use Rattle.authority_core.specs.Row.{message_row, row}
use Rattle.authority_core.specs.State.{AuthorityAnswer, AuthorityState, sends}
use Rattle.authority_core.specs.declared.entries.Approved.{Approved}
use Rattle.authority_core.specs.declared.entries.Kept.{Kept}
use Rattle.authority_core.specs.declared.refusal.AuthorityRefusal.{AuthorityRefusal}
use Rattle.client_rule.proofs.Claiming.{roll-claims}
use Rattle.client_rule.specs.Notes.{note_of}
use Rattle.key_roll.specs.Book.{texts_of}
use Rattle.key_roll.specs.Due.{DueParts}
use Rattle.key_roll.specs.Entry.{announced}
use Rattle.key_roll.specs.declared.fault.RollFault.{RollFault}
use Rattle.lms_tree.specs.Key.{public_of}
use Rattle.lms_tree.specs.KeyParts.{KeyParts}
use Rattle.lms_tree.specs.declared.public_key.LmsPublic.{LmsPublic}
use Rattle.owner_check.specs.declared.answer.Outcome.{Outcome}
use Rattle.party_keys.specs.Learning.{Announced, after_adopting, after_learning, learned}
use Rattle.party_keys.specs.Signers.{Claimed, seen_in}
use Rattle.party_keys.specs.declared.fault.LearnFault.{LearnFault}
use Rattle.party_keys.specs.declared.learning.Learned.{Learned}
use Rattle.run_safety.proofs.Notes.{note-noted}
use Rattle.run_safety.proofs.PartySteps.{Adopts, Learns, Steps, get-last, learns-more}
use Rattle.run_safety.specs.Own.{PartyParts}

-- ---- rows that leave an authority's directory

-- where a row answers, the authority's directory is as it was
abbrev SameBy : AuthorityState → AuthorityAnswer → Type 0
SameBy s answer = (later : AuthorityState) (sent : Unsigned) → answer ≡ Ok (later, sent) → later.keys ≡ s.keys

-- where checks stand before it
ordered-same : (s : AuthorityState) (checks : Result (Unit {0}) AuthorityRefusal) (answer : AuthorityAnswer) → SameBy s answer → SameBy s (result_and checks answer)
ordered-same s (Ok u) answer same = same
ordered-same s (Err refusal) answer same = λ later sent is. absurd cc

endorsing-same : (s : AuthorityState) (owner : ℕ) (a : Approved) (said : Outcome) → SameBy s (endorsing s owner a said)
unfolding endorsing
endorsing-same s owner a said later sent is = ap (λ (x : AuthorityState). x.keys) (due-state (endorse_due s.me s.past a said) _ _ later sent is)

endorse-same : (s : AuthorityState) (retired : Bool) (owner : ℕ) (cert : Certificate) (said : Outcome) → SameBy s (endorse_row s retired owner cert said)
endorse-same s true owner cert said later sent is = absurd cc
endorse-same s false owner cert said later sent is = endorsing-same s owner (asked_of cert) said later sent is

confirming-same : (s : AuthorityState) (seen : List SeenText) (k : Kept) (to : Address) (message : List ℕ → Message) → SameBy s (confirming_too s seen k to message)
unfolding confirming_with
confirming-same s seen k to message later sent is = ap (λ (x : AuthorityState). x.keys) (due-state _ _ _ later sent is)

log-same : (s : AuthorityState) (part : Confirming) → SameBy s (log_confirmed_row s part)
unfolding log_confirmed_row
log-same s part =
    ordered-same s (confirming_checks s part.first (parties_of part part.second) (log_claims part) part) _
    (confirming-same s (map seen_in (log_claims part)) (kept_of part) (One (authority_party part.second)) (λ signature. HalfConfirmed part signature))

half-same : (s : AuthorityState) (part : Confirming) (first_signature : List ℕ) → SameBy s (half_confirmed_row s part first_signature)
unfolding half_confirmed_row
half-same s part first_signature =
    ordered-same s (confirming_checks s part.second (parties_of part part.first) (half_claims part first_signature) part) _
    (confirming-same s (map seen_in (half_claims part first_signature)) (kept_of part) (One (client_party part.client)) (confirmation_with part first_signature))

-- ---- the row of a note

record LearnsNote (s : AuthorityState) (a : Announced) (later : AuthorityState) : Type 0 where
  how : Learned
  learns : learned s.keys a ≡ Ok how
  is : later.keys ≡ after_learning s.keys a

note-learns : (s : AuthorityState) (a : Announced) (later : AuthorityState) (sent : Unsigned) → roll_note_row s a ≡ Ok (later, sent) → LearnsNote s a later
unfolding roll_note_row
note-learns s a later sent is = by (learned s.keys a) refl is
  where
    by : (r : Result Learned LearnFault) → learned s.keys a ≡ r → roll_note_by s a r ≡ Ok (later, sent) → LearnsNote s a later
    by (Ok how) at h = record { how = how; learns = at; is = ap (λ (x : AuthorityState). x.keys) (same-state (learning s a, nothing) (later, sent) h) }
    by (Err fault) at h = absurd cc

-- ---- each row

-- the directory is as it was, or learnt
abbrev pub IsTaught : List ℕ → AuthorityState → AuthorityState → Type 0
IsTaught bytes s later = (later.keys ≡ s.keys) ⊎ Learns (claimed_in_bytes bytes) s.keys later.keys

message-teaches : (s : AuthorityState) (retired : Bool) (bytes : List ℕ) (m : Message) (said : Outcome) (later : AuthorityState) (sent : Unsigned) → AreBytes bytes → message_in bytes ≡ Ok m
    → message_row s retired m said ≡ Ok (later, sent) → IsTaught bytes s later
unfolding message_row
message-teaches s retired bytes (EndorseAsk owner cert) said later sent are read is = inl (endorse-same s retired owner cert said later sent is)
message-teaches s retired bytes (LogConfirmed part) said later sent are read is = inl (log-same s part later sent is)
message-teaches s retired bytes (HalfConfirmed part first_signature) said later sent are read is = inl (half-same s part first_signature later sent is)
message-teaches s retired bytes (RollNote party generation key signature) said later sent are read is =
    let a : Announced = record { party = party; generation = generation; key = key; signature = signature } in
    let l = note-learns s a later sent is in
    inr (record {
      note = a;
      is = l.is;
      noted = note-noted party generation key signature ((only_messages bytes (RollNote party generation key signature) are).0 read).0;
      claimed = roll-claims s.keys bytes a l.how (ap note_of read) l.learns;
    })
message-teaches s retired bytes (Endorsed owner authority certificate signature) said later sent are read is = absurd cc
message-teaches s retired bytes (Submit change) said later sent are read is = absurd cc
message-teaches s retired bytes (Propose log epoch base root changes signature) said later sent are read is = absurd cc
message-teaches s retired bytes (Ballot log epoch base root signature) said later sent are read is = absurd cc
message-teaches s retired bytes (StatusNote log epoch value signature) said later sent are read is = absurd cc
message-teaches s retired bytes (Decision epoch base root changes votes) said later sent are read is = absurd cc
message-teaches s retired bytes (SkipNote epoch statuses) said later sent are read is = absurd cc
message-teaches s retired bytes (ConfirmAsk client name first second) said later sent are read is = absurd cc
message-teaches s retired bytes (Confirmation client epoch name root body log log_signature first first_signature second second_signature) said later sent are read is = absurd cc

pub row-teaches : (s : AuthorityState) (retired : Bool) (bytes : List ℕ) (read : Result Message ℕ) (said : Outcome) (later : AuthorityState) (sent : Unsigned) → AreBytes bytes → message_in bytes ≡ read
    → row s retired read said ≡ Ok (later, sent) → IsTaught bytes s later
row-teaches s retired bytes (Ok m) said later sent are was is = message-teaches s retired bytes m said later sent are was is
row-teaches s retired bytes (Err place) said later sent are was is = absurd cc

-- ---- the row of its own Roll

-- the state behind it is the one with the authority's next key
pub roll-rolls : (s : AuthorityState) (next : LmsPublic) (later : AuthorityState) (sent : Unsigned) → roll_row s next ≡ Ok (later, sent) → later ≡ rolling s next
unfolding roll_row
roll-rolls s next later sent is = by (announced s.past.signed (authority_party s.me) next) is
  where
    by : (r : Result DueParts RollFault) → roll_by s next r ≡ Ok (later, sent) → later ≡ rolling s next
    by (Ok due) h = same-state (rolling s next, sends s.signature_len Logs (message_text (roll_message s next)) due) (later, sent) h
    by (Err fault) h = absurd cc

-- ---- a step

-- what an authority has by its state and its keys
abbrev pub state_parts : AuthorityState → List KeyParts → PartyParts
state_parts s keys = record { knows = s.keys; saw = s.past.seen; ring = keys; book = s.past.signed }

-- a step that takes bytes
pub took-steps : (number : ℕ) (claims : List Claimed) (s : AuthorityState) (keys : List KeyParts) (retired : Bool) (bytes : List ℕ) (said : Outcome) (later : AuthorityState) (sent : Unsigned)
    → AreBytes bytes → row s retired (message_in bytes) said ≡ Ok (later, sent) → ((c : Claimed) → Contains (claimed_in_bytes bytes) c → Contains claims c)
    → Steps (authority_party number) claims (state_parts s keys) (state_parts later keys)
unfolding claimed_in_bytes
took-steps number claims s keys retired bytes said later sent are answer within = record {
  grows = let adds = (row_step s retired (message_in bytes) said later sent answer).grows in record { book = adds.signed; ring = begins_itself keys; saw = adds.seen };
  sees = λ t there. sees t (row-sees s retired (message_in bytes) said later sent answer t there);
  knows = knows (row-teaches s retired bytes (message_in bytes) said later sent are refl answer);
}
  where
    sees : (t : SeenText) → Contains s.past.seen t ⊎ IsVerifiedIn s.keys (claimed_by (message_in bytes)) t
        → Contains s.past.seen t ⊎ (((t.party ≡ authority_party number) × Contains (texts_of later.past.signed) t.text) ⊎ IsVerifiedIn s.keys claims t)
    sees t (inl before) = inl before
    sees t (inr v) = inr (inr (v.0, within (record { party = t.party; text = t.text; signature = v.0 }) v.1, v.2))

    knows : IsTaught bytes s later → (later.keys ≡ s.keys) ⊎ (Learns claims s.keys later.keys ⊎ Adopts (authority_party number) s.keys (state_parts later keys))
    knows (inl same) = inl same
    knows (inr l) = inr (inl (learns-more (claimed_in_bytes bytes) claims s.keys later.keys within l))

-- its own Roll
pub roll-steps : (number : ℕ) (claims : List Claimed) (s : AuthorityState) (keys : List KeyParts) (next : KeyParts) (later : AuthorityState) (sent : Unsigned) → s.me ≡ number
    → length keys ≡ s.past.signed.newest + 1 → roll_row s (public_of next) ≡ Ok (later, sent)
    → Steps (authority_party number) claims (state_parts s keys) (state_parts later (keys ++ next ∷ []))
roll-steps number claims s keys next later sent me many answer = record {
  grows = let adds = (rolling_step s (public_of next) later sent answer).grows in record { book = adds.signed; ring = (next ∷ [], refl); saw = adds.seen };
  sees = λ t there. inl (subst (λ (seen : List SeenText). Contains seen t) (roll-row-sees s (public_of next) later sent answer) there);
  knows = inr (inr (record {
    generation = s.past.signed.newest;
    key = next;
    there = ap (slice_get (keys ++ next ∷ [])) (sym many) ∙ get-last keys next;
    is = ap (λ (x : AuthorityState). x.keys) (roll-rolls s (public_of next) later sent answer)
        ∙ ap (λ n. after_adopting s.keys (authority_party n) s.past.signed.newest (public_of next)) me;
  }));
}
