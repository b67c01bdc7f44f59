-- What an authority's directory learns in a step, and that a directory which learns stays one.
use Rattle.std.proofs.Common.{◌≡◌, ℕ, ◌+◌, ◌<◌, ◌≤◌, ◌*◌, List, [], ◌∷◌, ◌++◌, length, take, Bool, true, false, Some, None, Result, Ok, Err, refl, sym, subst, arith, Option}
use Rattle.std.specs.Prelude.{map, slice_set}
use Rattle.std.specs.Result.{result_and}
use Rattle.std.proofs.lemmas.List.{length-append, length-set}
use Rattle.std.proofs.lemmas.List.Elements.{All-set}
use Rattle.ar_cert.specs.Certificate.{Certificate}
use Rattle.ar_message.specs.Filling.{nothing}
use Rattle.ar_message.specs.declared.address.Address.{Address}
use Rattle.ar_message.specs.declared.address.Address.TheVariants.{One}
use Rattle.ar_message.specs.declared.message.Confirming.{Confirming}
use Rattle.ar_message.specs.declared.message.Message.{Message}
use Rattle.ar_message.specs.declared.message.Message.TheVariants.{Ballot, ConfirmAsk, Confirmation, Decision, EndorseAsk, Endorsed, HalfConfirmed, LogConfirmed, Propose, RollNote, SkipNote, StatusNote, Submit}
use Rattle.ar_message.specs.declared.unsigned.Unsigned.{Unsigned}
use Rattle.ar_statement.specs.Claims.{authority_party, client_party}
use Rattle.ar_statement.specs.declared.party.Role.{Role}
use Rattle.ar_statement.specs.declared.party.Role.TheVariants.{Authority, Client, LogServer, Owner}
use Rattle.ar_statement.specs.declared.text.SeenText.{SeenText}
use Rattle.ar_world.specs.Learning.{knows_by}
use Rattle.authority_core.proofs.Keeping.{due-state, same-state}
use Rattle.authority_core.specs.ConfirmRows.{confirmation_with, half_claims, half_confirmed_row, log_claims, log_confirmed_row}
use Rattle.authority_core.specs.Confirming.{confirming_checks, confirming_too, confirming_with, kept_of, parties_of}
use Rattle.authority_core.specs.EndorseRow.{asked_of, endorse_due, endorse_row, endorsing}
use Rattle.authority_core.specs.RollRows.{learning, roll_note_by, roll_note_row}
use Rattle.authority_core.specs.Row.{message_row, row}
use Rattle.authority_core.specs.State.{AuthorityAnswer, AuthorityState}
use Rattle.authority_core.specs.declared.entries.Approved.{Approved}
use Rattle.authority_core.specs.declared.entries.Kept.{Kept}
use Rattle.authority_core.specs.declared.refusal.AuthorityRefusal.{AuthorityRefusal}
use Rattle.lms_tree.specs.declared.public_key.LmsPublic.{LmsPublic}
use Rattle.owner_check.specs.declared.answer.Outcome.{Outcome}
use Rattle.party_keys.specs.Directory.{Directory, IsDirectory, keys_at}
use Rattle.party_keys.specs.Learning as learn
use Rattle.party_keys.specs.Learning.{Announced, after_all, learned, next_behind, with_next_of}
use Rattle.party_keys.specs.Signers.{seen_in}
use Rattle.party_keys.specs.declared.fault.LearnFault.{LearnFault}
use Rattle.party_keys.specs.declared.learning.Learned.{Learned}
use Rattle.party_keys.specs.declared.learning.Learned.TheVariants.{Again, New}

-- ---- what an authority learns

-- one is the authority behind what it learnt
abbrev Learns : AuthorityState → AuthorityState → Type 0
Learns s later = (announced : List Announced) × (later.keys ≡ after_all s.keys announced)

-- where a row answers, the authority's directory learnt
abbrev pub LearnsBy : AuthorityState → AuthorityAnswer → Type 0
LearnsBy s answer = (later : AuthorityState) (sent : Unsigned) → answer ≡ Ok (later, sent) → Learns s later

-- where checks stand before it
ordered-learns : (s : AuthorityState) (checks : Result (Unit {0}) AuthorityRefusal) (answer : AuthorityAnswer) → LearnsBy s answer → LearnsBy s (result_and checks answer)
ordered-learns s (Ok u) answer learns = learns
ordered-learns s (Err refusal) answer learns = λ later sent is. absurd cc

endorsing-learns : (s : AuthorityState) (owner : ℕ) (a : Approved) (said : Outcome) → LearnsBy s (endorsing s owner a said)
unfolding endorsing
endorsing-learns s owner a said later sent is = subst (Learns s) (sym (due-state (endorse_due s.me s.past a said) _ _ later sent is)) ([], refl)

endorse-learns : (s : AuthorityState) (retired : Bool) (owner : ℕ) (cert : Certificate) (said : Outcome) → LearnsBy s (endorse_row s retired owner cert said)
endorse-learns s true owner cert said later sent is = absurd cc
endorse-learns s false owner cert said later sent is = endorsing-learns s owner (asked_of cert) said later sent is

confirming-learns : (s : AuthorityState) (seen : List SeenText) (k : Kept) (to : Address) (message : List ℕ → Message) → LearnsBy s (confirming_too s seen k to message)
unfolding confirming_with
confirming-learns s seen k to message later sent is = subst (Learns s) (sym (due-state _ _ _ later sent is)) ([], refl)

log-learns : (s : AuthorityState) (part : Confirming) → LearnsBy s (log_confirmed_row s part)
unfolding log_confirmed_row
log-learns s part =
    ordered-learns s (confirming_checks s part.first (parties_of part part.second) (log_claims part) part) _
    (confirming-learns s (map seen_in (log_claims part)) (kept_of part) (One (authority_party part.second)) (λ signature. HalfConfirmed part signature))

half-learns : (s : AuthorityState) (part : Confirming) (first_signature : List ℕ) → LearnsBy s (half_confirmed_row s part first_signature)
unfolding half_confirmed_row
half-learns s part first_signature =
    ordered-learns s (confirming_checks s part.second (parties_of part part.first) (half_claims part first_signature) part) _
    (confirming-learns s (map seen_in (half_claims part first_signature)) (kept_of part) (One (client_party part.client)) (confirmation_with part first_signature))

note-learns : (s : AuthorityState) (a : Announced) → LearnsBy s (roll_note_row s a)
unfolding roll_note_row
note-learns s a later sent is = by (learned s.keys a) is
  where
    by : (r : Result Learned LearnFault) → roll_note_by s a r ≡ Ok (later, sent) → Learns s later
    by (Ok l) h = let same : later ≡ learning s a = same-state (learning s a, nothing) (later, sent) h in subst (Learns s) (sym same) (a ∷ [], refl)
    by (Err fault) h = absurd cc

message-learns : (s : AuthorityState) (retired : Bool) (m : Message) (said : Outcome) → LearnsBy s (message_row s retired m said)
unfolding message_row
message-learns s retired (EndorseAsk owner cert) said later sent is = endorse-learns s retired owner cert said later sent is
message-learns s retired (LogConfirmed part) said later sent is = log-learns s part later sent is
message-learns s retired (HalfConfirmed part first_signature) said later sent is = half-learns s part first_signature later sent is
message-learns s retired (RollNote party generation key signature) said later sent is =
    note-learns s (record { party = party; generation = generation; key = key; signature = signature }) later sent is
message-learns s retired (Endorsed owner authority certificate signature) said later sent is = absurd cc
message-learns s retired (Submit change) said later sent is = absurd cc
message-learns s retired (Propose log epoch base root changes signature) said later sent is = absurd cc
message-learns s retired (Ballot log epoch base root signature) said later sent is = absurd cc
message-learns s retired (StatusNote log epoch value signature) said later sent is = absurd cc
message-learns s retired (Decision epoch base root changes votes) said later sent is = absurd cc
message-learns s retired (SkipNote epoch statuses) said later sent is = absurd cc
message-learns s retired (ConfirmAsk client name first second) said later sent is = absurd cc
message-learns s retired (Confirmation client epoch name root body log log_signature first first_signature second second_signature) said later sent is = absurd cc

pub row-learns : (s : AuthorityState) (retired : Bool) (m : Result Message ℕ) (said : Outcome) → LearnsBy s (row s retired m said)
row-learns s retired (Ok m) said later sent is = message-learns s retired m said later sent is
row-learns s retired (Err place) said later sent is = absurd cc

-- ---- a directory that learns

some-key : (xs : List LmsPublic) (key : LmsPublic) → 0 < length (xs ++ key ∷ [])
some-key xs key = let long = length-append xs (key ∷ []) in omega (arith, long)

next-directory : (role : Role) (keys : Directory) (number generation : ℕ) (key : LmsPublic) → IsDirectory keys → IsDirectory (with_next_of role keys number generation key)
next-directory LogServer keys number generation key d =
    let new : List LmsPublic = next_behind generation key (keys_at keys.logs number) in
    let same : length (slice_set keys.logs number new) ≡ length keys.logs = length-set keys.logs number new in
    record {
      logs_least = subst (λ n. 3 ≤ n) (sym same) d.logs_least;
      logs_most = subst (λ n. n ≤ 16) (sym same) d.logs_most;
      authorities_least = d.authorities_least;
      authorities_most = d.authorities_most;
      quorum_least = subst (λ n. n + 2 < 2 * keys.quorum) (sym same) d.quorum_least;
      quorum_most = subst (λ n. keys.quorum ≤ n) (sym same) d.quorum_most;
      logs_keys = All-set (λ known. 0 < length known) keys.logs number new (some-key (take (generation + 1) (keys_at keys.logs number)) key) d.logs_keys;
      authorities_keys = d.authorities_keys;
    }
next-directory Authority keys number generation key d =
    let new : List LmsPublic = next_behind generation key (keys_at keys.authorities number) in
    let same : length (slice_set keys.authorities number new) ≡ length keys.authorities = length-set keys.authorities number new in
    record {
      logs_least = d.logs_least;
      logs_most = d.logs_most;
      authorities_least = subst (λ n. 3 ≤ n) (sym same) d.authorities_least;
      authorities_most = subst (λ n. n ≤ 16) (sym same) d.authorities_most;
      quorum_least = d.quorum_least;
      quorum_most = d.quorum_most;
      logs_keys = d.logs_keys;
      authorities_keys = All-set (λ known. 0 < length known) keys.authorities number new (some-key (take (generation + 1) (keys_at keys.authorities number)) key) d.authorities_keys;
    }
next-directory Owner keys number generation key d = d
next-directory Client keys number generation key d = d

learning-directory : (keys : Directory) (a : Announced) → IsDirectory keys → IsDirectory (learn.after_learning keys a)
learning-directory keys a d = by (learned keys a)
  where
    by : (r : Result Learned LearnFault) → IsDirectory (learn.learning r keys a)
    by (Ok New) = next-directory a.party.role keys a.party.number a.generation a.key d
    by (Ok Again) = d
    by (Err fault) = d

pub knows-directory : (keys : Directory) (note : Option Announced) → IsDirectory keys → IsDirectory (knows_by keys note)
knows-directory keys None d = d
knows-directory keys (Some a) d = learning-directory keys a d
