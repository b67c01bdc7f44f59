-- The rows that end an epoch on another log's word, confirm, learn or roll keep what is kept of a core.
use Rattle.std.proofs.Common.{◌≡◌, ℕ, ◌+◌, ◌<◌, ◌≤◌, List, [], ◌∷◌, length, refl, sym, ap, ◌∙◌, subst, arith, Bool, true, false, cond, Option, Some, None}
use Rattle.std.specs.Prelude.{All, Ok, Err, Result, IfSome, IsTrue, flat_map, map, slice_get}
use Rattle.std.specs.List.{AllByRecursion}
use Rattle.std.specs.List.Sorted.{IsStrictlyIncreasing}
use Rattle.std.proofs.lemmas.List.{length-map}
use Rattle.std.proofs.lemmas.List.Elements.{All-from_recursion, All-weaker}
use mathlib.Core.List.{map-map}
use Rattle.key_roll.specs.Entry.{roll_text}
use Rattle.ar_base.specs.Bytes.{AreBytes, IsDigest}
use Rattle.ar_base.proofs.Lists.{of-both-lists}
use Rattle.ar_names.specs.Names.{IsName}
use Rattle.ar_cert.specs.Changes.{Change, IsChange}
use Rattle.ar_cert.proofs.Digests.{digest-fits-if-there}
use Rattle.ar_message.specs.Lists as lists
use Rattle.ar_message.specs.Lists.{AreVotes, IsStatus, IsVote}
use Rattle.ar_message.proofs.MessageLaws.{only_messages}
use Rattle.ar_message.specs.Messages.{IsMessage, message_in}
use Rattle.ar_message.specs.declared.message.Message.{Message}
use Rattle.ar_message.specs.declared.message.Message.TheVariants as messages
use Rattle.ar_message.specs.declared.lists.LogStatus.{LogStatus}
use Rattle.ar_message.specs.declared.lists.Vote.{Vote}
use Rattle.ar_statement.specs.declared.party.Party.{Party}
use Rattle.ar_statement.specs.declared.text.SeenText.{SeenText}
use Rattle.ar_statement.specs.Claims.{log_party, value_with}
use Rattle.ar_statement.specs.Ranges.{IsKeyText, IsValue, is_readable}
use Rattle.lms_tree.specs.PublicKey.{key_text}
use Rattle.lms_tree.specs.declared.public_key.LmsPublic.{LmsPublic}
use Rattle.party_keys.specs.Directory.{Directory, keys_of}
use Rattle.party_keys.specs.Learning.{Announced, after_adopting, after_learning, learned, learned_if, roll_claim}
use Rattle.party_keys.specs.Signers.{Claimed, is_known}
use Rattle.party_keys.specs.Signatures.{verified}
use Rattle.party_keys.specs.declared.fault.VerifyFault.{VerifyFault}
use Rattle.party_keys.specs.declared.fault.VerifyFault.TheVariants as verify_fault
use Rattle.vote_quorum.specs.Numbers.{distinct_count}
use Rattle.vote_quorum.specs.Statuses.{AreStatuses, Status, logs_of}
use Rattle.vote_quorum.specs.declared.value.Value.{Value}
use Rattle.vote_quorum.proofs.Silence.{distinct_logs}
use Rattle.domain_table.specs.Applying.{apply}
use Rattle.domain_table.specs.Tables.{Table, chain_of, newest}
use Rattle.domain_table.specs.Tree.{root_of}
use Rattle.domain_table.proofs.Trees.{root-digest}
use Rattle.ar_council.proofs.Lists.{Within}
use Rattle.ar_council.proofs.Members.{council-adopting, council-learning, member}
use Rattle.ar_council.proofs.Seeing.{seen-keeps}
use Rattle.ar_council.specs.Council.{IsMember, council_of}
use Rattle.ar_council.specs.Seen.{seen_after}
use Rattle.party_keys.specs.Seen.{seen_of}
use Rattle.epoch_log.proofs.Acting.{kept-confirming, kept-rolling}
use Rattle.epoch_log.proofs.Called.{kept-decide, kept-learn, kept-skip}
use Rattle.epoch_log.proofs.Read.{table-skipped}
use Rattle.epoch_log.specs.Calls.{AreEndorsers, MayDecide, MaySkip, SignedStatus, after_confirm, after_skip, confirmation_text, decision_seen, seeing, statuses_seen}
use Rattle.epoch_log.specs.Ending.{decided, may_end, skipped}
use Rattle.epoch_log.specs.Right.{IsRightDecision, SawEndorsements}
use Rattle.epoch_log.specs.State.{IsKeptLog, KeepsNewest, IsNewestDecision, LogState, epoch_of, reports_of, table_of}
use Rattle.epoch_log.specs.declared.entries.Newest.{Newest}
use Rattle.log_sending.specs.Closings.{still_wanted}
use Rattle.log_core.specs.Confirming.{ConfirmQuestion, confirm_checks, confirm_reply, confirm_row, confirmed_draft, leaf_to_confirm}
use Rattle.log_core.specs.Decided.{Decision, decision_checks, decision_reply, decision_row, decision_signers, decision_state, plain_votes}
use Rattle.log_core.specs.Learning.{is_learned, roll_note_checks, roll_note_reply, roll_note_row}
use Rattle.log_core.specs.Row.{IsLogInput, message_row, read_row, row}
use Rattle.log_core.specs.Rolling.{rolling_checks, rolling_reply, rolling_row}
use Rattle.ar_claims.specs.Lists.{endorsements_in, claimed_votes}
use Rattle.log_core.specs.Skipped.{signed_statuses, skip_checks, skip_reply, skip_row}
use Rattle.log_core.specs.Kept.{IsKeptCore, WasQueued}
use Rattle.log_core.specs.State.{CoreState, Input, LogStep, passes, proposes, rolls, takes}
use Rattle.log_sending.proofs.Ascending.{each-fits, rises}
use Rattle.log_sending.proofs.Checked.{a-quorum, its-base, none-wins, not-last, room}
use Rattle.log_core.proofs.Passed.{passed}
use Rattle.log_sending.proofs.Judged.{applied}
use Rattle.log_core.proofs.KeptCore.{core-kept, open-kept, saw-more, wanted-all, wanted-few}
use Rattle.log_core.proofs.KeptRows.{kept-ballot_row, kept-passing, kept-proposed, kept-proposing, kept-status_row, kept-submit, of-council}
use Rattle.log_sending.proofs.Sendable.{confirm-can, roll-can, seeing-can, skip-can}
use Rattle.log_core.proofs.Decided.{decide-can}
use Rattle.log_core.proofs.Verified.{queued-adopted, queued-learnt, verified-has}
use Rattle.log_core.proofs.Replies.{KeepsReply}
use Rattle.log_core.proofs.Statuses.{are-statuses}
use Rattle.log_sending.proofs.SignerLaws.{all-endorsers, each-known, voters}

-- the log behind has the same council, and saw no less
abbrev Grows : LogState → LogState → Type 0
Grows s after = (after.council ≡ s.council) × Within s.past.seen after.past.seen

decided-grows : (b : Bool) (s : LogState) (more : List SeenText) (changes : List Change) (value : Value) (votes : List (ℕ × Option (List ℕ)))
    → Grows s (cond b (decided (seeing s more) changes value votes) (seeing s more))
decided-grows true s more changes value votes = (refl, seen-keeps more s.past.seen)
decided-grows false s more changes value votes = (refl, seen-keeps more s.past.seen)

skipped-grows : (b : Bool) (s : LogState) (more : List SeenText) (statuses : List Status) → Grows s (cond b (skipped (seeing s more) statuses) (seeing s more))
skipped-grows true s more statuses = (refl, seen-keeps more s.past.seen)
skipped-grows false s more statuses = (refl, seen-keeps more s.past.seen)

-- the queue, or what is still wanted of it
either-all : (P : Change → Type 0) (b : Bool) (after : LogState) (queue : List Change) → All P queue → All P (cond b (still_wanted after queue) queue)
either-all P true after queue all = wanted-all P after queue all
either-all P false after queue all = all

either-few : (b : Bool) (after : LogState) (queue : List Change) → length (cond b (still_wanted after queue) queue) ≤ length queue
either-few true after queue = wanted-few after queue
either-few false after queue = omega arith

-- ---- Decision

-- votes as statuses that report nothing: who votes
abbrev silent : List Vote → List Status
silent votes = map (λ (v : Vote). (v.log, None)) votes

silent-logs : (votes : List Vote) → logs_of (silent votes) ≡ map (λ (v : Vote). v.log) votes
silent-logs votes = map-map (λ (s : Status). s.0) (λ (v : Vote). (v.log, None)) votes

plain-logs : (votes : List Vote) → map (λ (v : ℕ × List ℕ). v.0) (plain_votes votes) ≡ logs_of (silent votes)
plain-logs votes = map-map (λ (v : ℕ × List ℕ). v.0) (λ (v : Vote). (v.log, v.signature)) votes ∙ sym (silent-logs votes)

silent-many : (votes : List Vote) → length (silent votes) ≡ length votes
silent-many votes = length-map votes (λ (v : Vote). (v.log, None))

silent-below : (n : ℕ) (votes : List Vote) → AllByRecursion (λ (v : Vote). v.log < n) votes → AllByRecursion (λ log. log < n) (logs_of (silent votes))
silent-below n [] all = tt
silent-below n (v ∷ votes) all = (all.0, silent-below n votes all.1)

plain-below : (n : ℕ) (votes : List Vote) → AllByRecursion (λ (v : Vote). v.log < n) votes → AllByRecursion (λ (v : ℕ × List ℕ). v.0 < n) (plain_votes votes)
plain-below n [] all = tt
plain-below n (v ∷ votes) all = (all.0, plain-below n votes all.1)

-- so many logs vote as there are votes
voters-many : (n : ℕ) (votes : List Vote) → AreVotes votes → AllByRecursion (λ (v : Vote). v.log < n) votes
    → distinct_count (map (λ (v : ℕ × List ℕ). v.0) (plain_votes votes)) ≡ length votes
voters-many n votes are below =
    let quiet : AreStatuses n (silent votes) = record {
      ascending = subst IsStrictlyIncreasing (sym (silent-logs votes)) (rises (λ (v : Vote). v.log) IsVote 0 votes are.1);
      below = All-from_recursion (λ log. log < n) (logs_of (silent votes)) (silent-below n votes below);
    } in
    ap distinct_count (plain-logs votes) ∙ distinct_logs n (silent votes) quiet ∙ silent-many votes

-- where no check refuses a decision, the log may end the epoch by it
pub decision-may : (s : CoreState) (d : Decision) → IsKeptCore s → IsValue d.value → All IsChange d.changes → AreVotes d.votes
    → AllByRecursion (λ c. c ≡ Ok tt) (decision_checks s d) → MayDecide s.log d.value d.changes (plain_votes d.votes)
decision-may s d kept digests are votes hold = record {
  can = record {
    reaches = record { table = leads.0; applied = leads.1.0; is_root = leads.1.1 };
    endorsers = of-council (λ c. All (AreEndorsers c) d.changes) s kept (all-endorsers s.keys d.changes knows.1);
    logs = of-council (λ c. All (λ (v : ℕ × List ℕ). v.0 < c.logs) (plain_votes d.votes)) s kept
        (All-from_recursion (λ (v : ℕ × List ℕ). v.0 < length s.keys.logs) (plain_votes d.votes) (plain-below (length s.keys.logs) d.votes below));
    many = subst (λ n. s.log.council.quorum ≤ n) (sym (voters-many (length s.keys.logs) d.votes votes below)) (a-quorum s.log.council (length d.votes) hold.1.1.1.1.1.0);
  };
  from_base = its-base s.log d.value.base hold.1.1.0;
  are_changes = are;
  are_digests = digests;
}
  where
    knows : AllByRecursion (λ x. is_known s.keys x.party ≡ true) (claimed_votes d.epoch d.value d.votes) × AllByRecursion (λ x. is_known s.keys x.party ≡ true) (flat_map endorsements_in d.changes)
    knows = of-both-lists (λ (x : Claimed). is_known s.keys x.party ≡ true) (claimed_votes d.epoch d.value d.votes) (flat_map endorsements_in d.changes)
        (each-known s.keys (decision_signers d) hold.0)

    below : AllByRecursion (λ (v : Vote). v.log < length s.keys.logs) d.votes
    below = voters s.keys d.epoch d.value d.votes knows.0

    leads : (after : Table) × ((apply (table_of s.log) (epoch_of s.log) d.changes ≡ Some after) × (root_of after ≡ d.value.root))
    leads = applied (table_of s.log) (epoch_of s.log) d.changes d.value.root hold.1.1.1.0 hold.1.1.1.1.0

pub kept-decision : (s : CoreState) (d : Decision) (reply : LogStep) → IsKeptCore s → IsValue d.value → All IsChange d.changes → AreVotes d.votes
    → decision_row s d ≡ Ok reply → IsKeptCore reply.after
unfolding decision_row
kept-decision s d reply kept digests are votes answer = subst KeepsReply h.1 here
  where
    h : AllByRecursion (λ c. c ≡ Ok tt) (decision_checks s d) × (decision_reply s d ≡ reply)
    h = passed (decision_checks s d) (decision_reply s d) reply answer

    may : MayDecide s.log d.value d.changes (plain_votes d.votes)
    may = decision-may s d kept digests are votes h.0

    more : List SeenText
    more = decision_seen s.log d.value d.changes (plain_votes d.votes)

    grows : Grows s.log (decision_state s d)
    grows = decided-grows (may_end s.log.past) s.log more d.changes d.value (map (λ (v : ℕ × List ℕ). (v.0, Some v.1)) (plain_votes d.votes))

    queue : List Change
    queue = cond (may_end s.log.past) (still_wanted (decision_state s d) s.queue) s.queue

    seen : List SeenText
    seen = (decision_state s d).past.seen

    here : IsKeptCore (decision_reply s d).after
    here =
        core-kept s (decision_state s d) queue kept (kept-decide s.log d.value d.changes (plain_votes d.votes) kept.log may)
        (decide-can s.log d.value d.changes d.votes kept.sendable votes) grows.0
        (either-all (SawEndorsements seen) (may_end s.log.past) (decision_state s d) s.queue (saw-more s.log.past.seen seen grows.1 s.queue kept.endorsed))
        (either-all (WasQueued s.keys) (may_end s.log.past) (decision_state s d) s.queue kept.queued)
        (omega (arith, either-few (may_end s.log.past) (decision_state s d) s.queue, kept.few))

-- ---- SkipNote

stated-values : (statuses : List LogStatus) → AllByRecursion IsStatus statuses → AllByRecursion (λ (x : Status). IfSome x.1 IsValue) (reports_of (signed_statuses statuses))
stated-values [] all = tt
stated-values (x ∷ statuses) all = (all.0.1, stated-values statuses all.1)

pub kept-skip_row : (s : CoreState) (epoch : ℕ) (statuses : List LogStatus) (reply : LogStep) → IsKeptCore s → lists.AreLogStatuses statuses
    → skip_row s epoch statuses ≡ Ok reply → IsKeptCore reply.after
unfolding skip_row
kept-skip_row s epoch statuses reply kept are answer = subst KeepsReply h.1 here
  where
    h : AllByRecursion (λ c. c ≡ Ok tt) (skip_checks s epoch statuses) × (skip_reply s statuses ≡ reply)
    h = passed (skip_checks s epoch statuses) (skip_reply s statuses) reply answer

    signed : List SignedStatus
    signed = signed_statuses statuses

    may : MaySkip s.log signed
    may = record {
      can = record {
        of_logs = of-council (λ c. AreStatuses c.logs (reports_of signed)) s kept (are-statuses s.keys epoch statuses are h.0.0);
        excludes = none-wins s.log.council (reports_of signed) h.0.1.1.0;
      };
      values = All-from_recursion (λ (x : Status). IfSome x.1 IsValue) (reports_of signed)
          (stated-values statuses (each-fits (λ (x : LogStatus). x.log) IsStatus 0 statuses are.1));
    }

    grows : Grows s.log (after_skip s.log signed)
    grows = skipped-grows (may_end s.log.past) s.log (statuses_seen (epoch_of s.log) signed) (reports_of signed)

    here : IsKeptCore (skip_reply s statuses).after
    here =
        core-kept s (after_skip s.log signed) s.queue kept (kept-skip s.log signed kept.log may) (skip-can s.log signed kept.sendable) grows.0
        (saw-more s.log.past.seen (after_skip s.log signed).past.seen grows.1 s.queue kept.endorsed) kept.queued kept.few

pub skip-leaves : (s : CoreState) (epoch : ℕ) (statuses : List LogStatus) (reply : LogStep) → IsKeptCore s → skip_row s epoch statuses ≡ Ok reply
    → (table_of reply.after.log ≡ table_of s.log) × (reply.after.queue ≡ s.queue)
unfolding skip_row
skip-leaves s epoch statuses reply kept answer =
    let h = passed (skip_checks s epoch statuses) (skip_reply s statuses) reply answer in
    subst (λ (r : LogStep). (table_of r.after.log ≡ table_of s.log) × (r.after.queue ≡ s.queue)) h.1 (by (may_end s.log.past), refl)
  where
    seen : LogState
    seen = seeing s.log (statuses_seen (epoch_of s.log) (signed_statuses statuses))

    by : (b : Bool) → table_of (cond b (skipped seen (reports_of (signed_statuses statuses))) seen) ≡ table_of s.log
    by true = table-skipped seen (reports_of (signed_statuses statuses)) kept.log.honest.ends_in_order
    by false = refl

-- ---- ConfirmAsk

decided-root : (s : LogState) (w : Newest) → IsKeptLog s → s.newest ≡ Some w → IsDigest w.root
decided-root s w kept is =
    let last : IsNewestDecision s.council s.past.seen s.past.ended w = subst (KeepsNewest s.council s.past.seen s.past.ended) is kept.newest in
    let right : IsRightDecision s.council s.past.seen s.past.ended w.epoch last.changes w.root = kept.honest.decides_rightly w.epoch last.changes w.root last.decided in
    subst IsDigest right.leads.reaches.is_root (root-digest right.leads.reaches.table)

confirm-by : (s : CoreState) (asked : ConfirmQuestion) (w : Option Newest) → s.log.newest ≡ w → IsKeptCore s → IsName asked.name → leaf_to_confirm s w asked.name ≡ Ok tt
    → IsKeptCore (confirm_reply s w asked).after
confirm-by s asked None is kept named leaf = kept
confirm-by s asked (Some w) is kept named leaf =
    open-kept s (after_confirm s.log w asked.name) (confirmed_draft s w asked ∷ []) kept
    (kept-confirming s.log w asked.name kept.log
    (record { is_newest = is; is_name = named; certificate = digest-fits-if-there (newest (chain_of (table_of s.log) asked.name)); root = decided-root s.log w kept.log is })
    (room s.log.past.signed (confirmation_text s.log w asked.name ∷ []) leaf))
    (confirm-can s.log w asked.name kept.sendable) refl (λ x there. there)

pub kept-confirm : (s : CoreState) (asked : ConfirmQuestion) (reply : LogStep) → IsKeptCore s → IsName asked.name → confirm_row s asked ≡ Ok reply → IsKeptCore reply.after
unfolding confirm_row
kept-confirm s asked reply kept named answer =
    let h = passed (confirm_checks s asked) (confirm_reply s s.log.newest asked) reply answer in
    subst KeepsReply h.1 (confirm-by s asked s.log.newest refl kept named h.0.1.1.0)

-- ---- RollNote

pub learnt-verified : (v : Result (Unit {0}) VerifyFault) (known : Option LmsPublic) (key : LmsPublic) (party : Party) (generation : ℕ)
    → is_learned (learned_if v known key) party generation ≡ Ok tt → v ≡ Ok tt
learnt-verified (Ok u) known key party generation is = refl
learnt-verified (Err (verify_fault.Unknown unknown)) known key party generation is = absurd cc
learnt-verified (Err (verify_fault.Bad k)) known key party generation is = absurd cc

note-member : (keys : Directory) (a : Announced) → is_learned (learned keys a) a.party a.generation ≡ Ok tt → IsMember (council_of keys) a.party
unfolding learned verified
note-member keys a is =
    let text : List ℕ = roll_text a.party a.generation a.key in
    let fine : verified keys a.party text a.signature ≡ Ok tt =
    learnt-verified (verified keys a.party text a.signature) (slice_get (keys_of keys a.party) (a.generation + 1)) a.key a.party a.generation is in
    member keys a.party (verified-has (keys_of keys a.party) a.party text a.signature fine)

pub kept-roll_note : (s : CoreState) (a : Announced) (reply : LogStep) → IsKeptCore s → roll_note_row s a ≡ Ok reply → IsKeptCore reply.after
unfolding roll_note_row
kept-roll_note s a reply kept answer = subst KeepsReply h.1 (record {
  log = kept-learn s.log a kept.log (of-council (λ c. IsMember c a.party) s kept (note-member s.keys a h.0.0));
  sendable = seeing-can s.log more kept.sendable;
  council = kept.council ∙ sym (council-learning s.keys a);
  logs = kept.logs;
  endorsed = saw-more s.log.past.seen (seen_after s.log.past.seen more) (seen-keeps more s.log.past.seen) s.queue kept.endorsed;
  queued = All-weaker (WasQueued s.keys) (WasQueued (after_learning s.keys a)) (queued-learnt s.keys a) s.queue kept.queued;
  few = kept.few;
  len = kept.len;
})
  where
    h : AllByRecursion (λ c. c ≡ Ok tt) (roll_note_checks s a) × (roll_note_reply s a ≡ reply)
    h = passed (roll_note_checks s a) (roll_note_reply s a) reply answer

    more : List SeenText
    more = seen_of a.party (roll_claim a) ∷ []

-- ---- the order to roll

pub kept-rolling_row : (s : CoreState) (key : LmsPublic) (reply : LogStep) → IsKeptCore s → IsKeyText (key_text key) → IsTrue (is_readable (key_text key))
    → rolling_row s key ≡ Ok reply → IsKeptCore reply.after
unfolding rolling_row
kept-rolling_row s key reply kept is-key readable answer = subst KeepsReply h.1 (record {
  log = kept-rolling s.log (key_text key) kept.log (record {
    not_last = omega (arith, kept.log.honest.signs_what_it_tells.sound.last, not-last s.log.past.signed h.0.0);
    is_key = is-key;
    readable = readable;
  });
  sendable = roll-can s.log (key_text key) kept.sendable;
  council = kept.council ∙ sym (council-adopting s.keys (log_party s.log.me) s.log.past.signed.newest key);
  logs = kept.logs;
  endorsed = kept.endorsed;
  queued = All-weaker (WasQueued s.keys) (WasQueued (after_adopting s.keys (log_party s.log.me) s.log.past.signed.newest key))
      (queued-adopted s.keys s.log.me s.log.past.signed.newest key) s.queue kept.queued;
  few = kept.few;
  len = kept.len;
})
  where
    h : AllByRecursion (λ c. c ≡ Ok tt) (rolling_checks s) × (rolling_reply s key ≡ reply)
    h = passed (rolling_checks s) (rolling_reply s key) reply answer

-- ---- each message

pub kept-message : (s : CoreState) (m : Message) (reply : LogStep) → IsKeptCore s → IsMessage m → message_row s m ≡ Ok reply → IsKeptCore reply.after
kept-message s (messages.EndorseAsk owner cert) reply kept is answer = absurd cc
kept-message s (messages.Endorsed owner authority certificate signature) reply kept is answer = absurd cc
kept-message s (messages.Submit change) reply kept is answer = kept-submit s change reply kept is answer
kept-message s (messages.Propose log epoch base root changes signature) reply kept is answer =
    kept-proposed s (record { log = log; epoch = epoch; value = value_with base root; changes = changes; signature = signature }) reply kept
    is.1.1.0 is.1.1.1.0 answer
kept-message s (messages.Ballot log epoch base root signature) reply kept is answer =
    kept-ballot_row s log epoch (value_with base root) signature reply kept is.1.1.1 answer
kept-message s (messages.StatusNote log epoch value signature) reply kept is answer =
    kept-status_row s log epoch value signature reply kept is.1.1.0 is.1.1.1 answer
kept-message s (messages.Decision epoch base root changes votes) reply kept is answer =
    kept-decision s (record { epoch = epoch; value = value_with base root; changes = changes; votes = votes }) reply kept
    is.1.0 (All-from_recursion IsChange changes is.1.1.0.1) is.1.1.1 answer
kept-message s (messages.SkipNote epoch statuses) reply kept is answer = kept-skip_row s epoch statuses reply kept is.1 answer
kept-message s (messages.ConfirmAsk client name first second) reply kept is answer =
    kept-confirm s (record { client = client; name = name; first = first; second = second }) reply kept is.1.0 answer
kept-message s (messages.LogConfirmed part) reply kept is answer = absurd cc
kept-message s (messages.HalfConfirmed part first_signature) reply kept is answer = absurd cc
kept-message s (messages.Confirmation client epoch name root body log log_signature first first_signature second second_signature) reply kept is answer = absurd cc
kept-message s (messages.RollNote party generation key signature) reply kept is answer =
    kept-roll_note s (record { party = party; generation = generation; key = key; signature = signature }) reply kept answer

-- ---- each input

read-kept : (s : CoreState) (bytes : List ℕ) (read : Result Message ℕ) (reply : LogStep) → message_in bytes ≡ read → IsKeptCore s → AreBytes bytes
    → read_row s read ≡ Ok reply → IsKeptCore reply.after
read-kept s bytes (Ok m) reply was kept are answer = kept-message s m reply kept ((only_messages bytes m are).0 was).0 answer
read-kept s bytes (Err place) reply was kept are answer = absurd cc

pub kept-row : (s : CoreState) (input : Input) (reply : LogStep) → IsKeptCore s → IsLogInput input → row s input ≡ Ok reply → IsKeptCore reply.after
unfolding row
kept-row s (takes bytes) reply kept is answer = read-kept s bytes (message_in bytes) reply refl kept is answer
kept-row s proposes reply kept is answer = kept-proposing s reply kept answer
kept-row s passes reply kept is answer = kept-passing s reply kept answer
kept-row s (rolls key) reply kept is answer = kept-rolling_row s key reply kept is.0 is.1 answer
