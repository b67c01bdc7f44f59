-- What is kept of a core, where what is kept of the log is.
use Rattle.std.proofs.Common.{◌≡◌, ℕ, ◌<◌, ◌≤◌, List, length, refl, sym, ◌∙◌, subst, arith, Bool, true, false, cond, Option, Some, None}
use Rattle.std.specs.Prelude.{All}
use Rattle.std.specs.Result.{is_ok}
use Rattle.std.proofs.lemmas.List.Elements.{All-filter, All-weaker}
use Rattle.std.proofs.lemmas.List.Sums.{count_by-le-length, length-filter}
use Rattle.ar_cert.specs.Certificate.{digest_of}
use Rattle.ar_cert.specs.Changes.{Change}
use Rattle.ar_cert.specs.Judging.{endorsers_of}
use Rattle.ar_statement.specs.declared.text.SeenText.{SeenText}
use Rattle.ar_statement.specs.Claims.{authority_party, endorse}
use Rattle.party_keys.specs.Seen.{Saw}
use Rattle.domain_table.specs.Applying.{judge}
use Rattle.ar_council.proofs.Lists.{Within}
use Rattle.ar_council.specs.Council.{Council}
use Rattle.epoch_log.specs.Ending.{closed, closed_by, closed_by_statuses, decided, excludes_all, has_quorum, may_end, own_vote, skipped, votes_for}
use Rattle.epoch_log.specs.Right.{SawEndorsements}
use Rattle.epoch_log.specs.State.{IsKeptLog, LogState, epoch_of, reports_of, table_of}
use Rattle.epoch_log.specs.Told.{value_of}
use Rattle.epoch_log.specs.declared.entries.Closing.{Closing}
use Rattle.epoch_log.specs.declared.entries.Closing.TheVariants as closings
use Rattle.epoch_log.specs.declared.entries.Voted.{Voted}
use Rattle.log_core.specs.Replies.{closing_reply, core_after, open_reply}
use Rattle.log_sending.specs.Closings.{queue_after, still_wanted}
use Rattle.log_sending.specs.Sending.{DraftMessage}
use Rattle.log_core.specs.Kept.{IsKeptCore, WasQueued}
use Rattle.log_sending.specs.Sendable.{CanBeSent}
use Rattle.log_core.specs.State.{CoreState}
use Rattle.log_sending.proofs.Sendable.{closes}

-- ---- endorsements that were seen

-- an endorser's endorsement of a change
abbrev Endorsed : List SeenText → Change → ℕ → Type 0
Endorsed seen change a = Saw seen (authority_party a) (endorse a (digest_of change.cert))

pub saw-more : (seen later : List SeenText) → Within seen later → (changes : List Change) → All (SawEndorsements seen) changes → All (SawEndorsements later) changes
saw-more seen later within changes all =
    All-weaker (SawEndorsements seen) (SawEndorsements later)
    (λ (change : Change) saw. All-weaker (Endorsed seen change) (Endorsed later change) (λ (a : ℕ) there. within _ there) (endorsers_of change) saw) changes all

-- ---- the closing rule leaves the council, what was seen, and the book

-- the log behind has the same council, saw the same, and signed the same
abbrev Same : LogState → LogState × Closing → Type 0
Same s x = (x.0.council ≡ s.council) × (x.0.past.seen ≡ s.past.seen) × (x.0.past.signed ≡ s.past.signed)

same-statuses : (s : LogState) → Same s (closed_by_statuses s)
same-statuses s = by (excludes_all s.council (reports_of s.statuses))
  where
    by : (b : Bool) → Same s (cond {A = LogState × Closing} b (skipped s (reports_of s.statuses), closings.Skipped s.statuses) (s, closings.Open))
    by true = (refl, refl, refl)
    by false = (refl, refl, refl)

same-by : (s : LogState) (own : Option Voted) → Same s (closed_by s own)
same-by s None = same-statuses s
same-by s (Some v) = by (has_quorum s v)
  where
    by : (b : Bool) → Same s (cond {A = LogState × Closing} b (decided s v.changes (value_of v) (votes_for s.votes (value_of v)), closings.Decided) (closed_by_statuses s))
    by true = (refl, refl, refl)
    by false = same-statuses s

pub closed-same : (s : LogState) → ((closed s).0.council ≡ s.council) × ((closed s).0.past.seen ≡ s.past.seen) × ((closed s).0.past.signed ≡ s.past.signed)
unfolding closed
closed-same s = by (may_end s.past)
  where
    by : (b : Bool) → Same s (cond {A = LogState × Closing} b (closed_by s (own_vote s.past.voted (epoch_of s))) (s, closings.Open))
    by true = same-by s (own_vote s.past.voted (epoch_of s))
    by false = (refl, refl, refl)

-- ---- the queue

pub wanted-all : (P : Change → Type 0) (after : LogState) (queue : List Change) → All P queue → All P (still_wanted after queue)
wanted-all P after queue all = All-filter (λ change. is_ok (judge (table_of after) (epoch_of after) change)) P queue all

queue-all : (P : Change → Type 0) (closing : Closing) (after : LogState) (queue : List Change) → All P queue → All P (queue_after closing after queue)
queue-all P closings.Open after queue all = all
queue-all P closings.Decided after queue all = wanted-all P after queue all
queue-all P (closings.Skipped statuses) after queue all = all

pub wanted-few : (after : LogState) (queue : List Change) → length (still_wanted after queue) ≤ length queue
wanted-few after queue =
    let p : Change → Bool = λ change. is_ok (judge (table_of after) (epoch_of after) change) in
    subst (λ n. n ≤ length queue) (sym (length-filter p queue)) (count_by-le-length p queue)

queue-few : (closing : Closing) (after : LogState) (queue : List Change) → length (queue_after closing after queue) ≤ length queue
queue-few closings.Open after queue = omega arith
queue-few closings.Decided after queue = wanted-few after queue
queue-few (closings.Skipped statuses) after queue = omega arith

-- ---- a core

pub core-kept : (s : CoreState) (after : LogState) (queue : List Change) → IsKeptCore s → IsKeptLog after → CanBeSent after → after.council ≡ s.log.council
    → All (SawEndorsements after.past.seen) queue → All (WasQueued s.keys) queue → length queue ≤ 256
    → IsKeptCore (core_after s after queue)
core-kept s after queue kept log can same endorsed queued few = record {
  log = log;
  sendable = can;
  council = same ∙ kept.council;
  logs = subst (λ (c : Council). 0 < c.logs) (sym same) kept.logs;
  endorsed = endorsed;
  queued = queued;
  few = few;
  len = kept.len;
}

-- a step that goes on in the epoch
pub open-kept : (s : CoreState) (after : LogState) (drafts : List DraftMessage) → IsKeptCore s → IsKeptLog after → CanBeSent after → after.council ≡ s.log.council
    → Within s.log.past.seen after.past.seen → IsKeptCore (open_reply s after drafts).after
open-kept s after drafts kept log can same within = core-kept s after s.queue kept log can same (saw-more s.log.past.seen after.past.seen within s.queue kept.endorsed) kept.queued kept.few

-- a step that ends with the closing rule
pub closing-kept : (s : CoreState) (before : LogState) (drafts : List DraftMessage) (x : LogState × Closing) → IsKeptCore s → IsKeptLog x.0 → CanBeSent x.0 → x.0.council ≡ s.log.council
    → Within s.log.past.seen x.0.past.seen → IsKeptCore (closing_reply s before drafts x).after
closing-kept s before drafts x kept log can same within =
    core-kept s x.0 (queue_after x.1 x.0 s.queue) kept log can same
    (queue-all (SawEndorsements x.0.past.seen) x.1 x.0 s.queue (saw-more s.log.past.seen x.0.past.seen within s.queue kept.endorsed))
    (queue-all (WasQueued s.keys) x.1 x.0 s.queue kept.queued)
    (omega (arith, queue-few x.1 x.0 s.queue, kept.few))

-- the same, where what the log did was counted before the rule
pub closed-kept : (s : CoreState) (before : LogState) (drafts : List DraftMessage) (counted : LogState) → IsKeptCore s → IsKeptLog (closed counted).0 → CanBeSent counted → counted.council ≡ s.log.council
    → Within s.log.past.seen counted.past.seen → IsKeptCore (closing_reply s before drafts (closed counted)).after
closed-kept s before drafts counted kept log can same within =
    let rule = closed-same counted in
    closing-kept s before drafts (closed counted) kept log (closes counted can).0 (rule.0 ∙ same) (subst (Within s.log.past.seen) (sym rule.1) within)
