-- What a log saw stays so through each call.
use Rattle.std.proofs.Common.{◌≡◌, ℕ, List, [], ◌∷◌, refl, sym, subst, Bool, true, false, cond, Option, Some, None}
use Rattle.std.specs.Prelude.{Contains, ◌+◌}
use Rattle.ar_cert.specs.Changes.{Change}
use Rattle.ar_council.proofs.Seeing.{seen-keeps}
use Rattle.party_keys.specs.Seen.{seen_of}
use Rattle.ar_council.specs.Values.{status_claim, vote_claim}
use Rattle.ar_statement.specs.Claims.{log_party}
use Rattle.ar_statement.specs.declared.text.SeenText.{SeenText}
use Rattle.vote_quorum.specs.declared.value.Value.{Value}
use Rattle.epoch_log.specs.Calls.{SignedStatus, after_ballot, after_decide, after_propose, after_skip, after_state, after_status_seen, casting, counting_own, decision_seen, is_turn, own_value, proposing, seeing, signed_votes, stating, statuses_seen, vote_of, log_with_ballot, with_report}
use Rattle.epoch_log.specs.Ending.{closed, closed_by, closed_by_statuses, decided, excludes_all, has_quorum, may_end, own_vote, skipped, votes_for}
use Rattle.epoch_log.specs.State.{LogState, SeesMore, epoch_of, reports_of}
use Rattle.epoch_log.specs.Told.{value_of}
use Rattle.epoch_log.specs.declared.entries.Closing.{Closing}
use Rattle.epoch_log.specs.declared.entries.Closing.TheVariants as closings
use Rattle.epoch_log.specs.declared.entries.Voted.{Voted}

pub seeing-more : (s : LogState) (more : List SeenText) → SeesMore s (seeing s more)
seeing-more s more = seen-keeps more s.past.seen

-- ---- the closing rule changes nothing of it

saw-statuses : (s : LogState) → (closed_by_statuses s).0.past.seen ≡ s.past.seen
saw-statuses s = by (excludes_all s.council (reports_of s.statuses))
  where
    by : (b : Bool) → (cond {A = LogState × Closing} b (skipped s (reports_of s.statuses), closings.Skipped s.statuses) (s, closings.Open)).0.past.seen ≡ s.past.seen
    by true = refl
    by false = refl

saw-by : (s : LogState) (own : Option Voted) → (closed_by s own).0.past.seen ≡ s.past.seen
saw-by s None = saw-statuses s
saw-by s (Some v) = by (has_quorum s v)
  where
    by : (b : Bool) → (cond {A = LogState × Closing} b (decided s v.changes (value_of v) (votes_for s.votes (value_of v)), closings.Decided) (closed_by_statuses s)).0.past.seen ≡ s.past.seen
    by true = refl
    by false = saw-statuses s

saw-closed : (s : LogState) → (closed s).0.past.seen ≡ s.past.seen
unfolding closed
saw-closed s = by (may_end s.past)
  where
    by : (b : Bool) → (cond {A = LogState × Closing} b (closed_by s (own_vote s.past.voted (epoch_of s))) (s, closings.Open)).0.past.seen ≡ s.past.seen
    by true = saw-by s (own_vote s.past.voted (epoch_of s))
    by false = refl

closing-more : (s later : LogState) → SeesMore s later → SeesMore s (closed later).0
closing-more s later more = λ t there. subst (λ (l : List SeenText). Contains l t) (sym (saw-closed later)) (more t there)

-- ---- calls

pub proposal-more : (s : LogState) (value : Value) (changes : List Change) → SeesMore s (after_propose s value changes).0
proposal-more s value changes =
    closing-more s (counting_own (casting (proposing s value) (vote_of s value changes)) value)
    (seeing-more (casting (proposing s value) (vote_of s value changes)) (seen_of (log_party s.me) (vote_claim s.me (epoch_of s) value) ∷ []))

pub ballot-more : (s : LogState) (log : ℕ) (value : Value) (signature : List ℕ) → SeesMore s (after_ballot s log value signature).0
ballot-more s log value signature = closing-more s (log_with_ballot s log value (Some signature)) (seeing-more s (seen_of (log_party log) (vote_claim log (epoch_of s) value) ∷ []))

pub report-more : (s : LogState) (log : ℕ) (value : Option Value) (signature : Option (List ℕ)) → SeesMore s (after_status_seen s log value signature).0
report-more s log value signature = closing-more s (with_report s log value signature) (seeing-more s (seen_of (log_party log) (status_claim log (epoch_of s) value) ∷ []))

pub state-more : (s : LogState) → SeesMore s (after_state s).0
state-more s = by (is_turn s.council s.me (epoch_of s + 1))
  where
    by : (b : Bool) → SeesMore s (cond {A = LogState × Closing} b (after_status_seen (stating s) s.me (own_value s) None) (stating s, closings.Open)).0
    by true = report-more (stating s) s.me (own_value s) None
    by false = λ t there. there

pub decision-more : (s : LogState) (value : Value) (changes : List Change) (votes : List (ℕ × List ℕ)) → SeesMore s (after_decide s value changes votes)
decision-more s value changes votes = by (may_end s.past)
  where
    saw : LogState
    saw = seeing s (decision_seen s value changes votes)

    by : (b : Bool) → SeesMore s (cond b (decided saw changes value (signed_votes votes)) saw)
    by true = seeing-more s (decision_seen s value changes votes)
    by false = seeing-more s (decision_seen s value changes votes)

pub skip-more : (s : LogState) (statuses : List SignedStatus) → SeesMore s (after_skip s statuses)
skip-more s statuses = by (may_end s.past)
  where
    saw : LogState
    saw = seeing s (statuses_seen (epoch_of s) statuses)

    by : (b : Bool) → SeesMore s (cond b (skipped saw (reports_of statuses)) saw)
    by true = seeing-more s (statuses_seen (epoch_of s) statuses)
    by false = seeing-more s (statuses_seen (epoch_of s) statuses)
