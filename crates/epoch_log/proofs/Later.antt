-- A log's record only grows, whatever the log does.
use Rattle.std.proofs.Common.{ℕ, ◌+◌, List, [], ◌∷◌, refl, Bool, true, false, cond, Option, Some, None}
use Rattle.ar_base.proofs.Prefixes.{begins_itself, begins_on}
use Rattle.ar_cert.specs.Changes.{Change}
use Rattle.ar_council.proofs.Lists.{one-begins}
use Rattle.ar_council.proofs.Seeing.{seen-begins}
use Rattle.ar_council.specs.Values.{status_claim, vote_claim}
use Rattle.ar_statement.specs.Claims.{log_party, roll, text_of}
use Rattle.ar_statement.specs.declared.text.SeenText.{SeenText}
use Rattle.key_roll.proofs.Later.{entry_later, later_on, roll_later, same_book}
use Rattle.party_keys.specs.Learning.{Announced, roll_claim}
use Rattle.party_keys.specs.Seen.{seen_of}
use Rattle.vote_quorum.specs.declared.value.Value.{Value}
use Rattle.epoch_log.specs.Calls.{SignedStatus, after_ballot, after_confirm, after_decide, after_endorsed, after_learn, after_propose, after_roll, after_skip, after_state, after_status_seen, after_vote, casting, confirmation_text, confirmed_of, counting_own, decision_seen, endorsements_of, is_same_confirmation, is_turn, own_status_text, own_value, proposal_of, propose_claim, proposing, seeing, signed_votes, stating, statuses_seen, vote_of, log_with_ballot, with_report}
use Rattle.epoch_log.specs.Ending.{closed, closed_by, closed_by_statuses, decided, excludes_all, has_quorum, may_end, own_vote, skipped, votes_for, with_ending}
use Rattle.epoch_log.specs.Later.{LogGrows}
use Rattle.epoch_log.specs.Record.{LogRecord, current}
use Rattle.epoch_log.specs.State.{LogState, epoch_of, reports_of}
use Rattle.epoch_log.specs.Told.{value_of}
use Rattle.epoch_log.specs.declared.entries.Closing.{Closing}
use Rattle.epoch_log.specs.declared.entries.Closing.TheVariants as closings
use Rattle.epoch_log.specs.declared.entries.How.{How}
use Rattle.epoch_log.specs.declared.entries.How.TheVariants.{Decided, Skipped}
use Rattle.epoch_log.specs.declared.entries.Newest.{Newest}
use Rattle.epoch_log.specs.declared.entries.Voted.{Voted}

pub same_record : (r : LogRecord) → LogGrows r r
same_record r = record {
  seen = begins_itself r.seen;
  signed = same_book r.signed;
  voted = begins_itself r.voted;
  stated = begins_itself r.stated;
  ended = begins_itself r.ended;
  confirmed = begins_itself r.confirmed;
}

pub grows_on : (r later last : LogRecord) → LogGrows r later → LogGrows later last → LogGrows r last
grows_on r later last one two = record {
  seen = begins_on r.seen later.seen last.seen two.seen one.seen;
  signed = later_on r.signed later.signed last.signed one.signed two.signed;
  voted = begins_on r.voted later.voted last.voted two.voted one.voted;
  stated = begins_on r.stated later.stated last.stated two.stated one.stated;
  ended = begins_on r.ended later.ended last.ended two.ended one.ended;
  confirmed = begins_on r.confirmed later.confirmed last.confirmed two.confirmed one.confirmed;
}

-- ---- its parts

pub seeing_grows : (s : LogState) (more : List SeenText) → LogGrows s.past (seeing s more).past
seeing_grows s more = record {
  seen = seen-begins more s.past.seen;
  signed = same_book s.past.signed;
  voted = begins_itself s.past.voted;
  stated = begins_itself s.past.stated;
  ended = begins_itself s.past.ended;
  confirmed = begins_itself s.past.confirmed;
}

casting_grows : (s : LogState) (v : Voted) → LogGrows s.past (casting s v).past
casting_grows s v = record {
  seen = begins_itself s.past.seen;
  signed = entry_later s.past.signed (text_of (vote_claim s.me v.epoch (value_of v)));
  voted = (v ∷ [], refl);
  stated = begins_itself s.past.stated;
  ended = begins_itself s.past.ended;
  confirmed = begins_itself s.past.confirmed;
}

proposing_grows : (s : LogState) (value : Value) → LogGrows s.past (proposing s value).past
proposing_grows s value = record {
  seen = begins_itself s.past.seen;
  signed = entry_later s.past.signed (text_of (propose_claim s value));
  voted = begins_itself s.past.voted;
  stated = begins_itself s.past.stated;
  ended = begins_itself s.past.ended;
  confirmed = begins_itself s.past.confirmed;
}

stating_grows : (s : LogState) → LogGrows s.past (stating s).past
stating_grows s = record {
  seen = begins_itself s.past.seen;
  signed = entry_later s.past.signed (own_status_text s);
  voted = begins_itself s.past.voted;
  stated = (record { epoch = epoch_of s; value = own_value s } ∷ [], refl);
  ended = begins_itself s.past.ended;
  confirmed = begins_itself s.past.confirmed;
}

ending_grows : (past : LogRecord) (how : How) → LogGrows past (with_ending past how)
ending_grows past how = record {
  seen = begins_itself past.seen;
  signed = same_book past.signed;
  voted = begins_itself past.voted;
  stated = begins_itself past.stated;
  ended = (record { epoch = current past.ended; how = how } ∷ [], refl);
  confirmed = begins_itself past.confirmed;
}

-- ---- the closing rule

statuses_grow : (s : LogState) → LogGrows s.past (closed_by_statuses s).0.past
statuses_grow s = by (excludes_all s.council (reports_of s.statuses))
  where
    by : (b : Bool) → LogGrows s.past (cond {A = LogState × Closing} b (skipped s (reports_of s.statuses), closings.Skipped s.statuses) (s, closings.Open)).0.past
    by true = ending_grows s.past (Skipped (reports_of s.statuses))
    by false = same_record s.past

vote_grows : (s : LogState) (own : Option Voted) → LogGrows s.past (closed_by s own).0.past
vote_grows s None = statuses_grow s
vote_grows s (Some v) = by (has_quorum s v)
  where
    by : (b : Bool) → LogGrows s.past (cond {A = LogState × Closing} b (decided s v.changes (value_of v) (votes_for s.votes (value_of v)), closings.Decided) (closed_by_statuses s)).0.past
    by true = ending_grows s.past (Decided v.changes (value_of v).root)
    by false = statuses_grow s

closed_grows : (s : LogState) → LogGrows s.past (closed s).0.past
unfolding closed
closed_grows s = by (may_end s.past)
  where
    by : (b : Bool) → LogGrows s.past (cond {A = LogState × Closing} b (closed_by s (own_vote s.past.voted (epoch_of s))) (s, closings.Open)).0.past
    by true = vote_grows s (own_vote s.past.voted (epoch_of s))
    by false = same_record s.past

closing_grows : (r : LogRecord) (s : LogState) → LogGrows r s.past → LogGrows r (closed s).0.past
closing_grows r s grows = grows_on r s.past (closed s).0.past grows (closed_grows s)

-- ---- calls

pub change_adds : (s : LogState) (change : Change) → LogGrows s.past (after_endorsed s change).past
change_adds s change = seeing_grows s (endorsements_of change)

pub vote_adds : (s : LogState) (proposer : ℕ) (value : Value) (changes : List Change) → LogGrows s.past (after_vote s proposer value changes).past
vote_adds s proposer value changes =
    let saw : LogState = seeing s (proposal_of s proposer value changes) in
    grows_on s.past saw.past (casting saw (vote_of s value changes)).past (seeing_grows s (proposal_of s proposer value changes)) (casting_grows saw (vote_of s value changes))

pub proposal_adds : (s : LogState) (value : Value) (changes : List Change) → LogGrows s.past (after_propose s value changes).0.past
proposal_adds s value changes =
    let first : LogState = proposing s value in
    let second : LogState = casting first (vote_of s value changes) in
    closing_grows s.past (counting_own second value)
    (grows_on s.past second.past (counting_own second value).past
    (grows_on s.past first.past second.past (proposing_grows s value) (casting_grows first (vote_of s value changes)))
    (seeing_grows second (seen_of (log_party s.me) (vote_claim s.me (epoch_of s) value) ∷ [])))

pub ballot_adds : (s : LogState) (log : ℕ) (value : Value) (signature : List ℕ) → LogGrows s.past (after_ballot s log value signature).0.past
ballot_adds s log value signature =
    closing_grows s.past (log_with_ballot s log value (Some signature)) (seeing_grows s (seen_of (log_party log) (vote_claim log (epoch_of s) value) ∷ []))

pub status_adds : (s : LogState) (log : ℕ) (value : Option Value) (signature : Option (List ℕ)) → LogGrows s.past (after_status_seen s log value signature).0.past
status_adds s log value signature =
    closing_grows s.past (with_report s log value signature) (seeing_grows s (seen_of (log_party log) (status_claim log (epoch_of s) value) ∷ []))

pub state_adds : (s : LogState) → LogGrows s.past (after_state s).0.past
state_adds s = by (is_turn s.council s.me (epoch_of s + 1))
  where
    by : (b : Bool) → LogGrows s.past (cond {A = LogState × Closing} b (after_status_seen (stating s) s.me (own_value s) None) (stating s, closings.Open)).0.past
    by true =
        grows_on s.past (stating s).past (after_status_seen (stating s) s.me (own_value s) None).0.past (stating_grows s)
        (status_adds (stating s) s.me (own_value s) None)
    by false = stating_grows s

pub decision_adds : (s : LogState) (value : Value) (changes : List Change) (votes : List (ℕ × List ℕ)) → LogGrows s.past (after_decide s value changes votes).past
decision_adds s value changes votes = by (may_end s.past)
  where
    saw : LogState
    saw = seeing s (decision_seen s value changes votes)

    sees : LogGrows s.past saw.past
    sees = seeing_grows s (decision_seen s value changes votes)

    by : (b : Bool) → LogGrows s.past (cond b (decided saw changes value (signed_votes votes)) saw).past
    by true = grows_on s.past saw.past (decided saw changes value (signed_votes votes)).past sees (ending_grows saw.past (Decided changes value.root))
    by false = sees

pub skip_adds : (s : LogState) (statuses : List SignedStatus) → LogGrows s.past (after_skip s statuses).past
skip_adds s statuses = by (may_end s.past)
  where
    saw : LogState
    saw = seeing s (statuses_seen (epoch_of s) statuses)

    sees : LogGrows s.past saw.past
    sees = seeing_grows s (statuses_seen (epoch_of s) statuses)

    by : (b : Bool) → LogGrows s.past (cond b (skipped saw (reports_of statuses)) saw).past
    by true = grows_on s.past saw.past (skipped saw (reports_of statuses)).past sees (ending_grows saw.past (Skipped (reports_of statuses)))
    by false = sees

pub confirm_adds : (s : LogState) (w : Newest) (name : List ℕ) → LogGrows s.past (after_confirm s w name).past
confirm_adds s w name = record {
  seen = begins_itself s.past.seen;
  signed = entry_later s.past.signed (confirmation_text s w name);
  voted = begins_itself s.past.voted;
  stated = begins_itself s.past.stated;
  ended = begins_itself s.past.ended;
  confirmed = one-begins is_same_confirmation s.past.confirmed (confirmed_of s w name);
}

pub learn_adds : (s : LogState) (a : Announced) → LogGrows s.past (after_learn s a).past
learn_adds s a = seeing_grows s (seen_of a.party (roll_claim a) ∷ [])

pub roll_adds : (s : LogState) (key : List ℕ) → LogGrows s.past (after_roll s key).past
roll_adds s key = record {
  seen = begins_itself s.past.seen;
  signed = roll_later s.past.signed (text_of (roll (log_party s.me) s.past.signed.newest key));
  voted = begins_itself s.past.voted;
  stated = begins_itself s.past.stated;
  ended = begins_itself s.past.ended;
  confirmed = begins_itself s.past.confirmed;
}
