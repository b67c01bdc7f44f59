-- What each thing that a log does makes of where it stands, and when it may do so.
use Rattle.std.specs.Prelude.{◌≡◌, ◌≢◌, ℕ, ◌+◌, ◌%◌, ◌<◌, ◌≤◌, ◌==◌, Bool, ◌&&◌, nat_lt, if◌then◌else◌, List, [], ◌∷◌, ◌++◌, map, flat_map, All, Option, Some, None, IfSome}
use Rattle.std.specs.List.{list_any}
use Rattle.std.specs.Option.{option_map}
use Rattle.std.specs.Str.{bytes_eq}
use Rattle.ar_base.specs.Adding.{placed, with_one}
use Rattle.ar_base.specs.Bytes.{IsDigest}
use Rattle.ar_cert.specs.Certificate.{digest_of}
use Rattle.ar_cert.specs.Changes.{Change, IsChange}
use Rattle.ar_cert.specs.Judging.{endorsers_of}
use Rattle.ar_names.specs.Names.{IsName}
use Rattle.ar_statement.specs.declared.text.SeenText.{SeenText}
use Rattle.ar_statement.specs.Claims.{Claim, authority_party, endorse, log_party, propose, roll, text_of}
use Rattle.key_roll.specs.Book.{empty_book}
use Rattle.key_roll.specs.Entry.{after_entry, with_roll}
use Rattle.lms_tree.specs.PublicKey.{key_text}
use Rattle.lms_tree.specs.declared.public_key.LmsPublic.{LmsPublic}
use Rattle.party_keys.specs.Learning.{Announced, after_adopting, after_learning, roll_claim}
use Rattle.vote_quorum.specs.Ballots.{has_ballot}
use Rattle.vote_quorum.specs.Statuses.{AreStatuses, Excludes}
use Rattle.vote_quorum.specs.Numbers.{distinct_count}
use Rattle.vote_quorum.specs.declared.value.Value.{Value}
use Rattle.domain_table.specs.Tree.{root_of}
use Rattle.ar_council.specs.Council.{Council}
use Rattle.ar_council.specs.Values.{is_same_digest, status_claim, vote_claim}
use Rattle.ar_statement.specs.Ranges.{IsValue}
use Rattle.ar_council.specs.Seen.{seen_after}
use Rattle.party_keys.specs.Seen.{seen_of}
use Rattle.epoch_log.specs.Ending.{closed, decided_if, own_vote, skipped_if}
use Rattle.epoch_log.specs.Log.{LogParts}
use Rattle.epoch_log.specs.Right.{Reaches, newest_digest}
use Rattle.epoch_log.specs.State.{CountedStatus, CountedVote, LogState, ballots_of, epoch_of, reports_of, table_of}
use Rattle.epoch_log.specs.Told.{confirmation_claim, value_of}
use Rattle.epoch_log.specs.declared.entries.Closing.{Closing}
use Rattle.epoch_log.specs.declared.entries.Closing.TheVariants as closings
use Rattle.epoch_log.specs.declared.entries.Confirmed.{Confirmed}
use Rattle.epoch_log.specs.declared.entries.Newest.{Newest}
use Rattle.epoch_log.specs.declared.entries.Voted.{Voted}

-- ---- what is seen

-- the endorsements of a change, as they are seen
abbrev pub endorsements_of : Change → List SeenText
endorsements_of change = map (λ a. seen_of (authority_party a) (endorse a (digest_of change.cert))) (endorsers_of change)

-- each endorser of a change is an authority of the council
abbrev pub AreEndorsers : Council → Change → Type 0
AreEndorsers council change = All (λ a. a < council.authorities) (endorsers_of change)

-- the log saw these too
abbrev pub seeing : LogState → List SeenText → LogState
seeing s more = record {
  me = s.me;
  council = s.council;
  past = record s.past { seen = seen_after s.past.seen more };
  votes = s.votes;
  statuses = s.statuses;
  newest = s.newest;
}

-- ---- what is counted

-- the counted ballots, logs ascending, with one more, unless this log's ballot for this value is counted
abbrev pub with_vote : List CountedVote → CountedVote → List CountedVote
with_vote votes v = if has_ballot (ballots_of votes) (v.0, v.1) then votes else placed (λ v. v.0) v votes

-- the counted statuses, logs ascending, with one more, unless one of this log is counted
abbrev pub with_status : List CountedStatus → CountedStatus → List CountedStatus
with_status statuses s = if list_any (λ t. t.0 == s.0) statuses then statuses else placed (λ s. s.0) s statuses

abbrev pub counting_vote : LogState → CountedVote → LogState
counting_vote s v = record s { votes = with_vote s.votes v }

abbrev pub counting_status : LogState → CountedStatus → LogState
counting_status s status = record s { statuses = with_status s.statuses status }

-- a log's ballot is seen and counted
abbrev pub log_with_ballot : LogState → ℕ → Value → Option (List ℕ) → LogState
log_with_ballot s log value signature =
    counting_vote (seeing s (seen_of (log_party log) (vote_claim log (epoch_of s) value) ∷ [])) (log, value, signature)

-- a log's status is seen, and counted where it is the log's first
abbrev pub with_report : LogState → ℕ → Option Value → Option (List ℕ) → LogState
with_report s log value signature =
    counting_status (seeing s (seen_of (log_party log) (status_claim log (epoch_of s) value) ∷ [])) (log, value, signature)

-- it is this log's turn in an epoch: its number is the epoch's remainder by the number of logs
abbrev pub IsTurn : Council → ℕ → ℕ → Type 0
IsTurn council me epoch = (me < council.logs) × (epoch % council.logs ≡ me)

abbrev pub is_turn : Council → ℕ → ℕ → Bool
is_turn council me epoch = nat_lt me council.logs && (epoch % council.logs == me)

-- ---- changes are queued

-- the endorsements of the change are seen
abbrev pub after_endorsed : LogState → Change → LogState
after_endorsed s change = seeing s (endorsements_of change)

-- ---- a vote

-- a vote of the current epoch
abbrev pub vote_of : LogState → Value → List Change → Voted
vote_of s value changes = record { epoch = epoch_of s; base = value.base; changes = changes; root = value.root }

-- the log has stated nothing in the epoch, and so may state what it did
abbrev pub MayState : LogState → Type 0
MayState s = All (λ t. t.epoch ≢ epoch_of s) s.past.stated

-- The log is open to a value by these changes: it has not voted and has stated nothing in the epoch, the value is for its
-- base, and the changes lead to its root.
pub record IsOpenTo (s : LogState) (value : Value) (changes : List Change) : Type 0 where
  pub not_voted : All (λ v. v.epoch ≢ epoch_of s) s.past.voted
  pub not_stated : MayState s
  pub from_base : value.base ≡ root_of (table_of s)
  pub reaches : Reaches (epoch_of s) (table_of s) changes value.root

-- the log may vote for the value: it is open to it, the changes have texts, and base and root are digests
pub record MayVote (s : LogState) (value : Value) (changes : List Change) : Type 0 where
  pub open_to : IsOpenTo s value changes
  pub are_changes : All IsChange changes
  pub are_digests : IsValue value

-- the log signed its vote, and the record tells of it
abbrev pub casting : LogState → Voted → LogState
casting s v = record s {
  past = record s.past {
    voted = s.past.voted ++ v ∷ [];
    signed = after_entry s.past.signed (text_of (vote_claim s.me v.epoch (value_of v)));
  };
}

-- the text of the log's vote
abbrev pub own_vote_text : LogState → Value → List ℕ
own_vote_text s value = text_of (vote_claim s.me (epoch_of s) value)

-- what is seen where another log's proposal is voted for: the proposal, and each endorsement
abbrev pub proposal_of : LogState → ℕ → Value → List Change → List SeenText
proposal_of s proposer value changes =
    seen_of (log_party proposer) (propose proposer (epoch_of s) value.base value.root) ∷ flat_map endorsements_of changes

-- a proposal of another log is for the log to vote for
pub record IsProposed (s : LogState) (proposer : ℕ) (changes : List Change) : Type 0 where
  pub is_log : proposer < s.council.logs
  pub endorsers : All (AreEndorsers s.council) changes

-- the log votes for a proposal of another log
abbrev pub after_vote : LogState → ℕ → Value → List Change → LogState
after_vote s proposer value changes = casting (seeing s (proposal_of s proposer value changes)) (vote_of s value changes)

-- ---- a proposal

-- the statement of the log's own proposal
abbrev pub propose_claim : LogState → Value → Claim
propose_claim s value = propose s.me (epoch_of s) value.base value.root

-- the log signed its proposal, of which the record has no entry
abbrev pub proposing : LogState → Value → LogState
proposing s value = record s { past = record s.past { signed = after_entry s.past.signed (text_of (propose_claim s value)) } }

-- the texts of a proposal, in the order in which they are signed
abbrev pub proposal_texts : LogState → Value → List (List ℕ)
proposal_texts s value = text_of (propose_claim s value) ∷ (own_vote_text s value ∷ [])

-- the log's own ballot is seen and counted at once
abbrev pub counting_own : LogState → Value → LogState
counting_own s value = log_with_ballot s s.me value None

-- the log proposes: it signs the proposal and then its own vote, which is seen and counted, and the closing rule
-- follows
abbrev pub after_propose : LogState → Value → List Change → LogState × Closing
after_propose s value changes = closed (counting_own (casting (proposing s value) (vote_of s value changes)) value)

-- ---- a ballot

-- another log's ballot, or one of its own that comes as a message, is seen and counted, and the closing rule follows
abbrev pub after_ballot : LogState → ℕ → Value → List ℕ → LogState × Closing
after_ballot s log value signature = closed (log_with_ballot s log value (Some signature))

-- ---- a status

-- what the log voted for in the current epoch, if it did
abbrev pub own_value : LogState → Option Value
own_value s = option_map value_of (own_vote s.past.voted (epoch_of s))

-- the log signed its status, and the record tells of it
abbrev pub stating : LogState → LogState
stating s = record s {
  past = record s.past {
    stated = s.past.stated ++ record { epoch = epoch_of s; value = own_value s } ∷ [];
    signed = after_entry s.past.signed (text_of (status_claim s.me (epoch_of s) (own_value s)));
  };
}

-- the text of the log's status
abbrev pub own_status_text : LogState → List ℕ
own_status_text s = text_of (status_claim s.me (epoch_of s) (own_value s))

-- a log's status of the current epoch is seen, and counted where it is the log's first, and the closing rule follows
abbrev pub after_status_seen : LogState → ℕ → Option Value → Option (List ℕ) → LogState × Closing
after_status_seen s log value signature = closed (with_report s log value signature)

-- The log states what it did in the epoch. Where it counts the statuses itself, its own is seen and counted at once.
abbrev pub after_state : LogState → LogState × Closing
after_state s =
    if is_turn s.council s.me (epoch_of s + 1)
    then after_status_seen (stating s) s.me (own_value s) None
    else (stating s, closings.Open)

-- ---- a decision, and a skip, of which another log tells

-- votes of logs with their signatures, as they are seen
abbrev pub votes_seen : ℕ → Value → List (ℕ × List ℕ) → List SeenText
votes_seen epoch value votes = map (λ v. seen_of (log_party v.0) (vote_claim v.0 epoch value)) votes

-- The epoch can end as decided with these changes and this root: they lead there, their endorsers are authorities of the
-- council, and votes are of a quorum of its logs.
pub record CanDecide (s : LogState) (changes : List Change) (root : List ℕ) (votes : List (ℕ × List ℕ)) : Type 0 where
  pub reaches : Reaches (epoch_of s) (table_of s) changes root
  pub endorsers : All (AreEndorsers s.council) changes
  pub logs : All (λ v. v.0 < s.council.logs) votes
  pub many : s.council.quorum ≤ distinct_count (map (λ v. v.0) votes)

-- the log may end the epoch so: the value is for its base, the changes have texts, and base and root are digests
pub record MayDecide (s : LogState) (value : Value) (changes : List Change) (votes : List (ℕ × List ℕ)) : Type 0 where
  pub can : CanDecide s changes value.root votes
  pub from_base : value.base ≡ root_of (table_of s)
  pub are_changes : All IsChange changes
  pub are_digests : IsValue value

-- what is seen where another log tells of a decision: the votes, and each endorsement
abbrev pub decision_seen : LogState → Value → List Change → List (ℕ × List ℕ) → List SeenText
decision_seen s value changes votes = votes_seen (epoch_of s) value votes ++ flat_map endorsements_of changes

-- the votes as they are kept
abbrev pub signed_votes : List (ℕ × List ℕ) → List (ℕ × Option (List ℕ))
signed_votes votes = map (λ v. (v.0, Some v.1)) votes

-- the epoch ends as decided
abbrev pub after_decide : LogState → Value → List Change → List (ℕ × List ℕ) → LogState
after_decide s value changes votes = decided_if (seeing s (decision_seen s value changes votes)) changes value (signed_votes votes)

-- statuses of logs with their signatures
abbrev pub SignedStatus : Type 0
SignedStatus = ℕ × Option Value × List ℕ

-- statuses of the current epoch, as they are seen
abbrev pub statuses_seen : ℕ → List SignedStatus → List SeenText
statuses_seen epoch statuses = map (λ s. seen_of (log_party s.0) (status_claim s.0 epoch s.1)) statuses

-- The epoch can end as skipped by these statuses: they are of different logs of the council, and exclude each root.
pub record CanSkip (s : LogState) (statuses : List SignedStatus) : Type 0 where
  pub of_logs : AreStatuses s.council.logs (reports_of statuses)
  pub excludes : Excludes s.council.logs s.council.quorum (reports_of statuses)

-- the log may end the epoch so: what is stated are digests
pub record MaySkip (s : LogState) (statuses : List SignedStatus) : Type 0 where
  pub can : CanSkip s statuses
  pub values : All (λ s. IfSome s.1 IsValue) (reports_of statuses)

-- the epoch ends as skipped
abbrev pub after_skip : LogState → List SignedStatus → LogState
after_skip s statuses = skipped_if (seeing s (statuses_seen (epoch_of s) statuses)) (reports_of statuses)

-- ---- a confirmation

-- what the log confirms of a name, by the newest decision
abbrev pub confirmed_of : LogState → Newest → List ℕ → Confirmed
confirmed_of s w name = record { epoch = w.epoch; name = name; certificate = newest_digest (table_of s) name; root = w.root }

-- the log may confirm what a name has: it is a name, there is a newest decision, and the digests are digests
pub record MayConfirm (s : LogState) (w : Newest) (name : List ℕ) : Type 0 where
  pub is_newest : s.newest ≡ Some w
  pub is_name : IsName name
  pub certificate : IfSome (newest_digest (table_of s) name) IsDigest
  pub root : IsDigest w.root

abbrev pub is_same_confirmation : Confirmed → Confirmed → Bool
is_same_confirmation c d = (c.epoch == d.epoch) && (bytes_eq c.name d.name && (is_same_digest c.certificate d.certificate && bytes_eq c.root d.root))

-- the text of a confirmation
abbrev pub confirmation_text : LogState → Newest → List ℕ → List ℕ
confirmation_text s w name = text_of (confirmation_claim s.me (confirmed_of s w name))

-- the log signed the text of this confirmation, and the record tells of it
abbrev pub confirming : LogState → List ℕ → Confirmed → LogState
confirming s text c = record s {
  past = record s.past { confirmed = with_one is_same_confirmation s.past.confirmed c; signed = after_entry s.past.signed text };
}

-- the log confirms what a name has, and the record tells of it
abbrev pub after_confirm : LogState → Newest → List ℕ → LogState
after_confirm s w name = confirming s (confirmation_text s w name) (confirmed_of s w name)

-- ---- Rolls

-- a party's Roll is seen
abbrev pub after_learn : LogState → Announced → LogState
after_learn s a = seeing s (seen_of a.party (roll_claim a) ∷ [])

-- its own Roll is signed, and the book is at the next generation
abbrev pub after_roll : LogState → List ℕ → LogState
after_roll s key = record s {
  past = record s.past { signed = with_roll s.past.signed (text_of (roll (log_party s.me) s.past.signed.newest key)) };
}

-- the log knows the key that another party announces, and saw the Roll
abbrev pub learning : LogParts → Announced → LogParts
learning log a = record { state = after_learn log.state a; keys = after_learning log.keys a }

-- the log signed its Roll of this key, and knows the key as its own next
abbrev pub rolling : LogParts → LmsPublic → LogParts
rolling log next = record {
  state = after_roll log.state (key_text next);
  keys = after_adopting log.keys (log_party log.state.me) log.state.past.signed.newest next;
}

-- ---- the beginning

-- a log that has done nothing yet, whose keys have this many leaves
abbrev pub fresh : ℕ → Council → ℕ → LogState
fresh me council leaves = record {
  me = me;
  council = council;
  past = record { seen = []; signed = empty_book leaves; voted = []; stated = []; ended = []; confirmed = [] };
  votes = [];
  statuses = [];
  newest = None;
}
