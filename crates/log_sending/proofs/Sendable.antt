-- What a log may have to send fits into messages, also behind each step.
use Rattle.std.proofs.Common.{◌≡◌, ◌≢◌, ℕ, ◌+◌, ◌^◌, ◌<◌, ◌≤◌, ◌%◌, List, [], ◌∷◌, length, refl, sym, ap, ◌∙◌, subst, arith, Bool, true, false, cond, nat_le, nat_lt, ◌==◌, ◌&&◌, ◌||◌, Option, Some, None}
use Rattle.std.specs.Prelude.{IfSome, filter, map, unwrap_or}
use Rattle.std.specs.List.{AllByRecursion, list_any}
use Rattle.std.specs.Option.{option_map}
use Rattle.std.proofs.lemmas.Bool.{and_parts, eq-eqb, leb-false, leb-true, ltb-true}
use Rattle.std.proofs.lemmas.List.{length-map, length-replicate}
use Rattle.std.proofs.lemmas.List.Elements.{All-contains, All-push}
use Rattle.ar_base.specs.Adding.{placed}
use Rattle.ar_bytes.specs.Ascending.{Ascend}
use Rattle.ar_bytes.proofs.Ascending.{Ascend-placed}
use Rattle.ar_cert.specs.Changes.{Change, IsSignature}
use Rattle.ar_message.specs.Lists.{AreChanges, AreLogStatuses, AreVotes, IsStatus, IsVote}
use Rattle.ar_message.specs.Filling.{zeros}
use Rattle.ar_statement.specs.declared.text.SeenText.{SeenText}
use Rattle.ar_statement.specs.Ranges.{IsValue}
use Rattle.ar_statement.specs.Claims.{log_party}
use Rattle.vote_quorum.specs.Ballots.{has_ballot, is_same}
use Rattle.vote_quorum.specs.declared.value.Value.{Value}
use Rattle.vote_quorum.proofs.Adding.{is_same-from, same_value}
use Rattle.ar_council.proofs.Lists.{find-some}
use Rattle.party_keys.specs.Seen.{seen_of}
use Rattle.ar_council.specs.Values.{status_claim, vote_claim}
use Rattle.epoch_log.proofs.Acting.{own-value}
use Rattle.epoch_log.specs.Calls.{SignedStatus, after_ballot, after_confirm, after_propose, after_roll, after_skip, after_state, after_status_seen, casting, counting_own, counting_status, counting_vote, is_turn, own_value, proposing, seeing, stating, statuses_seen, vote_of, with_status, with_vote}
use Rattle.epoch_log.specs.Ending.{closed, closed_by, closed_by_statuses, decided, excludes_all, has_quorum, may_end, own_vote, skipped, votes_for}
use Rattle.epoch_log.specs.Foreseeing.{IsForeseen}
use Rattle.epoch_log.specs.State.{CountedStatus, CountedVote, IsKeptLog, LogState, ballots_of, epoch_of, reports_of}
use Rattle.epoch_log.specs.Told.{value_of}
use Rattle.epoch_log.specs.declared.entries.Closing.{Closing}
use Rattle.epoch_log.specs.declared.entries.Closing.TheVariants as closings
use Rattle.epoch_log.specs.declared.entries.Newest.{Newest}
use Rattle.epoch_log.specs.declared.entries.Voted.{Voted}
use Rattle.epoch_log.specs.declared.foreseeing.Foreseen.{Foreseen}
use Rattle.epoch_log.specs.declared.foreseeing.Foreseen.TheVariants as foreseen
use Rattle.log_sending.specs.Sendable.{AreApart, AreBallots, AreReports, AreVoices, CanBeSent, CanBeTold, FitsIn, IsReport, IsVoice}
use Rattle.log_sending.specs.Sending.{sent_status, sent_statuses, sent_vote, sent_votes}

-- ---- one more ballot

-- where no ballot is the same, each is another
none-same : (v : CountedVote) (votes : List CountedVote) → has_ballot (ballots_of votes) (v.0, v.1) ≡ false → AllByRecursion (λ w. AreApart w v) votes
none-same v [] none = tt
none-same v (w ∷ votes) none = by ((w.0 == v.0) && is_same w.1 v.1) refl none (none-same v votes)
  where
    same : w.0 ≡ v.0 → w.1 ≡ v.1 → ((w.0 == v.0) && is_same w.1 v.1) ≡ true
    same log value = rw (eq-eqb w.0 v.0 log, is_same-from w.1 v.1 value) refl

    by : (b : Bool) → ((w.0 == v.0) && is_same w.1 v.1) ≡ b → (b || has_ballot (ballots_of votes) (v.0, v.1)) ≡ false
        → (has_ballot (ballots_of votes) (v.0, v.1) ≡ false → AllByRecursion (λ w. AreApart w v) votes) → AllByRecursion (λ w. AreApart w v) (w ∷ votes)
    by true is none rest = absurd cc
    by false is none rest = (λ log value. absurd (cc (sym is ∙ same log value)), rest none)

turned : (v : CountedVote) (votes : List CountedVote) → AllByRecursion (λ w. AreApart w v) votes → AllByRecursion (AreApart v) votes
turned v [] all = tt
turned v (w ∷ votes) all = (λ log value. all.0 (sym log) (sym value), turned v votes all.1)

placed-apart : (w v : CountedVote) (votes : List CountedVote) → AllByRecursion (AreApart w) votes → AreApart w v → AllByRecursion (AreApart w) (placed (λ (x : CountedVote). x.0) v votes)
unfolding placed
placed-apart w v [] all here = (here, tt)
placed-apart w v (u ∷ votes) all here = by (nat_le u.0 v.0) (placed-apart w v votes all.1 here)
  where
    by : (b : Bool) → AllByRecursion (AreApart w) (placed (λ (x : CountedVote). x.0) v votes)
        → AllByRecursion (AreApart w) (cond b (u ∷ placed (λ (x : CountedVote). x.0) v votes) (v ∷ (u ∷ votes)))
    by true rest = (all.0, rest)
    by false rest = (here, all)

placed-ballots : (logs : ℕ) (v : CountedVote) (votes : List CountedVote) (least : ℕ) → AreBallots logs least votes → AllByRecursion (λ w. AreApart w v) votes
    → least ≤ v.0 → v.0 < logs → FitsIn v.2 → AreBallots logs least (placed (λ (x : CountedVote). x.0) v votes)
unfolding placed
placed-ballots logs v [] least are others low below fits = (low, below, fits, tt, tt)
placed-ballots logs v (w ∷ votes) least are others low below fits =
    by (nat_le w.0 v.0) refl (λ above. placed-ballots logs v votes w.0 are.4 others.1 above below fits)
  where
    by : (b : Bool) → nat_le w.0 v.0 ≡ b → (w.0 ≤ v.0 → AreBallots logs w.0 (placed (λ (x : CountedVote). x.0) v votes))
        → AreBallots logs least (cond b (w ∷ placed (λ (x : CountedVote). x.0) v votes) (v ∷ (w ∷ votes)))
    by true le rest = (are.0, are.1, are.2, placed-apart w v votes are.3 others.0, rest (leb-true w.0 v.0 le))
    by false le rest =
        let less = leb-false w.0 v.0 le in
        let above : v.0 ≤ w.0 = omega (arith, less) in
        (low, below, fits, turned v (w ∷ votes) others, (above, are.1, are.2, are.3, are.4))

more-votes : (logs : ℕ) (votes : List CountedVote) (v : CountedVote) → AreBallots logs 0 votes → v.0 < logs → FitsIn v.2 → AreBallots logs 0 (with_vote votes v)
more-votes logs votes v are below fits = by (has_ballot (ballots_of votes) (v.0, v.1)) refl
  where
    by : (b : Bool) → has_ballot (ballots_of votes) (v.0, v.1) ≡ b → AreBallots logs 0 (cond b votes (placed (λ (x : CountedVote). x.0) v votes))
    by true is = are
    by false is = placed-ballots logs v votes 0 are (none-same v votes is) (omega arith) below fits

-- ---- one more status

more-statuses : (logs : ℕ) (statuses : List CountedStatus) (s : CountedStatus) → AreReports logs 0 statuses → IsReport logs s → AreReports logs 0 (with_status statuses s)
more-statuses logs statuses s are is = by (list_any (λ t. t.0 == s.0) statuses) refl
  where
    by : (b : Bool) → list_any (λ t. t.0 == s.0) statuses ≡ b → AreReports logs 0 (cond b statuses (placed (λ (x : CountedStatus). x.0) s statuses))
    by true any = are
    by false none = Ascend-placed (λ (x : CountedStatus). x.0) (IsReport logs) s statuses 0 are none (omega arith) is

-- ---- the votes for a value

-- of those behind a ballot for the value, each for the value is of a later log
later : (logs : ℕ) (v : CountedVote) (value : Value) (votes : List CountedVote) (least : ℕ) → is_same v.1 value ≡ true → v.0 ≤ least → AreBallots logs least votes
    → AllByRecursion (AreApart v) votes → AllByRecursion (λ (w : CountedVote). is_same w.1 value ≡ true → v.0 + 1 ≤ w.0) votes
later logs v value [] least for-it low are apart = tt
later logs v value (w ∷ votes) least for-it low are apart = (
  λ also. let other : v.0 ≢ w.0 = λ log. apart.0 log (same_value v.1 value for-it ∙ sym (same_value w.1 value also)) in omega (arith, low, are.0, other),
  later logs v value votes w.0 for-it (omega (arith, low, are.0)) are.4 apart.1,
)

-- one vote of a decision
abbrev OfLogs : ℕ → ℕ × Option (List ℕ) → Type 0
OfLogs logs v = (v.0 < logs) × FitsIn v.1

for-value : (logs : ℕ) (value : Value) (votes : List CountedVote) (least from : ℕ) → AreBallots logs least votes
    → AllByRecursion (λ (w : CountedVote). is_same w.1 value ≡ true → from ≤ w.0) votes → Ascend (λ (v : ℕ × Option (List ℕ)). v.0) (OfLogs logs) from (votes_for votes value)
for-value logs value [] least from are above = tt
for-value logs value (v ∷ votes) least from are above =
    by (is_same v.1 value) refl (λ low all. for-value logs value votes v.0 low are.4 all)
  where
    rest : List (ℕ × Option (List ℕ))
    rest = votes_for votes value

    by : (b : Bool) → is_same v.1 value ≡ b
        → ((low : ℕ) → AllByRecursion (λ (w : CountedVote). is_same w.1 value ≡ true → low ≤ w.0) votes → Ascend (λ (v : ℕ × Option (List ℕ)). v.0) (OfLogs logs) low rest)
        → Ascend (λ (v : ℕ × Option (List ℕ)). v.0) (OfLogs logs) from (map (λ (v : CountedVote). (v.0, v.2)) (cond b (v ∷ filter (λ (w : CountedVote). is_same w.1 value) votes) (filter (λ (w : CountedVote). is_same w.1 value) votes)))
    by true is more = (above.0 is, (are.1, are.2), more (v.0 + 1) (later logs v value votes v.0 is (omega arith) are.4 are.3))
    by false is more = more from above.1

-- ---- how many

-- so many numbers ascend below a bound
no-more : {A : Type 0} (number : A → ℕ) (fits : A → Type 0) (bound least : ℕ) (xs : List A) → ((x : A) → fits x → number x < bound) → least ≤ bound
    → Ascend number fits least xs → length xs + least ≤ bound
no-more number fits bound least [] below low asc = omega (arith, low)
no-more number fits bound least (x ∷ xs) below low asc =
    let here : number x < bound = below x asc.1 in
    let rest : length xs + (number x + 1) ≤ bound = no-more number fits bound (number x + 1) xs below (omega (arith, here)) asc.2 in
    omega (arith, rest, asc.0)

weaker : {A : Type 0} (number : A → ℕ) (fits other : A → Type 0) → ((x : A) → fits x → other x) → (least : ℕ) (xs : List A) → Ascend number fits least xs
    → Ascend number other least xs
weaker number fits other is least [] asc = tt
weaker number fits other is least (x ∷ xs) asc = (asc.0, is x asc.1, weaker number fits other is (number x + 1) xs asc.2)

voices : (logs : ℕ) (votes : List (ℕ × Option (List ℕ))) → logs ≤ 16 → Ascend (λ (v : ℕ × Option (List ℕ)). v.0) (OfLogs logs) 0 votes → AreVoices votes
voices logs votes few asc =
    let many = no-more (λ (v : ℕ × Option (List ℕ)). v.0) (OfLogs logs) logs 0 votes (λ v of. of.0) (omega arith) asc in (
      omega (arith, many, few),
      weaker (λ (v : ℕ × Option (List ℕ)). v.0) (OfLogs logs) IsVoice (λ v of. (omega (arith, of.0, few), of.1)) 0 votes asc,
    )

-- ---- as they are sent

zeros-fit : (len : ℕ) → len < 2 ^ 16 → IsSignature (zeros len)
zeros-fit len less = subst (λ n. n < 2 ^ 16) (sym (length-replicate len 0)) less

filled : (len : ℕ) (signature : Option (List ℕ)) → len < 2 ^ 16 → FitsIn signature → IsSignature (unwrap_or signature (zeros len))
filled len None less fits = zeros-fit len less
filled len (Some bytes) less fits = fits

votes-ascend : (len : ℕ) → len < 2 ^ 16 → (least : ℕ) (votes : List (ℕ × Option (List ℕ))) → Ascend (λ (v : ℕ × Option (List ℕ)). v.0) IsVoice least votes
    → Ascend (λ v. v.log) IsVote least (sent_votes len votes)
votes-ascend len less least [] asc = tt
votes-ascend len less least (v ∷ votes) asc = (asc.0, (asc.1.0, filled len v.1 less asc.1.1), votes-ascend len less (v.0 + 1) votes asc.2)

-- the votes of a decision are votes of a message
pub votes-sent : (len : ℕ) (votes : List (ℕ × Option (List ℕ))) → len < 2 ^ 16 → AreVoices votes → AreVotes (sent_votes len votes)
votes-sent len votes less are = (omega (arith, length-map votes (sent_vote len), are.0), votes-ascend len less 0 votes are.1)

statuses-ascend : (len logs : ℕ) → len < 2 ^ 16 → logs ≤ 16 → (least : ℕ) (statuses : List CountedStatus) → AreReports logs least statuses
    → Ascend (λ s. s.log) IsStatus least (sent_statuses len statuses)
statuses-ascend len logs less few least [] asc = tt
statuses-ascend len logs less few least (s ∷ statuses) asc =
    (asc.0, (omega (arith, asc.1.0, few), asc.1.1, filled len s.2 less asc.1.2), statuses-ascend len logs less few (s.0 + 1) statuses asc.2)

-- the statuses that skip an epoch are statuses of a message
pub statuses-sent : (len logs : ℕ) (statuses : List CountedStatus) → len < 2 ^ 16 → logs ≤ 16 → AreReports logs 0 statuses → AreLogStatuses (sent_statuses len statuses)
statuses-sent len logs statuses less few are =
    let many = no-more (λ (s : CountedStatus). s.0) (IsReport logs) logs 0 statuses (λ s is. is.0) (omega arith) are in
    (omega (arith, length-map statuses (sent_status len), many, few), statuses-ascend len logs less few 0 statuses are)

-- ---- what the log counts

pub vote-can : (s : LogState) (v : CountedVote) → CanBeSent s → v.0 < s.council.logs → FitsIn v.2 → CanBeSent (counting_vote s v)
vote-can s v can below fits =
    record { logs = can.logs; votes = more-votes s.council.logs s.votes v can.votes below fits; statuses = can.statuses; newest = can.newest; voted = can.voted }

pub status-can : (s : LogState) (status : CountedStatus) → CanBeSent s → IsReport s.council.logs status → CanBeSent (counting_status s status)
status-can s status can is =
    record { logs = can.logs; votes = can.votes; statuses = more-statuses s.council.logs s.statuses status can.statuses is; newest = can.newest; voted = can.voted }

-- ---- the closing rule

-- what the rule leaves, and the statuses by which it skips an epoch
abbrev pub Closes : ℕ → LogState × Closing → Type 0
Closes logs x = CanBeSent x.0 × ((statuses : List CountedStatus) → x.1 ≡ closings.Skipped statuses → AreReports logs 0 statuses)

abbrev skipped-by : Closing → List CountedStatus → List CountedStatus
skipped-by closings.Open other = other
skipped-by closings.Decided other = other
skipped-by (closings.Skipped statuses) other = statuses

closes-statuses : (s : LogState) → CanBeSent s → Closes s.council.logs (closed_by_statuses s)
closes-statuses s can = by (excludes_all s.council (reports_of s.statuses))
  where
    by : (b : Bool) → Closes s.council.logs (cond {A = LogState × Closing} b (skipped s (reports_of s.statuses), closings.Skipped s.statuses) (s, closings.Open))
    by true = (
      record { logs = can.logs; votes = tt; statuses = tt; newest = can.newest; voted = can.voted },
      λ statuses is. subst (AreReports s.council.logs 0) (ap (λ c. skipped-by c []) is) can.statuses,
    )
    by false = (can, λ statuses is. absurd cc)

closes-by : (s : LogState) (own : Option Voted) → CanBeSent s → Closes s.council.logs (closed_by s own)
closes-by s None can = closes-statuses s can
closes-by s (Some v) can = by (has_quorum s v)
  where
    fit : AreVoices (votes_for s.votes (value_of v))
    fit = voices s.council.logs (votes_for s.votes (value_of v)) can.logs
        (for-value s.council.logs (value_of v) s.votes 0 0 can.votes (all-above s.votes))
      where
        all-above : (votes : List CountedVote) → AllByRecursion (λ (w : CountedVote). is_same w.1 (value_of v) ≡ true → 0 ≤ w.0) votes
        all-above [] = tt
        all-above (w ∷ votes) = (λ is. omega arith, all-above votes)

    by : (b : Bool) → Closes s.council.logs (cond {A = LogState × Closing} b (decided s v.changes (value_of v) (votes_for s.votes (value_of v)), closings.Decided) (closed_by_statuses s))
    by true = (record { logs = can.logs; votes = tt; statuses = tt; newest = fit; voted = can.voted }, λ statuses is. absurd cc)
    by false = closes-statuses s can

pub closes : (s : LogState) → CanBeSent s → Closes s.council.logs (closed s)
unfolding closed
closes s can = by (may_end s.past)
  where
    by : (b : Bool) → Closes s.council.logs (cond {A = LogState × Closing} b (closed_by s (own_vote s.past.voted (epoch_of s))) (s, closings.Open))
    by true = closes-by s (own_vote s.past.voted (epoch_of s)) can
    by false = (can, λ statuses is. absurd cc)

-- ---- what a log does

pub seeing-can : (s : LogState) (more : List SeenText) → CanBeSent s → CanBeSent (seeing s more)
seeing-can s more can = record { logs = can.logs; votes = can.votes; statuses = can.statuses; newest = can.newest; voted = can.voted }

pub casting-can : (s : LogState) (v : Voted) → CanBeSent s → AreChanges v.changes → CanBeSent (casting s v)
casting-can s v can are =
    record { logs = can.logs; votes = can.votes; statuses = can.statuses; newest = can.newest; voted = All-push (λ (v : Voted). AreChanges v.changes) s.past.voted v can.voted are }

pub proposing-can : (s : LogState) (value : Value) → CanBeSent s → CanBeSent (proposing s value)
proposing-can s value can = record { logs = can.logs; votes = can.votes; statuses = can.statuses; newest = can.newest; voted = can.voted }

pub stating-can : (s : LogState) → CanBeSent s → CanBeSent (stating s)
stating-can s can = record { logs = can.logs; votes = can.votes; statuses = can.statuses; newest = can.newest; voted = can.voted }

pub confirm-can : (s : LogState) (w : Newest) (name : List ℕ) → CanBeSent s → CanBeSent (after_confirm s w name)
confirm-can s w name can = record { logs = can.logs; votes = can.votes; statuses = can.statuses; newest = can.newest; voted = can.voted }

pub roll-can : (s : LogState) (key : List ℕ) → CanBeSent s → CanBeSent (after_roll s key)
roll-can s key can = record { logs = can.logs; votes = can.votes; statuses = can.statuses; newest = can.newest; voted = can.voted }

-- the log's own ballot
pub own-can : (s : LogState) (value : Value) → CanBeSent s → s.me < s.council.logs → CanBeSent (counting_own s value)
own-can s value can member =
    let more : List SeenText = seen_of (log_party s.me) (vote_claim s.me (epoch_of s) value) ∷ [] in
    vote-can (seeing s more) (s.me, value, None) (seeing-can s more can) member tt

-- a ballot that comes as a message
pub ballot-can : (s : LogState) (log : ℕ) (value : Value) (signature : List ℕ) → CanBeSent s → log < s.council.logs → IsSignature signature
    → Closes s.council.logs (after_ballot s log value signature)
ballot-can s log value signature can member fits =
    let more : List SeenText = seen_of (log_party log) (vote_claim log (epoch_of s) value) ∷ [] in
    closes (counting_vote (seeing s more) (log, value, Some signature)) (vote-can (seeing s more) (log, value, Some signature) (seeing-can s more can) member fits)

-- a status
pub status-seen-can : (s : LogState) (log : ℕ) (value : Option Value) (signature : Option (List ℕ)) → CanBeSent s → log < s.council.logs → IfSome value IsValue
    → FitsIn signature → Closes s.council.logs (after_status_seen s log value signature)
status-seen-can s log value signature can member is fits =
    let more : List SeenText = seen_of (log_party log) (status_claim log (epoch_of s) value) ∷ [] in
    closes (counting_status (seeing s more) (log, value, signature)) (status-can (seeing s more) (log, value, signature) (seeing-can s more can) (member, is, fits))

-- the log's own status
pub state-can : (s : LogState) → CanBeSent s → IsKeptLog s → Closes s.council.logs (after_state s)
state-can s can kept = by (is_turn s.council s.me (epoch_of s + 1)) refl
  where
    by : (b : Bool) → is_turn s.council s.me (epoch_of s + 1) ≡ b
        → Closes s.council.logs (cond {A = LogState × Closing} b (after_status_seen (stating s) s.me (own_value s) None) (stating s, closings.Open))
    by true turn =
        let member : s.me < s.council.logs = ltb-true s.me s.council.logs (and_parts (nat_lt s.me s.council.logs) ((epoch_of s + 1) % s.council.logs == s.me) turn).0 in
        status-seen-can (stating s) s.me (own_value s) None (stating-can s can) member (own-value s kept) tt
    by false other = (stating-can s can, λ statuses is. absurd cc)

-- the log's own proposal, and its vote
pub propose-can : (s : LogState) (value : Value) (changes : List Change) → CanBeSent s → s.me < s.council.logs → AreChanges changes
    → Closes s.council.logs (after_propose s value changes)
propose-can s value changes can member are =
    let cast : LogState = casting (proposing s value) (vote_of s value changes) in
    closes (counting_own cast value)
    (own-can cast value (casting-can (proposing s value) (vote_of s value changes) (proposing-can s value can) are) member)

-- a skip that another log tells of
pub skip-can : (s : LogState) (statuses : List SignedStatus) → CanBeSent s → CanBeSent (after_skip s statuses)
skip-can s statuses can = by (may_end s.past)
  where
    more : List SeenText
    more = statuses_seen (epoch_of s) statuses

    by : (b : Bool) → CanBeSent (cond b (skipped (seeing s more) (reports_of statuses)) (seeing s more))
    by true = record { logs = can.logs; votes = tt; statuses = tt; newest = can.newest; voted = can.voted }
    by false = seeing-can s more can

-- ---- what is foreseen

abbrev changes-or : Option (List Change) → List Change → List Change
changes-or None other = other
changes-or (Some changes) other = changes

-- what is foreseen of such a step fits into messages
pub told-can : (len logs : ℕ) (step : LogState × Closing) (f : Foreseen) → len < 2 ^ 16 → logs ≤ 16 → Closes logs step → IsForeseen step f → CanBeTold len f
told-can len logs step foreseen.Open less few closing is = tt
told-can len logs step (foreseen.Decided changes w) less few closing is = (
  by (own_vote step.0.past.voted w.epoch) refl is.2,
  votes-sent len w.votes less (subst (λ (o : Option Newest). IfSome o (λ (w : Newest). AreVoices w.votes)) is.1 closing.0.newest),
)
  where
    by : (own : Option Voted) → own_vote step.0.past.voted w.epoch ≡ own → option_map (λ (v : Voted). v.changes) own ≡ Some changes → AreChanges changes
    by None was same = absurd cc
    by (Some v) was same =
        let there = find-some (λ (v : Voted). v.epoch == w.epoch) step.0.past.voted v was in
        subst AreChanges (ap (λ o. changes-or o []) same) (All-contains (λ (v : Voted). AreChanges v.changes) step.0.past.voted v closing.0.voted there.0)
told-can len logs step (foreseen.Skipped statuses) less few closing is = statuses-sent len logs statuses less few (closing.1 statuses is)
