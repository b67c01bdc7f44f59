-- The lists of messages: what was put is read again, and what is read is spelled so.
use Rattle.std.proofs.Common.{ℕ, ◌+◌, ◌^◌, ◌<◌, ◌≤◌, List, ◌++◌, length, Option, refl, subst, arith}
use Rattle.std.specs.Prelude.{IfSome}
use Rattle.std.specs.List.{AllByRecursion}
use Rattle.std.specs.Int.{w16}
use Rattle.ar_base.proofs.Shown.{ok_is}
use Rattle.ar_bytes.specs.Reading.{Cursor, counted_at}
use Rattle.ar_bytes.specs.RoundTrip.{Passes, ReadsBack, IsSpelledBy, number_text, counted_text}
use Rattle.ar_bytes.specs.Ascending.{number_from, Ascend}
use Rattle.ar_bytes.specs.Joined.{optional_at, optional_text}
use Rattle.ar_bytes.specs.Lists.{list_at}
use Rattle.ar_bytes.proofs.Steps.{Passes-then, split, next}
use Rattle.ar_bytes.proofs.Passing.{counted_again, counted_pass}
use Rattle.ar_bytes.proofs.Ascending.{ascending_again, ascending_pass, number_from_again, number_from_pass}
use Rattle.ar_bytes.proofs.Lists.{counted_list_again, counted_list_pass, list_again, list_pass}
use Rattle.ar_bytes.proofs.JoinedFields.{optional_again, optional_pass}
use Rattle.ar_statement.specs.Claims.{value_text}
use Rattle.ar_statement.specs.Ranges.{IsValue}
use Rattle.ar_statement.specs.Texts.{value_at}
use Rattle.ar_statement.proofs.FieldsByKind.{value_pass, values_again}
use Rattle.vote_quorum.specs.declared.value.Value.{Value}
use Rattle.ar_cert.specs.Changes.{Change, IsChange, IsSignature, change_at, change_text}
use Rattle.ar_cert.proofs.ChangeLaws.{change_again, change_pass}
use Rattle.ar_message.specs.declared.lists.Vote.{Vote}
use Rattle.ar_message.specs.declared.lists.LogStatus.{LogStatus}
use Rattle.ar_message.specs.Lists.{changes_at, changes_text, AreChanges, vote_from, votes_from, votes_at, vote_text, votes_text, IsVote, AreVotes, status_from, statuses_from, statuses_at, status_text, statuses_text, IsStatus, AreLogStatuses}

-- ---- changes

pub changes_again : (changes : List Change) → AreChanges changes → ReadsBack changes_at changes (changes_text changes)
changes_again changes h =
    counted_list_again 64 (list_at change_at) change_text changes h.0 (omega (arith, h.0)) (list_again change_at change_text IsChange change_again (length changes) changes refl h.1)

pub changes_pass : IsSpelledBy changes_at changes_text AreChanges
changes_pass = counted_list_pass 64 (list_at change_at) change_text (AllByRecursion IsChange) (list_pass change_at change_text IsChange change_pass)

-- ---- votes

vote_again : (least : ℕ) (v : Vote) → least ≤ v.log → IsVote v → ReadsBack (vote_from least) v (vote_text v)
unfolding vote_from
vote_again least v le h at new p =
    let log = split at new (number_text w16 v.log) (counted_text v.signature) p in
    rw (number_from_again least v.log le h.0 at log.0 log.1, counted_again v.signature h.1 log.0 new log.2) refl

vote_pass : (least : ℕ) → IsSpelledBy (vote_from least) vote_text (λ v. (least ≤ v.log) × IsVote v)
unfolding vote_from
vote_pass least at new v bytes e =
    let log = next (number_from least) (number_text w16) (λ n. (least ≤ n) × (n < 2 ^ 16)) (number_from_pass least) _ at (v, new) bytes e in
    let signature = next counted_at counted_text IsSignature (λ a n x. counted_pass a n x) _ log.1 (v, new) log.4 log.5 in
    let value : Vote = record { log = log.0; signature = signature.0 } in
    let passes = Passes-then at log.1 signature.1 (number_text w16 log.0) (counted_text signature.0) log.2 signature.2 in
    subst (λ (x : Vote × Cursor). Passes at (vote_text x.0) x.1 × ((least ≤ x.0.log) × IsVote x.0)) (ok_is (value, signature.1) (v, new) signature.5) (passes, (log.3.0, (log.3.1, signature.3)))

pub votes_again : (votes : List Vote) → AreVotes votes → ReadsBack votes_at votes (votes_text votes)
votes_again votes h =
    counted_list_again 16 (λ count at. votes_from count 0 at) vote_text votes h.0 (omega (arith, h.0)) (ascending_again (λ v. v.log) vote_from vote_text IsVote vote_again (length votes) 0 votes refl h.1)

pub votes_pass : IsSpelledBy votes_at votes_text AreVotes
votes_pass = counted_list_pass 16 (λ count at. votes_from count 0 at) vote_text (Ascend (λ v. v.log) IsVote 0) (λ count. ascending_pass (λ v. v.log) vote_from vote_text IsVote vote_pass count 0)

-- ---- statuses

pub optional_value_again : (value : Option Value) → IfSome value IsValue → ReadsBack (optional_at value_at) value (optional_text value_text value)
optional_value_again value h = optional_again value_at value_text value (values_again value h)

pub optional_value_pass : IsSpelledBy (optional_at value_at) (optional_text value_text) (λ value. IfSome value IsValue)
optional_value_pass = optional_pass value_at value_text IsValue value_pass

status_again : (least : ℕ) (v : LogStatus) → least ≤ v.log → IsStatus v → ReadsBack (status_from least) v (status_text v)
unfolding status_from
status_again least v le h at new p =
    let log = split at new (number_text w16 v.log) (optional_text value_text v.value ++ counted_text v.signature) p in
    let value = split log.0 new (optional_text value_text v.value) (counted_text v.signature) log.2 in
    rw (number_from_again least v.log le h.0 at log.0 log.1, optional_value_again v.value h.1 log.0 value.0 value.1, counted_again v.signature h.2 value.0 new value.2) refl

status_pass : (least : ℕ) → IsSpelledBy (status_from least) status_text (λ v. (least ≤ v.log) × IsStatus v)
unfolding status_from
status_pass least at new v bytes e =
    let log = next (number_from least) (number_text w16) (λ n. (least ≤ n) × (n < 2 ^ 16)) (number_from_pass least) _ at (v, new) bytes e in
    let value = next (optional_at value_at) (optional_text value_text) (λ value. IfSome value IsValue) optional_value_pass _ log.1 (v, new) log.4 log.5 in
    let signature = next counted_at counted_text IsSignature (λ a n x. counted_pass a n x) _ value.1 (v, new) value.4 value.5 in
    let made : LogStatus = record { log = log.0; value = value.0; signature = signature.0 } in
    let behind = Passes-then log.1 value.1 signature.1 (optional_text value_text value.0) (counted_text signature.0) value.2 signature.2 in
    let passes = Passes-then at log.1 signature.1 (number_text w16 log.0) _ log.2 behind in
    subst (λ (x : LogStatus × Cursor). Passes at (status_text x.0) x.1 × ((least ≤ x.0.log) × IsStatus x.0)) (ok_is (made, signature.1) (v, new) signature.5) (passes, (log.3.0, (log.3.1, value.3, signature.3)))

pub statuses_again : (statuses : List LogStatus) → AreLogStatuses statuses → ReadsBack statuses_at statuses (statuses_text statuses)
statuses_again statuses h =
    counted_list_again 16 (λ count at. statuses_from count 0 at) status_text statuses h.0 (omega (arith, h.0)) (ascending_again (λ v. v.log) status_from status_text IsStatus status_again (length statuses) 0 statuses refl h.1)

pub statuses_pass : IsSpelledBy statuses_at statuses_text AreLogStatuses
statuses_pass = counted_list_pass 16 (λ count at. statuses_from count 0 at) status_text (Ascend (λ v. v.log) IsStatus 0) (λ count. ascending_pass (λ v. v.log) status_from status_text IsStatus status_pass count 0)
