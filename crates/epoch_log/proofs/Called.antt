-- Each call keeps what is kept of where a log stands.
use Rattle.std.proofs.Common.{◌≡◌, ℕ, ◌+◌, ◌<◌, ◌≤◌, ◌^◌, List, [], ◌∷◌, refl, sym, subst, arith, Bool, true, false, cond, eqb, nat_lt, Option, Some, None}
use Rattle.std.specs.Prelude.{All, ◌%◌, Contains, IfSome, flat_map, map}
use Rattle.std.specs.List.{AllByRecursion}
use Rattle.std.proofs.lemmas.Bool.{and_parts, ltb-true}
use Rattle.std.proofs.lemmas.List.Elements.{All-append, All-cons, All-from_recursion, All-head, All-map, All-nil, All-tail, recursion_from_All}
use mathlib.Core.List.{map-map}
use Rattle.ar_cert.specs.Certificate.{digest_of}
use Rattle.ar_cert.specs.Changes.{Change}
use Rattle.ar_cert.specs.Judging.{endorsers_of}
use Rattle.ar_statement.specs.declared.text.SeenText.{SeenText}
use Rattle.ar_statement.specs.Claims.{authority_party, endorse, log_party, propose, text_of}
use Rattle.party_keys.specs.Seen.{Saw, seen_of}
use Rattle.party_keys.specs.Learning.{Announced, roll_claim}
use Rattle.vote_quorum.specs.Numbers.{distinct_count}
use Rattle.vote_quorum.specs.Statuses.{Status}
use Rattle.vote_quorum.specs.declared.value.Value.{Value}
use Rattle.ar_council.proofs.Books.{empty-book, second-room}
use Rattle.ar_council.proofs.Lists.{All-unmap}
use Rattle.ar_council.proofs.Seeing.{seen-has}
use Rattle.ar_council.specs.Council.{Council, IsMember}
use Rattle.ar_council.specs.Room.{HasRoom}
use Rattle.ar_council.specs.Seen.{seen_after}
use Rattle.ar_council.specs.Values.{status_claim, vote_claim}
use Rattle.ar_statement.specs.Ranges.{IsValue}
use Rattle.ar_council.specs.Votes.{SawVotes}
use Rattle.epoch_log.specs.Calls.{AreEndorsers, IsProposed, IsTurn, MayDecide, MaySkip, MayState, MayVote, SignedStatus, after_ballot, after_decide, after_endorsed, after_learn, after_propose, after_skip, after_state, after_status_seen, after_vote, casting, counting_own, decision_seen, endorsements_of, fresh, is_turn, own_status_text, own_value, own_vote_text, proposal_of, proposal_texts, propose_claim, proposing, seeing, stating, statuses_seen, vote_of, votes_seen, log_with_ballot, with_report}
use Rattle.epoch_log.specs.Ending.{decided, may_end, skipped}
use Rattle.epoch_log.specs.Record.{current, ending}
use Rattle.epoch_log.specs.Right.{LeadsTo, SawEndorsements}
use Rattle.epoch_log.specs.State.{IsKeptLog, LogState, epoch_of, reports_of, table_of}
use Rattle.epoch_log.specs.declared.entries.Closing.{Closing}
use Rattle.epoch_log.specs.declared.entries.Closing.TheVariants as closings
use Rattle.epoch_log.proofs.Acting.{kept-casting, kept-proposing, kept-stating, own-value}
use Rattle.epoch_log.proofs.Kept.{kept-closed, kept-counting_status, kept-counting_vote, kept-decided, kept-seeing, kept-skipped}
use Rattle.ar_base.proofs.Lists.{of-both-lists}

-- ---- endorsements

endorsers-members : (council : Council) (change : Change) → AreEndorsers council change → All (λ t. IsMember council t.party) (endorsements_of change)
endorsers-members council change are =
    All-map (λ (t : SeenText). IsMember council t.party) (λ a. seen_of (authority_party a) (endorse a (digest_of change.cert))) (endorsers_of change) are

all-members : (council : Council) (changes : List Change) → AllByRecursion (AreEndorsers council) changes → All (λ t. IsMember council t.party) (flat_map endorsements_of changes)
all-members council [] are = All-nil (λ (t : SeenText). IsMember council t.party)
all-members council (change ∷ changes) are =
    All-append (λ (t : SeenText). IsMember council t.party) (endorsements_of change) (flat_map endorsements_of changes)
    (endorsers-members council change are.0) (all-members council changes are.1)

all-endorsed : (seen : List SeenText) (changes : List Change) → AllByRecursion (Contains seen) (flat_map endorsements_of changes) → AllByRecursion (SawEndorsements seen) changes
all-endorsed seen [] all = tt
all-endorsed seen (change ∷ changes) all =
    let parts = of-both-lists (Contains seen) (endorsements_of change) (flat_map endorsements_of changes) all in (
      All-unmap (Contains seen) (λ a. seen_of (authority_party a) (endorse a (digest_of change.cert))) (endorsers_of change)
          (All-from_recursion (Contains seen) (endorsements_of change) parts.0),
      all-endorsed seen changes parts.1,
    )

endorsed : (seen : List SeenText) (changes : List Change) → All (Contains seen) (flat_map endorsements_of changes) → All (SawEndorsements seen) changes
endorsed seen changes all =
    All-from_recursion (SawEndorsements seen) changes (all-endorsed seen changes (recursion_from_All (Contains seen) (flat_map endorsements_of changes) all))

members : (council : Council) (changes : List Change) → All (AreEndorsers council) changes → All (λ t. IsMember council t.party) (flat_map endorsements_of changes)
members council changes are = all-members council changes (recursion_from_All (AreEndorsers council) changes are)

-- ---- calls

pub kept-endorsed : (s : LogState) (change : Change) → IsKeptLog s → AreEndorsers s.council change → IsKeptLog (after_endorsed s change)
kept-endorsed s change kept are = kept-seeing s (endorsements_of change) kept (endorsers-members s.council change are)

pub saw-endorsed : (s : LogState) (change : Change) → SawEndorsements (after_endorsed s change).past.seen change
saw-endorsed s change =
    All-unmap (Contains (seen_after s.past.seen (endorsements_of change))) (λ a. seen_of (authority_party a) (endorse a (digest_of change.cert))) (endorsers_of change)
    (seen-has (endorsements_of change) s.past.seen)

pub kept-vote : (s : LogState) (proposer : ℕ) (value : Value) (changes : List Change) → IsKeptLog s → MayVote s value changes → IsProposed s proposer changes
    → HasRoom s.past.signed (own_vote_text s value ∷ []) → IsKeptLog (after_vote s proposer value changes)
kept-vote s proposer value changes kept may proposed room =
    let rest : List SeenText = flat_map endorsements_of changes in
    let more : List SeenText = proposal_of s proposer value changes in
    let later : List SeenText = seen_after s.past.seen more in
    let has : All (Contains later) more = seen-has more s.past.seen in
    let first : SeenText = seen_of (log_party proposer) (propose proposer (epoch_of s) value.base value.root) in
    let saw = kept-seeing s more kept (All-cons (λ (t : SeenText). IsMember s.council t.party) first rest proposed.is_log (members s.council changes proposed.endorsers)) in
    kept-casting (seeing s more) value changes saw may.open_to.not_voted may.open_to.not_stated
    (record {
      are_digests = may.are_digests;
      from_base = may.open_to.from_base;
      leads = record { reaches = may.open_to.reaches; are_changes = may.are_changes; endorsed = endorsed later changes (All-tail (Contains later) first rest has) };
    }) room

pub kept-own : (s : LogState) (value : Value) → IsKeptLog s → s.me < s.council.logs → IsKeptLog (counting_own s value)
kept-own s value kept member =
    let own : SeenText = seen_of (log_party s.me) (vote_claim s.me (epoch_of s) value) in
    let more : List SeenText = own ∷ [] in
    let saw = kept-seeing s more kept (All-cons (λ (t : SeenText). IsMember s.council t.party) own [] member (All-nil (λ (t : SeenText). IsMember s.council t.party))) in
    kept-counting_vote (seeing s more) (s.me, value, None) saw
    (record { log = member; saw = All-head (Contains (seen_after s.past.seen more)) own [] (seen-has more s.past.seen) })

pub kept-proposed : (s : LogState) (value : Value) (changes : List Change) → IsKeptLog s → MayVote s value changes → All (SawEndorsements s.past.seen) changes
    → HasRoom s.past.signed (proposal_texts s value) → IsKeptLog (casting (proposing s value) (vote_of s value changes))
kept-proposed s value changes kept may saw room =
    kept-casting (proposing s value) value changes (kept-proposing s value kept may.are_digests) may.open_to.not_voted may.open_to.not_stated
    (record { are_digests = may.are_digests; from_base = may.open_to.from_base; leads = record { reaches = may.open_to.reaches; are_changes = may.are_changes; endorsed = saw } })
    (second-room s.past.signed (text_of (propose_claim s value)) (own_vote_text s value) room)

pub kept-propose : (s : LogState) (value : Value) (changes : List Change) → IsKeptLog s → IsTurn s.council s.me (epoch_of s) → MayVote s value changes → All (SawEndorsements s.past.seen) changes
    → HasRoom s.past.signed (proposal_texts s value) → IsKeptLog (after_propose s value changes).0
kept-propose s value changes kept turn may saw room =
    kept-closed (counting_own (casting (proposing s value) (vote_of s value changes)) value)
    (kept-own (casting (proposing s value) (vote_of s value changes)) value (kept-proposed s value changes kept may saw room) turn.0)

pub kept-log_with_ballot : (s : LogState) (log : ℕ) (value : Value) (signature : Option (List ℕ)) → IsKeptLog s → log < s.council.logs → IsKeptLog (log_with_ballot s log value signature)
kept-log_with_ballot s log value signature kept member =
    let one : SeenText = seen_of (log_party log) (vote_claim log (epoch_of s) value) in
    let more : List SeenText = one ∷ [] in
    let saw = kept-seeing s more kept (All-cons (λ (t : SeenText). IsMember s.council t.party) one [] member (All-nil (λ (t : SeenText). IsMember s.council t.party))) in
    kept-counting_vote (seeing s more) (log, value, signature) saw
    (record { log = member; saw = All-head (Contains (seen_after s.past.seen more)) one [] (seen-has more s.past.seen) })

pub kept-ballot : (s : LogState) (log : ℕ) (value : Value) (signature : List ℕ) → IsKeptLog s → log < s.council.logs → IsKeptLog (after_ballot s log value signature).0
kept-ballot s log value signature kept member = kept-closed (log_with_ballot s log value (Some signature)) (kept-log_with_ballot s log value (Some signature) kept member)

pub kept-with_report : (s : LogState) (log : ℕ) (value : Option Value) (signature : Option (List ℕ)) → IsKeptLog s → log < s.council.logs → IfSome value IsValue
    → IsKeptLog (with_report s log value signature)
kept-with_report s log value signature kept member are =
    let one : SeenText = seen_of (log_party log) (status_claim log (epoch_of s) value) in
    let more : List SeenText = one ∷ [] in
    let saw = kept-seeing s more kept (All-cons (λ (t : SeenText). IsMember s.council t.party) one [] member (All-nil (λ (t : SeenText). IsMember s.council t.party))) in
    kept-counting_status (seeing s more) (log, value, signature) saw member are (All-head (Contains (seen_after s.past.seen more)) one [] (seen-has more s.past.seen))

pub kept-status : (s : LogState) (log : ℕ) (value : Option Value) (signature : Option (List ℕ)) → IsKeptLog s → log < s.council.logs → IfSome value IsValue → IsKeptLog (after_status_seen s log value signature).0
kept-status s log value signature kept member are = kept-closed (with_report s log value signature) (kept-with_report s log value signature kept member are)

pub kept-state : (s : LogState) → IsKeptLog s → MayState s → HasRoom s.past.signed (own_status_text s ∷ []) → IsKeptLog (after_state s).0
kept-state s kept may room = by (is_turn s.council s.me (epoch_of s + 1)) refl
  where
    stated : IsKeptLog (stating s)
    stated = kept-stating s kept may room

    by : (b : Bool) → is_turn s.council s.me (epoch_of s + 1) ≡ b → IsKeptLog (cond {A = LogState × Closing} b (after_status_seen (stating s) s.me (own_value s) None) (stating s, closings.Open)).0
    by true turn =
        let member = ltb-true s.me s.council.logs (and_parts (nat_lt s.me s.council.logs) (eqb ((epoch_of s + 1) % s.council.logs) s.me) turn).0 in
        kept-status (stating s) s.me (own_value s) None stated member (own-value s kept)
    by false other = stated

signed-logs : (votes : List (ℕ × List ℕ)) → map (λ (v : ℕ × Option (List ℕ)). v.0) (map (λ (v : ℕ × List ℕ). (v.0, Some v.1)) votes) ≡ map (λ (v : ℕ × List ℕ). v.0) votes
signed-logs votes = map-map (λ (v : ℕ × Option (List ℕ)). v.0) (λ (v : ℕ × List ℕ). (v.0, Some v.1)) votes

pub kept-decide : (s : LogState) (value : Value) (changes : List Change) (votes : List (ℕ × List ℕ)) → IsKeptLog s → MayDecide s value changes votes → IsKeptLog (after_decide s value changes votes)
kept-decide s value changes votes kept may = by (may_end s.past) refl
  where
    cast : List SeenText
    cast = votes_seen (epoch_of s) value votes

    more : List SeenText
    more = decision_seen s value changes votes

    later : List SeenText
    later = seen_after s.past.seen more

    saw : IsKeptLog (seeing s more)
    saw = kept-seeing s more kept (All-append (λ (t : SeenText). IsMember s.council t.party) cast (flat_map endorsements_of changes)
        (All-map (λ (t : SeenText). IsMember s.council t.party) (λ (v : ℕ × List ℕ). seen_of (log_party v.0) (vote_claim v.0 (epoch_of s) value)) votes may.can.logs)
        (members s.council changes may.can.endorsers))

    parts : AllByRecursion (Contains later) cast × AllByRecursion (Contains later) (flat_map endorsements_of changes)
    parts = of-both-lists (Contains later) cast (flat_map endorsements_of changes) (recursion_from_All (Contains later) more (seen-has more s.past.seen))

    votes-saw : All (λ (v : ℕ × List ℕ). Saw later (log_party v.0) (vote_claim v.0 (epoch_of s) value)) votes
    votes-saw = All-unmap (Contains later) (λ (v : ℕ × List ℕ). seen_of (log_party v.0) (vote_claim v.0 (epoch_of s) value)) votes (All-from_recursion (Contains later) cast parts.0)

    leads : LeadsTo later (epoch_of s) (table_of s) changes value.root
    leads = record { reaches = may.can.reaches; are_changes = may.are_changes; endorsed = endorsed later changes (All-from_recursion (Contains later) (flat_map endorsements_of changes) parts.1) }

    logs : List ℕ
    logs = map (λ (v : ℕ × List ℕ). v.0) votes

    quorum : SawVotes s.council later (epoch_of s) value
    quorum = record {
      numbers = logs;
      many = may.can.many;
      below = All-map (λ k. k < s.council.logs) (λ (v : ℕ × List ℕ). v.0) votes may.can.logs;
      each = All-map (λ log. Saw later (log_party log) (vote_claim log (epoch_of s) value)) (λ (v : ℕ × List ℕ). v.0) votes votes-saw;
    }

    signed : List (ℕ × Option (List ℕ))
    signed = map (λ (v : ℕ × List ℕ). (v.0, Some v.1)) votes

    by : (b : Bool) → may_end s.past ≡ b → IsKeptLog (cond b (decided (seeing s more) changes value signed) (seeing s more))
    by true room = kept-decided (seeing s more) changes value signed saw (ltb-true (current s.past.ended) (2 ^ 63) room) may.from_base
        (record { leads = leads; votes = subst (λ b. SawVotes s.council later (epoch_of s) (record { base = b; root = value.root })) may.from_base quorum })
        (All-map (λ (v : ℕ × Option (List ℕ)). Saw later (log_party v.0) (vote_claim v.0 (epoch_of s) value)) (λ (v : ℕ × List ℕ). (v.0, Some v.1)) votes votes-saw)
        (subst (λ l. s.council.quorum ≤ distinct_count l) (sym (signed-logs votes)) may.can.many)
    by false never = saw

pub kept-skip : (s : LogState) (statuses : List SignedStatus) → IsKeptLog s → MaySkip s statuses → IsKeptLog (after_skip s statuses)
kept-skip s statuses kept may = by (may_end s.past) refl
  where
    more : List SeenText
    more = statuses_seen (epoch_of s) statuses

    later : List SeenText
    later = seen_after s.past.seen more

    logs-below : All (λ (x : SignedStatus). x.0 < s.council.logs) statuses
    logs-below = All-unmap (λ (x : Status). x.0 < s.council.logs) (λ (x : SignedStatus). (x.0, x.1)) statuses (All-unmap (λ log. log < s.council.logs) (λ (x : Status). x.0) (reports_of statuses) may.can.of_logs.below)

    saw : IsKeptLog (seeing s more)
    saw = kept-seeing s more kept (All-map (λ (t : SeenText). IsMember s.council t.party) (λ (x : SignedStatus). seen_of (log_party x.0) (status_claim x.0 (epoch_of s) x.1)) statuses logs-below)

    statuses-saw : All (λ (x : SignedStatus). Saw later (log_party x.0) (status_claim x.0 (epoch_of s) x.1)) statuses
    statuses-saw = All-unmap (Contains later) (λ (x : SignedStatus). seen_of (log_party x.0) (status_claim x.0 (epoch_of s) x.1)) statuses (seen-has more s.past.seen)

    by : (b : Bool) → may_end s.past ≡ b → IsKeptLog (cond b (skipped (seeing s more) (reports_of statuses)) (seeing s more))
    by true room = kept-skipped (seeing s more) (reports_of statuses) saw (ltb-true (current s.past.ended) (2 ^ 63) room)
        (record {
          are_seen = record {
            of_logs = may.can.of_logs;
            values = may.values;
            saw = All-map (λ (x : Status). Saw later (log_party x.0) (status_claim x.0 (epoch_of s) x.1)) (λ (x : SignedStatus). (x.0, x.1)) statuses statuses-saw;
          };
          excludes = may.can.excludes;
        })
    by false never = saw

pub kept-learn : (s : LogState) (a : Announced) → IsKeptLog s → IsMember s.council a.party → IsKeptLog (after_learn s a)
kept-learn s a kept member =
    let one : SeenText = seen_of a.party (roll_claim a) in
    kept-seeing s (one ∷ []) kept (All-cons (λ (t : SeenText). IsMember s.council t.party) one [] member (All-nil (λ (t : SeenText). IsMember s.council t.party)))

-- ---- the beginning

pub kept-fresh : (me : ℕ) (council : Council) (leaves : ℕ) → me < 2 ^ 16 → 0 < leaves → IsKeptLog (fresh me council leaves)
unfolding ending
kept-fresh me council leaves small some = record {
  number = small;
  honest = record {
    ends_in_order = record { in_order = λ k x is. absurd cc; in_range = omega arith };
    votes_once = record { once = λ i j d before within. absurd (omega (arith, within)); up_to_now = λ k d within. absurd (omega (arith, within)) };
    states_its_vote = record { once = λ i j d before within. absurd (omega (arith, within)); up_to_now = λ k d within. absurd (omega (arith, within)); fits = λ k d within. absurd (omega (arith, within)) };
    votes_rightly = λ k d within. absurd (omega (arith, within));
    decides_rightly = λ epoch changes to is. absurd cc;
    skips_rightly = λ epoch statuses is. absurd cc;
    confirms_rightly = λ k d within. absurd (omega (arith, within));
    signs_what_it_tells = record {
      sound = empty-book leaves some;
      told = λ k d within. absurd (omega (arith, within));
      votes = λ k d within. absurd (omega (arith, within));
      statuses = λ k d within. absurd (omega (arith, within));
      confirmations = λ k d within. absurd (omega (arith, within));
    };
    sees_members = λ k d within. absurd (omega (arith, within));
  };
  votes = λ k d within. absurd (omega (arith, within));
  statuses = record {
    of_logs = record { ascending = λ k within. absurd (omega (arith, within)); below = λ k d within. absurd (omega (arith, within)) };
    values = λ k d within. absurd (omega (arith, within));
    saw = λ k d within. absurd (omega (arith, within));
  };
  newest = λ epoch changes to is. absurd cc;
}
