-- What each part of a call keeps of where a log stands.
use Rattle.std.proofs.Common.{◌≡◌, ℕ, ◌<◌, ◌≤◌, ◌^◌, inl, inr, List, [], refl, sym, ap, ◌∙◌, subst, arith, Bool, true, false, cond, ◌==◌, eqb, Option, Some, None}
use Rattle.std.specs.Prelude.{All, Contains, IfSome, map}
use Rattle.std.proofs.lemmas.Bool.{cases_eq, eqb-true, leb-true, ltb-true}
use Rattle.std.proofs.lemmas.List.Elements.{All-contains, All-nil, All-weaker}
use Rattle.ar_cert.specs.Changes.{Change}
use Rattle.ar_statement.specs.declared.text.SeenText.{SeenText}
use Rattle.ar_statement.specs.Claims.{log_party, text_of}
use Rattle.party_keys.specs.Seen.{Saw}
use Rattle.vote_quorum.specs.Ballots.{log_count}
use Rattle.vote_quorum.specs.Numbers.{distinct_count}
use Rattle.vote_quorum.specs.Statuses.{Status}
use Rattle.vote_quorum.specs.declared.value.Value.{Value}
use Rattle.domain_table.specs.Tree.{root_of}
use Rattle.ar_council.proofs.Lists.{Within, find-some}
use Rattle.ar_council.proofs.Seeing.{seen-keeps}
use Rattle.ar_council.specs.Council.{Council, IsMember}
use Rattle.ar_council.specs.Seen.{seen_after}
use Rattle.ar_council.specs.Values.{status_claim, vote_claim}
use Rattle.ar_statement.specs.Ranges.{IsValue}
use Rattle.ar_council.specs.Votes.{SawVotes}
use Rattle.epoch_log.specs.Calls.{counting_status, counting_vote, seeing}
use Rattle.epoch_log.specs.Ending.{closed, closed_by, closed_by_statuses, decided, excludes_all, has_quorum, may_end, own_vote, skipped, votes_for}
use Rattle.epoch_log.specs.Honest.{EndsInOrder}
use Rattle.epoch_log.specs.Record.{base_of, current, ending}
use Rattle.epoch_log.specs.Right.{AreSeen, IsRightDecision, IsRightSkip, IsRightVote, LeadsTo}
use Rattle.epoch_log.specs.State.{CountedStatus, CountedVote, IsKeptLog, KeepsNewest, IsSeenVote, LogState, ballots_of, epoch_of, newest_value, reports_of, table_of}
use Rattle.epoch_log.specs.Told.{value_of}
use Rattle.epoch_log.specs.declared.entries.Closing.{Closing}
use Rattle.epoch_log.specs.declared.entries.Closing.TheVariants as closings
use Rattle.epoch_log.specs.declared.entries.Ended.{Ended}
use Rattle.epoch_log.specs.declared.entries.How.{How}
use Rattle.epoch_log.specs.declared.entries.How.TheVariants.{Decided, Skipped}
use Rattle.epoch_log.specs.declared.entries.Newest.{Newest}
use Rattle.epoch_log.specs.declared.entries.Voted.{Voted}
use Rattle.epoch_log.proofs.Closings.{honest-ending}
use Rattle.epoch_log.proofs.Counted.{excludes-each, many-votes, quorum-seen, saw-votes, statuses-counted, votes-counted}
use Rattle.epoch_log.proofs.Endings.{base-stays, ending-here, ending-none, ending-other, ending-within, with}
use Rattle.epoch_log.proofs.Growing.{honest-seeing, statuses-more}

-- ---- more is seen

newest-seeing : (council : Council) (seen later : List SeenText) → Within seen later → (ended : List Ended) (newest : Option Newest) → KeepsNewest council seen ended newest → KeepsNewest council later ended newest
newest-seeing council seen later within ended None is = is
newest-seeing council seen later within ended (Some w) is = record {
  changes = is.changes;
  decided = is.decided;
  last = is.last;
  from_base = is.from_base;
  votes = All-weaker (λ v. Saw seen (log_party v.0) (vote_claim v.0 w.epoch (newest_value w))) (λ v. Saw later (log_party v.0) (vote_claim v.0 w.epoch (newest_value w)))
      (λ v saw. within (record { party = log_party v.0; text = text_of (vote_claim v.0 w.epoch (newest_value w)) }) saw) w.votes is.votes;
  many = is.many;
}

pub kept-seeing : (s : LogState) (more : List SeenText) → IsKeptLog s → All (λ t. IsMember s.council t.party) more → IsKeptLog (seeing s more)
kept-seeing s more kept members =
    let later : List SeenText = seen_after s.past.seen more in
    let within : Within s.past.seen later = seen-keeps more s.past.seen in
    record {
      number = kept.number;
      honest = honest-seeing s.council s.me s.past more kept.honest members;
      votes = All-weaker (IsSeenVote s.council s.past.seen (epoch_of s)) (IsSeenVote s.council later (epoch_of s))
          (λ v one. record { log = one.log; saw = within (record { party = log_party v.0; text = text_of (vote_claim v.0 (epoch_of s) v.1) }) one.saw }) s.votes kept.votes;
      statuses = statuses-more s.council s.past.seen later within (epoch_of s) (reports_of s.statuses) kept.statuses;
      newest = newest-seeing s.council s.past.seen later within s.past.ended s.newest kept.newest;
    }

-- ---- more is counted

pub kept-counting_vote : (s : LogState) (v : CountedVote) → IsKeptLog s → IsSeenVote s.council s.past.seen (epoch_of s) v → IsKeptLog (counting_vote s v)
kept-counting_vote s v kept here = record {
  number = kept.number;
  honest = kept.honest;
  votes = votes-counted s.council s.past.seen (epoch_of s) s.votes v kept.votes here;
  statuses = kept.statuses;
  newest = kept.newest;
}

pub kept-counting_status : (s : LogState) (status : CountedStatus) → IsKeptLog s → status.0 < s.council.logs → IfSome status.1 IsValue
    → Saw s.past.seen (log_party status.0) (status_claim status.0 (epoch_of s) status.1) → IsKeptLog (counting_status s status)
kept-counting_status s status kept below value saw = record {
  number = kept.number;
  honest = kept.honest;
  votes = kept.votes;
  statuses = statuses-counted s.council s.past.seen (epoch_of s) s.statuses status kept.statuses below value saw;
  newest = kept.newest;
}

-- ---- the epoch ends

none-counted : (council : Council) (seen : List SeenText) (epoch : ℕ) → AreSeen council seen epoch []
none-counted council seen epoch = record {
  of_logs = record { ascending = λ k within. absurd (omega (arith, within)); below = All-nil (λ log. log < council.logs) };
  values = All-nil (λ (s : Status). IfSome s.1 IsValue);
  saw = All-nil (λ (s : Status). Saw seen (log_party s.0) (status_claim s.0 epoch s.1));
}

pub kept-decided : (s : LogState) (changes : List Change) (value : Value) (votes : List (ℕ × Option (List ℕ))) → IsKeptLog s → current s.past.ended < 2 ^ 63
    → value.base ≡ root_of (table_of s) → IsRightDecision s.council s.past.seen s.past.ended (epoch_of s) changes value.root
    → All (λ v. Saw s.past.seen (log_party v.0) (vote_claim v.0 (epoch_of s) value)) votes → s.council.quorum ≤ distinct_count (map (λ v. v.0) votes)
    → IsKeptLog (decided s changes value votes)
kept-decided s changes value votes kept room from right saw many =
    let ended : List Ended = s.past.ended in
    let e : ℕ = current ended in
    let how : How = Decided changes value.root in
    let later : List Ended = with ended e how in
    let order : EndsInOrder ended = kept.honest.ends_in_order in
    record {
      number = kept.number;
      honest = honest-ending s.council s.me s.past how kept.honest room (record {
        decided = λ cs to is.
            let one : changes ≡ cs = cc in
            let other : value.root ≡ to = cc in
            subst (λ c. IsRightDecision s.council s.past.seen ended e c to) one (subst (λ r. IsRightDecision s.council s.past.seen ended e changes r) other right);
        skipped = λ statuses is. absurd cc;
      });
      votes = All-nil (IsSeenVote s.council s.past.seen (current later));
      statuses = none-counted s.council s.past.seen (current later);
      newest = record {
        changes = changes;
        decided = ending-here ended how order;
        last = λ epoch others to less is.
            let old = sym (ending-other ended e how epoch (λ same. omega (arith, same, less))) ∙ is in
            let none = ending-none ended order epoch (inr (omega (arith, less))) in
            absurd cc;
        from_base = from ∙ ap root_of (sym (base-stays ended e how e (omega arith)));
        votes = saw;
        many = many;
      };
    }

newest-skipping : (council : Council) (seen : List SeenText) (ended : List Ended) (statuses : List Status) → EndsInOrder ended → (newest : Option Newest) → KeepsNewest council seen ended newest
    → KeepsNewest council seen (with ended (current ended) (Skipped statuses)) newest
newest-skipping council seen ended statuses order None none = λ epoch changes to is. elim (cases_eq (current ended) epoch) [
  | inl now ↦
      let here = ending-here ended (Skipped statuses) order in
      let this = ap (ending (with ended (current ended) (Skipped statuses))) now in absurd cc
  | inr other ↦ none epoch changes to (sym (ending-other ended (current ended) (Skipped statuses) epoch other) ∙ is)
]
newest-skipping council seen ended statuses order (Some w) is =
    let e : ℕ = current ended in
    let how : How = Skipped statuses in
    let within = ending-within ended order w.epoch (Decided is.changes w.root) is.decided in
    record {
      changes = is.changes;
      decided = ending-other ended e how w.epoch (λ same. omega (arith, same, within.1)) ∙ is.decided;
      last = λ epoch others to less this. elim (cases_eq e epoch) [
        | inl now ↦
            let here = ending-here ended how order in
            let that = ap (ending (with ended e how)) now in absurd cc
        | inr other ↦ is.last epoch others to less (sym (ending-other ended e how epoch other) ∙ this)
      ];
      from_base = is.from_base ∙ ap root_of (sym (base-stays ended e how w.epoch (omega (arith, within.1))));
      votes = is.votes;
      many = is.many;
    }

pub kept-skipped : (s : LogState) (statuses : List Status) → IsKeptLog s → current s.past.ended < 2 ^ 63 → IsRightSkip s.council s.past.seen (epoch_of s) statuses → IsKeptLog (skipped s statuses)
kept-skipped s statuses kept room right =
    let ended : List Ended = s.past.ended in
    let how : How = Skipped statuses in
    let later : List Ended = with ended (current ended) how in
    record {
      number = kept.number;
      honest = honest-ending s.council s.me s.past how kept.honest room (record {
        decided = λ changes to is. absurd cc;
        skipped = λ others is.
            let one : statuses ≡ others = cc in
            subst (λ l. IsRightSkip s.council s.past.seen (current ended) l) one right;
      });
      votes = All-nil (IsSeenVote s.council s.past.seen (current later));
      statuses = none-counted s.council s.past.seen (current later);
      newest = newest-skipping s.council s.past.seen ended statuses kept.honest.ends_in_order s.newest kept.newest;
    }

-- ---- the closing rule

kept-statuses : (s : LogState) → IsKeptLog s → current s.past.ended < 2 ^ 63 → IsKeptLog (closed_by_statuses s).0
kept-statuses s kept room = by (excludes_all s.council (reports_of s.statuses)) refl
  where
    by : (b : Bool) → excludes_all s.council (reports_of s.statuses) ≡ b
        → IsKeptLog (cond {A = LogState × Closing} b (skipped s (reports_of s.statuses), closings.Skipped s.statuses) (s, closings.Open)).0
    by true is = kept-skipped s (reports_of s.statuses) kept room (record { are_seen = kept.statuses; excludes = excludes-each s.council (reports_of s.statuses) is })
    by false is = kept

kept-by : (s : LogState) → IsKeptLog s → current s.past.ended < 2 ^ 63 → (own : Option Voted) → own_vote s.past.voted (epoch_of s) ≡ own → IsKeptLog (closed_by s own).0
kept-by s kept room None is = kept-statuses s kept room
kept-by s kept room (Some v) is = by (has_quorum s v) refl
  where
    e : ℕ
    e = epoch_of s

    there : Contains s.past.voted v × (eqb v.epoch e ≡ true)
    there = find-some (λ (w : Voted). w.epoch == e) s.past.voted v is

    now : v.epoch ≡ e
    now = eqb-true v.epoch e there.1

    right : IsRightVote s.past.seen s.past.ended v
    right = All-contains (IsRightVote s.past.seen s.past.ended) s.past.voted v kept.honest.votes_rightly there.0

    from : v.base ≡ root_of (base_of s.past.ended e)
    from = subst (λ n. v.base ≡ root_of (base_of s.past.ended n)) now right.from_base

    leads : LeadsTo s.past.seen e (base_of s.past.ended e) v.changes v.root
    leads = subst (λ n. LeadsTo s.past.seen n (base_of s.past.ended n) v.changes v.root) now right.leads

    by : (b : Bool) → has_quorum s v ≡ b
        → IsKeptLog (cond {A = LogState × Closing} b (decided s v.changes (value_of v) (votes_for s.votes (value_of v)), closings.Decided) (closed_by_statuses s)).0
    by true many =
        let enough : s.council.quorum ≤ log_count (ballots_of s.votes) (value_of v) = leb-true s.council.quorum (log_count (ballots_of s.votes) (value_of v)) many in
        let seen = quorum-seen s.council s.past.seen e s.votes (value_of v) kept.votes enough in
        kept-decided s v.changes (value_of v) (votes_for s.votes (value_of v)) kept room from
        (record { leads = leads; votes = subst (λ b. SawVotes s.council s.past.seen e (record { base = b; root = v.root })) from seen })
        (saw-votes s.council s.past.seen e s.votes (value_of v) kept.votes)
        (many-votes s.council.quorum s.votes (value_of v) enough)
    by false few = kept-statuses s kept room

pub kept-closed : (s : LogState) → IsKeptLog s → IsKeptLog (closed s).0
unfolding closed
kept-closed s kept = by (may_end s.past) refl
  where
    by : (b : Bool) → may_end s.past ≡ b → IsKeptLog (cond {A = LogState × Closing} b (closed_by s (own_vote s.past.voted (epoch_of s))) (s, closings.Open)).0
    by true may = kept-by s kept (ltb-true (current s.past.ended) (2 ^ 63) may) (own_vote s.past.voted (epoch_of s)) refl
    by false never = kept
