-- The closing rule by its verdict, and what a log keeps where its epoch ends as planned.
use Rattle.std.proofs.Common.{◌≡◌, ℕ, ◌<◌, ◌≤◌, ◌^◌, List, [], length, refl, sym, ap, ◌∙◌, subst, arith, Bool, true, false, cond, eqb, ◌==◌, Option, Some, None, vec_capacity}
use Rattle.std.specs.Prelude.{◌↔◌, Contains, IfSome, IsOk, IsSome, Result, Ok, Err, Vec, is_ok, option_and_then}
use Rattle.std.specs.declared.alloc.Global.{Global}
use Rattle.std.proofs.lemmas.Bool.{eqb-true, le-ltb, lt-ltb}
use Rattle.std.proofs.lemmas.List.{length-map}
use Rattle.std.proofs.lemmas.List.Elements.{All-contains}
use Rattle.ar_council.proofs.Lists.{find-some}
use Rattle.ar_council.specs.Council.{Council, council_of}
use Rattle.vote_quorum.specs.Statuses.{Status}
use Rattle.vote_quorum.specs.declared.value.Value.{Value}
use Rattle.domain_table.specs.Applying.{apply}
use Rattle.domain_table.specs.Sound.{IsSound}
use Rattle.domain_table.specs.Tables.{Table}
use Rattle.vote_quorum.specs.Ballots.{Ballot}
use Rattle.vote_quorum.specs.Statuses.{Excludes}
use Rattle.epoch_log.specs.Ending.{closed, closed_by, closed_by_statuses, decided, excludes_all, has_quorum, may_end, own_table, own_vote, skipped, votes_for}
use Rattle.epoch_log.specs.Log.{IsLog, LogParts, moved, parts_of, standing_tables, state_in, untried}
use Rattle.epoch_log.specs.Plans.{IsDecision, IsOwnDecision, IsPlan, IsPlanIn, verdict_at, verdict_of}
use Rattle.epoch_log.specs.Right.{IsRightVote, LeadsTo}
use Rattle.epoch_log.specs.Record.{base_of}
use Rattle.epoch_log.specs.State.{CountedVote, IsKeptLog, LogState, ballots_of, epoch_of, reports_of, table_of}
use Rattle.epoch_log.specs.Told.{value_of}
use Rattle.epoch_log.specs.declared.closing.Plan.TheVariants as plans
use Rattle.epoch_log.specs.declared.closing.Verdict.{Verdict}
use Rattle.epoch_log.specs.declared.closing.Verdict.TheVariants as verdicts
use Rattle.epoch_log.specs.declared.ending.Decision.{Decision}
use Rattle.epoch_log.specs.declared.entries.Closing.{Closing}
use Rattle.epoch_log.specs.declared.entries.Closing.TheVariants as closings
use Rattle.epoch_log.specs.declared.entries.Voted.{Voted}
use Rattle.epoch_log.specs.declared.parts.Parts.{Parts}
use Rattle.epoch_log.specs.declared.parts.Tables.{Tables}
use Rattle.epoch_log.proofs.Applying.{sound-applied}
use Rattle.epoch_log.proofs.Counted.{excludes-each}
use Rattle.epoch_log.proofs.Kept.{kept-closed}
use Rattle.epoch_log.proofs.Read.{excludes-tested}
use Rattle.epoch_log.proofs.Tried.{tables-decided, tables-skipped}

-- the test that is asked of the statuses is the one of the closing rule
pub excludes-asked : {V F : Type 0} (council : Council) (statuses : List Status) (n q : ℕ) (answer : Result V F) (b : Bool) → n ≡ council.logs → q ≡ council.quorum
    → (IsOk answer ↔ Excludes n q statuses) → b ≡ is_ok answer → b ≡ excludes_all council statuses
excludes-asked council statuses n q (Ok v) b logs quorum asked is =
    is ∙ sym (excludes-tested council statuses (subst (λ m. Excludes m council.quorum statuses) logs (subst (λ k. Excludes n k statuses) quorum (asked.0 refl))))
excludes-asked council statuses n q (Err e) b logs quorum asked is = is ∙ sym (by (excludes_all council statuses) refl)
  where
    by : (x : Bool) → excludes_all council statuses ≡ x → excludes_all council statuses ≡ false
    by false never = never
    by true tested =
        let ok = asked.1 (subst (λ m. Excludes m q statuses) (sym logs) (subst (λ k. Excludes council.logs k statuses) (sym quorum) (excludes-each council statuses tested))) in
        absurd cc

-- what the closing rule makes of a log, by its verdict
abbrev pub outcome : LogState → Verdict → Option Voted → LogState × Closing
outcome s verdicts.Open own = (s, closings.Open)
outcome s verdicts.Skipped own = (skipped s (reports_of s.statuses), closings.Skipped s.statuses)
outcome s verdicts.Decided None = (s, closings.Open)
outcome s verdicts.Decided (Some v) = (decided s v.changes (value_of v) (votes_for s.votes (value_of v)), closings.Decided)

by-statuses : (s : LogState) (own : Option Voted) → closed_by_statuses s ≡ outcome s (cond (excludes_all s.council (reports_of s.statuses)) verdicts.Skipped verdicts.Open) own
by-statuses s own = by (excludes_all s.council (reports_of s.statuses))
  where
    by : (b : Bool) → cond {A = LogState × Closing} b (skipped s (reports_of s.statuses), closings.Skipped s.statuses) (s, closings.Open)
        ≡ outcome s (cond b verdicts.Skipped verdicts.Open) own
    by true = refl
    by false = refl

by-own : (s : LogState) (own : Option Voted) → closed_by s own ≡ outcome s (verdict_of s.council own (ballots_of s.votes) (reports_of s.statuses)) own
by-own s None = by-statuses s None
by-own s (Some v) = by (has_quorum s v)
  where
    rest : Verdict
    rest = cond (excludes_all s.council (reports_of s.statuses)) verdicts.Skipped verdicts.Open

    by : (b : Bool) → cond {A = LogState × Closing} b (decided s v.changes (value_of v) (votes_for s.votes (value_of v)), closings.Decided) (closed_by_statuses s)
        ≡ outcome s (cond b verdicts.Decided rest) (Some v)
    by true = refl
    by false = by-statuses s (Some v)

pub closed-outcome : (s : LogState) → closed s
    ≡ outcome s (verdict_at (epoch_of s) s.council (own_vote s.past.voted (epoch_of s)) (ballots_of s.votes) (reports_of s.statuses)) (own_vote s.past.voted (epoch_of s))
unfolding closed
closed-outcome s = by (may_end s.past)
  where
    own : Option Voted
    own = own_vote s.past.voted (epoch_of s)

    by : (b : Bool) → cond {A = LogState × Closing} b (closed_by s own) (s, closings.Open)
        ≡ outcome s (cond b (verdict_of s.council own (ballots_of s.votes) (reports_of s.statuses)) verdicts.Open) own
    by true = by-own s own
    by false = refl

-- ---- the closing rule, by its verdict

abbrev pub verdict_in : Parts → Verdict
verdict_in p = verdict_at (epoch_of (state_in p)) (council_of p.directory) (own_vote p.past.voted.items (epoch_of (state_in p))) (ballots_of p.votes.items) (reports_of p.statuses.items)

pub closes-open : (p : Parts) → verdict_in p ≡ verdicts.Open → closed (state_in p) ≡ (state_in p, closings.Open)
closes-open p is = closed-outcome (state_in p) ∙ ap (λ v. outcome (state_in p) v (own_vote p.past.voted.items (epoch_of (state_in p)))) is

pub closes-skipped : (p : Parts) → verdict_in p ≡ verdicts.Skipped → closed (state_in p) ≡ (skipped (state_in p) (reports_of p.statuses.items), closings.Skipped p.statuses.items)
closes-skipped p is = closed-outcome (state_in p) ∙ ap (λ v. outcome (state_in p) v (own_vote p.past.voted.items (epoch_of (state_in p)))) is

pub closes-decided : (p : Parts) (v : Voted) → verdict_in p ≡ verdicts.Decided → own_vote p.past.voted.items (epoch_of (state_in p)) ≡ Some v
    → closed (state_in p) ≡ (decided (state_in p) v.changes (value_of v) (votes_for p.votes.items (value_of v)), closings.Decided)
closes-decided p v is own =
    closed-outcome (state_in p) ∙ ap (λ v. outcome (state_in p) v (own_vote p.past.voted.items (epoch_of (state_in p)))) is ∙ ap (outcome (state_in p) verdicts.Decided) own

-- ---- the own vote

-- the changes of the own vote lead from the base of the epoch to its root
pub own-leads : (s : LogState) (v : Voted) → IsKeptLog s → own_vote s.past.voted (epoch_of s) ≡ Some v → LeadsTo s.past.seen (epoch_of s) (table_of s) v.changes v.root
own-leads s v kept is =
    let there : Contains s.past.voted v × (eqb v.epoch (epoch_of s) ≡ true) = find-some (λ (w : Voted). w.epoch == epoch_of s) s.past.voted v is in
    let right : IsRightVote s.past.seen s.past.ended v = All-contains (IsRightVote s.past.seen s.past.ended) s.past.voted v kept.honest.votes_rightly there.0 in
    subst (λ n. LeadsTo s.past.seen n (base_of s.past.ended n) v.changes v.root) (eqb-true v.epoch (epoch_of s) there.1) right.leads

-- and so there is a table that was tried for it
pub own-has-tried : (s : LogState) (own : Option Voted) → IsKeptLog s → own_vote s.past.voted (epoch_of s) ≡ own → IfSome own (λ (v : Voted). IsSome (own_table s))
own-has-tried s None kept is = tt
own-has-tried s (Some v) kept is =
    subst IsSome (sym (ap (option_and_then (λ (w : Voted). apply (table_of s) (epoch_of s) w.changes)) is ∙ (own-leads s v kept is).reaches.applied)) refl

-- the verdict is a decision only where there is an own vote
pub own-decides : (council : Council) (own : Option Voted) (ballots : List Ballot) (reports : List Status) → verdict_of council own ballots reports ≡ verdicts.Decided → IsSome own
own-decides council (Some v) ballots reports is = refl
own-decides council None ballots reports is = by (excludes_all council reports) is
  where
    by : (b : Bool) → cond b verdicts.Skipped verdicts.Open ≡ verdicts.Decided → IsSome {T = Voted} None
    by true no_verdict = absurd cc
    by false no_verdict = absurd cc

-- ---- what is planned

verdict-now : (epoch : ℕ) (council : Council) (own : Option Voted) (ballots : List Ballot) (reports : List Status) → epoch < 2 ^ 63
    → verdict_at epoch council own ballots reports ≡ verdict_of council own ballots reports
verdict-now epoch council own ballots reports low = ap (λ b. cond b (verdict_of council own ballots reports) verdicts.Open) (lt-ltb epoch (2 ^ 63) low)

pub planned-late : (council : Council) (epoch : ℕ) (own : Option Voted) (tried : Option Table) (ballots : List Ballot) (reports : List Status) → 2 ^ 63 ≤ epoch
    → IsPlan council epoch own tried ballots reports plans.Open
unfolding IsPlan
planned-late council epoch own tried ballots reports late =
    ap (λ b. cond b (verdict_of council own ballots reports) verdicts.Open) (le-ltb epoch (2 ^ 63) late)

pub planned-open : (council : Council) (epoch : ℕ) (own : Option Voted) (tried : Option Table) (ballots : List Ballot) (reports : List Status) → epoch < 2 ^ 63
    → verdict_of council own ballots reports ≡ verdicts.Open → IsPlan council epoch own tried ballots reports plans.Open
unfolding IsPlan
planned-open council epoch own tried ballots reports low is = verdict-now epoch council own ballots reports low ∙ is

pub planned-skipped : (council : Council) (epoch : ℕ) (own : Option Voted) (tried : Option Table) (ballots : List Ballot) (statuses : Vec (ℕ × Option Value) Global) → epoch < 2 ^ 63
    → verdict_of council own ballots statuses.items ≡ verdicts.Skipped → IsPlan council epoch own tried ballots statuses.items (plans.Skipped statuses)
unfolding IsPlan
planned-skipped council epoch own tried ballots statuses low is = (verdict-now epoch council own ballots statuses.items low ∙ is, refl)

pub planned-decided : (council : Council) (epoch : ℕ) (own : Option Voted) (tried : Option Table) (ballots : List Ballot) (reports : List Status) (d : Decision) → epoch < 2 ^ 63
    → verdict_of council own ballots reports ≡ verdicts.Decided → IsOwnDecision own tried (length ballots) d → IsPlan council epoch own tried ballots reports (plans.Decided d)
unfolding IsPlan
planned-decided council epoch own tried ballots reports d low is made = (verdict-now epoch council own ballots reports low ∙ is, made)

-- ---- plans

pub plan-open : (p : Parts) → IsPlanIn (state_in p) plans.Open → closed (state_in p) ≡ (state_in p, closings.Open)
unfolding IsPlan
plan-open p is = closes-open p is

pub plan-skipped : (p : Parts) (statuses : Vec (ℕ × Option Value) Global) → IsPlanIn (state_in p) (plans.Skipped statuses)
    → closed (state_in p) ≡ (skipped (state_in p) statuses.items, closings.Skipped p.statuses.items)
unfolding IsPlan
plan-skipped p statuses is = closes-skipped p is.0 ∙ ap (λ l. (skipped (state_in p) l, closings.Skipped p.statuses.items)) (sym is.1)

-- a decision that is planned is what the closing rule says, and has room for the counted ballots
pub record Decides (p : Parts) (d : Decision) : Type 0 where
  pub ends : closed (state_in p) ≡ (decided (state_in p) d.changes.items d.value (votes_for p.votes.items d.value), closings.Decided)
  pub none : d.votes.items ≡ []
  pub room : length p.votes.items ≤ vec_capacity d.votes
  pub applied : apply (table_of (state_in p)) (epoch_of (state_in p)) d.changes.items ≡ Some d.table
  pub sound : IsSound d.table

pub plan-decided : (p : Parts) (d : Decision) → IsLog p → IsPlanIn (state_in p) (plans.Decided d) → Decides p d
unfolding IsPlan
plan-decided p d log is =
    let v : Voted = is.1.0 in
    let own = is.1.1 in
    let made : IsDecision v (own_table (state_in p)) (length (ballots_of p.votes.items)) d = is.1.2 in
    let leads = own-leads (state_in p) v log.kept own in
    let its : own_table (state_in p) ≡ apply (table_of (state_in p)) (epoch_of (state_in p)) v.changes =
    ap (option_and_then (λ (w : Voted). apply (table_of (state_in p)) (epoch_of (state_in p)) w.changes)) own in
    let applied : apply (table_of (state_in p)) (epoch_of (state_in p)) v.changes ≡ Some d.table = sym its ∙ made.table in
    record {
      ends = closes-decided p v is.0 own
          ∙ ap (λ cs. (decided (state_in p) cs (value_of v) (votes_for p.votes.items (value_of v)), closings.Decided)) (sym made.changes)
          ∙ ap (λ x. (decided (state_in p) d.changes.items x (votes_for p.votes.items x), closings.Decided)) (sym made.value);
      none = made.none;
      room = subst (λ n. n ≤ vec_capacity d.votes) (length-map p.votes.items (λ (w : CountedVote). (w.0, w.1))) made.has_room;
      applied = ap (apply (table_of (state_in p)) (epoch_of (state_in p))) made.changes ∙ applied;
      sound = sound-applied (table_of (state_in p)) d.table (epoch_of (state_in p)) v.changes (omega (arith, log.kept.honest.ends_in_order.in_range))
          (subst IsSound (ap (λ (t : Tables). t.base) log.tables) log.sound) leads.are_changes applied;
    }

-- ---- what a log keeps where its epoch ends as planned

pub log-ended : (p q : Parts) (d : Decision) → IsLog p → Decides p d
    → parts_of q ≡ moved (parts_of p) (decided (state_in p) d.changes.items d.value (votes_for p.votes.items d.value)) → q.tables ≡ untried d.table → IsLog q
log-ended p q d log is there same =
    let s : LogState = state_in p in
    let later : LogState = decided s d.changes.items d.value (votes_for p.votes.items d.value) in
    let state : state_in q ≡ later = ap (λ (l : LogParts). l.state) there in
    record {
      kept = subst IsKeptLog (ap (λ (x : LogState × Closing). x.0) is.ends ∙ sym state) (kept-closed s log.kept);
      tables = same ∙ sym (tables-decided s d.changes.items d.value (votes_for p.votes.items d.value) d.table log.kept.honest.ends_in_order log.kept.honest.votes_once is.applied)
          ∙ sym (ap standing_tables state);
      sound = subst IsSound (sym (ap (λ (t : Tables). t.base) same)) is.sound;
    }

pub log-passed : (p q : Parts) (statuses : List Status) → IsLog p → closed (state_in p) ≡ (skipped (state_in p) statuses, closings.Skipped p.statuses.items)
    → parts_of q ≡ moved (parts_of p) (skipped (state_in p) statuses) → q.tables ≡ untried p.tables.base → IsLog q
log-passed p q statuses log is there same =
    let s : LogState = state_in p in
    let state : state_in q ≡ skipped s statuses = ap (λ (l : LogParts). l.state) there in
    record {
      kept = subst IsKeptLog (ap (λ (x : LogState × Closing). x.0) is ∙ sym state) (kept-closed s log.kept);
      tables = same ∙ ap (λ (t : Tables). untried t.base) log.tables ∙ sym (tables-skipped s statuses log.kept.honest.ends_in_order log.kept.honest.votes_once) ∙ sym (ap standing_tables state);
      sound = subst IsSound (sym (ap (λ (t : Tables). t.base) same)) log.sound;
    }
