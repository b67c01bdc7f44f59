-- What a log keeps where it ends an epoch of which another log tells.
use Rattle.std.proofs.Common.{◌≡◌, ℕ, ◌<◌, ◌^◌, List, sym, ap, ◌∙◌, subst, arith, Bool, true, false, cond, Some}
use Rattle.std.specs.Prelude.{All, IfSome}
use Rattle.ar_cert.specs.Changes.{Change, IsChange}
use Rattle.ar_statement.specs.Ranges.{IsValue}
use Rattle.vote_quorum.specs.Statuses.{Status}
use Rattle.vote_quorum.specs.declared.value.Value.{Value}
use Rattle.domain_table.specs.Applying.{apply}
use Rattle.domain_table.specs.Sound.{IsSound}
use Rattle.domain_table.specs.Tables.{Table}
use Rattle.domain_table.specs.Tree.{root_of}
use Rattle.epoch_log.specs.Calls.{SignedStatus, after_decide, after_skip, decision_seen, seeing, signed_votes, statuses_seen, CanDecide, CanSkip}
use Rattle.epoch_log.specs.Ending.{decided, may_end, skipped}
use Rattle.epoch_log.specs.Honest.{EndsInOrder, VotesOnce}
use Rattle.epoch_log.specs.Log.{IsLog, LogParts, moved, parts_of, standing_tables, state_in, untried}
use Rattle.epoch_log.specs.State.{IsKeptLog, LogState, epoch_of, reports_of, table_of}
use Rattle.epoch_log.specs.Telling.{tables_if}
use Rattle.epoch_log.specs.declared.parts.Parts.{Parts}
use Rattle.epoch_log.specs.declared.parts.Tables.{Tables}
use Rattle.epoch_log.proofs.Applying.{sound-applied}
use Rattle.epoch_log.proofs.Called.{kept-decide, kept-skip}
use Rattle.epoch_log.proofs.Tried.{tables-decided, tables-skipped}

-- ---- a skip

-- the tables behind it are the log's
tables-skip : (s : LogState) (statuses : List SignedStatus) (before after : Tables) → EndsInOrder s.past.ended → VotesOnce s.past.ended s.past.voted → before ≡ standing_tables s
    → after ≡ tables_if s before before.base → (after ≡ standing_tables (after_skip s statuses)) × (after.base ≡ before.base)
tables-skip s statuses before after order once its behind = by (may_end s.past) behind
  where
    saw : LogState
    saw = seeing s (statuses_seen (epoch_of s) statuses)

    by : (b : Bool) → after ≡ cond b (untried before.base) before → (after ≡ standing_tables (cond b (skipped saw (reports_of statuses)) saw)) × (after.base ≡ before.base)
    by true is = (is ∙ ap (λ (t : Tables). untried t.base) its ∙ sym (tables-skipped saw (reports_of statuses) order once), ap (λ (t : Tables). t.base) is)
    by false is = (is ∙ its, ap (λ (t : Tables). t.base) is)

pub log-skip : (p q : Parts) (statuses : List SignedStatus) → parts_of q ≡ moved (parts_of p) (after_skip (state_in p) statuses) → q.tables ≡ tables_if (state_in p) p.tables p.tables.base → IsLog p
    → CanSkip (state_in p) statuses → All (λ (s : Status). IfSome s.1 IsValue) (reports_of statuses) → IsLog q
log-skip p q statuses there behind log can told =
    let s : LogState = state_in p in
    let state : state_in q ≡ after_skip s statuses = ap (λ (l : LogParts). l.state) there in
    let its = tables-skip s statuses p.tables q.tables log.kept.honest.ends_in_order log.kept.honest.votes_once log.tables behind in
    record {
      kept = subst IsKeptLog (sym state) (kept-skip s statuses log.kept (record { can = can; values = told }));
      tables = its.0 ∙ sym (ap standing_tables state);
      sound = subst IsSound (sym its.1) log.sound;
    }

-- ---- a decision

-- the tables behind a decision are the log's, and the base is sound
record AreItsTables (later : LogState) (tables : Tables) : Type 0 where
  are_its : tables ≡ standing_tables later
  sound : IsSound tables.base

its-tables : (s : LogState) (value : Value) (changes : List Change) (votes : List (ℕ × List ℕ)) (before after : Tables) (table : Table) → EndsInOrder s.past.ended → VotesOnce s.past.ended s.past.voted
    → before ≡ standing_tables s → IsSound before.base → All IsChange changes → apply (table_of s) (epoch_of s) changes ≡ Some table → after ≡ tables_if s before table
    → AreItsTables (after_decide s value changes votes) after
its-tables s value changes votes before after table order once its sound are leads behind = by (may_end s.past) behind
  where
    saw : LogState
    saw = seeing s (decision_seen s value changes votes)

    low : epoch_of s < 2 ^ 64
    low = omega (arith, order.in_range)

    by : (b : Bool) → after ≡ cond b (untried table) before → AreItsTables (cond b (decided saw changes value (signed_votes votes)) saw) after
    by true is = record {
      are_its = is ∙ sym (tables-decided saw changes value (signed_votes votes) table order once leads);
      sound = subst IsSound (sym (ap (λ (t : Tables). t.base) is))
          (sound-applied (table_of s) table (epoch_of s) changes low (subst IsSound (ap (λ (t : Tables). t.base) its) sound) are leads);
    }
    by false is = record { are_its = is ∙ its; sound = subst IsSound (sym (ap (λ (t : Tables). t.base) is)) sound }

pub log-decide : (p q : Parts) (changes : List Change) (value : Value) (votes : List (ℕ × List ℕ)) (table : Table) → value.base ≡ root_of (table_of (state_in p))
    → parts_of q ≡ moved (parts_of p) (after_decide (state_in p) value changes votes) → q.tables ≡ tables_if (state_in p) p.tables table
    → apply (table_of (state_in p)) (epoch_of (state_in p)) changes ≡ Some table → IsLog p
    → CanDecide (state_in p) changes value.root votes → All IsChange changes → IsValue value → IsLog q
log-decide p q changes value votes table from there behind leads log can are digests =
    let s : LogState = state_in p in
    let later : LogState = after_decide s value changes votes in
    let state : state_in q ≡ later = ap (λ (l : LogParts). l.state) there in
    let its : AreItsTables later q.tables = its-tables s value changes votes p.tables q.tables table log.kept.honest.ends_in_order log.kept.honest.votes_once log.tables log.sound are leads behind in
    record {
      kept = subst IsKeptLog (sym state) (kept-decide s value changes votes log.kept (record { can = can; from_base = from; are_changes = are; are_digests = digests }));
      tables = its.are_its ∙ sym (ap standing_tables state);
      sound = its.sound;
    }
