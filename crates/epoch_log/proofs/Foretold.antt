-- What is foreseen by the verdict is what the closing rule makes of the log.
use Rattle.std.proofs.Common.{◌≡◌, ◌≢◌, ℕ, ◌^◌, List, [], ◌∷◌, ◌++◌, refl, sym, ap, ◌∙◌, subst, Bool, true, false, cond, Option, Some, None, nat_lt}
use Rattle.std.specs.Prelude.{All, IfOk, IfSome, IsSome, Result, Ok, Err}
use Rattle.std.specs.Option.{option_map}
use Rattle.std.specs.declared.alloc.AllocError.{AllocError}
use Rattle.ar_cert.specs.Changes.{Change}
use Rattle.ar_council.specs.Council.{Council}
use Rattle.vote_quorum.specs.Ballots.{Ballot}
use Rattle.vote_quorum.specs.Statuses.{Status}
use Rattle.vote_quorum.specs.declared.value.Value.{Value}
use Rattle.epoch_log.specs.Calls.{after_ballot, after_propose, after_status_seen, casting, own_value, proposing, stating, vote_of, log_with_ballot, with_report, with_status, with_vote}
use Rattle.epoch_log.specs.Ending.{closed, own_vote}
use Rattle.epoch_log.specs.Foreseeing.{IsForeseen, foretold, foretold_by, foretold_in, newest_by}
use Rattle.epoch_log.specs.Plans.{verdict_at, verdict_of}
use Rattle.epoch_log.specs.State.{CountedStatus, CountedVote, LogState, ballots_of, epoch_of, reports_of}
use Rattle.epoch_log.specs.declared.closing.Verdict.{Verdict}
use Rattle.epoch_log.specs.declared.closing.Verdict.TheVariants as verdicts
use Rattle.epoch_log.specs.declared.entries.Voted.{Voted}
use Rattle.epoch_log.specs.declared.foreseeing.Foreseen.{Foreseen}
use Rattle.epoch_log.specs.declared.foreseeing.Foreseen.TheVariants as foreseen
use Rattle.epoch_log.proofs.Plans.{closed-outcome, outcome, own-decides}
use Rattle.epoch_log.proofs.Tried.{own-told}

-- ---- the closing rule

by-verdict : (s : LogState) (v : Verdict) (own : Option Voted) → own_vote s.past.voted (epoch_of s) ≡ own
    → IsForeseen (outcome s v own) (foretold_by v (epoch_of s) own s.votes s.statuses)
by-verdict s verdicts.Open own is = refl
by-verdict s verdicts.Skipped own is = refl
by-verdict s verdicts.Decided None is = refl
by-verdict s verdicts.Decided (Some v) is = (refl, refl, ap (option_map (λ v. v.changes)) is)

pub foreseen-closed : (s : LogState) → IsForeseen (closed s) (foretold_in s)
unfolding foretold
foreseen-closed s =
    let own : Option Voted = own_vote s.past.voted (epoch_of s) in
    let v : Verdict = verdict_at (epoch_of s) s.council own (ballots_of s.votes) (reports_of s.statuses) in
    subst (λ step. IsForeseen step (foretold_by v (epoch_of s) own s.votes s.statuses)) (sym (closed-outcome s)) (by-verdict s v own refl)

-- ---- what is foreseen by a verdict

pub foretold-open : (council : Council) (epoch : ℕ) (own : Option Voted) (votes : List CountedVote) (statuses : List CountedStatus) (v : Verdict)
    → v ≡ verdict_at epoch council own (ballots_of votes) (reports_of statuses) → v ≡ verdicts.Open
    → foreseen.Open ≡ foretold council epoch own votes statuses
unfolding foretold
foretold-open council epoch own votes statuses v is opens = ap (λ w. foretold_by w epoch own votes statuses) (sym opens ∙ is)

pub foretold-skipped : (council : Council) (epoch : ℕ) (own : Option Voted) (votes : List CountedVote) (statuses : List CountedStatus) (v : Verdict)
    → v ≡ verdict_at epoch council own (ballots_of votes) (reports_of statuses) → v ≡ verdicts.Skipped
    → foreseen.Skipped statuses ≡ foretold council epoch own votes statuses
unfolding foretold
foretold-skipped council epoch own votes statuses v is skips = ap (λ w. foretold_by w epoch own votes statuses) (sym skips ∙ is)

decided-by : (epoch : ℕ) (own : Option Voted) (votes : List CountedVote) (statuses : List CountedStatus) (f : Foreseen) → IsSome own
    → IfSome own (λ v. f ≡ foreseen.Decided v.changes (newest_by epoch v votes)) → f ≡ foretold_by verdicts.Decided epoch own votes statuses
decided-by epoch None votes statuses f some is = absurd cc
decided-by epoch (Some v) votes statuses f some is = is

pub foretold-decided : (council : Council) (epoch : ℕ) (own : Option Voted) (votes : List CountedVote) (statuses : List CountedStatus) (v : Verdict)
    (e : ℕ) (counted : List CountedVote) (r : Result Foreseen AllocError)
    → v ≡ verdict_at epoch council own (ballots_of votes) (reports_of statuses) → v ≡ verdicts.Decided → IsSome own → e ≡ epoch → counted ≡ votes
    → IfOk r (λ f. IfSome own (λ w. f ≡ foreseen.Decided w.changes (newest_by e w counted))) → IfOk r (λ f. f ≡ foretold council epoch own votes statuses)
unfolding foretold
foretold-decided council epoch own votes statuses v e counted (Err error) is decides some now all by = tt
foretold-decided council epoch own votes statuses v e counted (Ok f) is decides some now all by =
    decided-by e own counted statuses f some by
    ∙ ap (λ n. foretold_by verdicts.Decided n own counted statuses) now ∙ ap (λ l. foretold_by verdicts.Decided epoch own l statuses) all
    ∙ ap (λ w. foretold_by w epoch own votes statuses) (sym decides ∙ is)

-- a decision is of an own vote
pub own-foretold : (council : Council) (epoch : ℕ) (own : Option Voted) (ballots : List Ballot) (reports : List Status) (v : Verdict)
    → v ≡ verdict_at epoch council own ballots reports → v ≡ verdicts.Decided → IsSome own
own-foretold council epoch own ballots reports v is decides = by (nat_lt epoch (2 ^ 63)) (sym is ∙ decides)
  where
    by : (b : Bool) → cond b (verdict_of council own ballots reports) verdicts.Open ≡ verdicts.Decided → IsSome own
    by true now = own-decides council own ballots reports now
    by false never = absurd cc

-- ---- the calls

pub foreseen-ballot : (s : LogState) (log : ℕ) (value : Value) (signature : List ℕ) (own : Option Voted) (r : Result Foreseen AllocError) → own ≡ own_vote s.past.voted (epoch_of s)
    → IfOk r (λ f. f ≡ foretold s.council (epoch_of s) own (with_vote s.votes (log, value, Some signature)) s.statuses)
    → IfOk r (IsForeseen (after_ballot s log value signature))
foreseen-ballot s log value signature own (Err error) mine is = tt
foreseen-ballot s log value signature own (Ok f) mine is =
    subst (IsForeseen (after_ballot s log value signature))
    (sym (is ∙ ap (λ o. foretold s.council (epoch_of s) o (with_vote s.votes (log, value, Some signature)) s.statuses) mine))
    (foreseen-closed (log_with_ballot s log value (Some signature)))

pub foreseen-status : (s : LogState) (log : ℕ) (value : Option Value) (signature : Option (List ℕ)) (own : Option Voted) (r : Result Foreseen AllocError) → own ≡ own_vote s.past.voted (epoch_of s)
    → IfOk r (λ f. f ≡ foretold s.council (epoch_of s) own s.votes (with_status s.statuses (log, value, signature)))
    → IfOk r (IsForeseen (after_status_seen s log value signature))
foreseen-status s log value signature own (Err error) mine is = tt
foreseen-status s log value signature own (Ok f) mine is =
    subst (IsForeseen (after_status_seen s log value signature))
    (sym (is ∙ ap (λ o. foretold s.council (epoch_of s) o s.votes (with_status s.statuses (log, value, signature))) mine))
    (foreseen-closed (with_report s log value signature))

pub foreseen-own-status : (s : LogState) (value : Option Value) (own : Option Voted) (r : Result Foreseen AllocError) → own ≡ own_vote s.past.voted (epoch_of s) → value ≡ own_value s
    → IfOk r (λ f. f ≡ foretold s.council (epoch_of s) own s.votes (with_status s.statuses (s.me, value, None)))
    → IfOk r (IsForeseen (after_status_seen (stating s) s.me (own_value s) None))
foreseen-own-status s value own r mine same is =
    foreseen-status (stating s) s.me (own_value s) None own r mine
    (subst (λ (v : Option Value). IfOk r (λ f. f ≡ foretold s.council (epoch_of s) own s.votes (with_status s.statuses (s.me, v, None)))) same is)

pub foreseen-propose : (s : LogState) (value : Value) (changes : List Change) (vote : Voted) (r : Result Foreseen AllocError) → All (λ v. v.epoch ≢ epoch_of s) s.past.voted
    → vote ≡ vote_of s value changes
    → IfOk r (λ f. f ≡ foretold s.council (epoch_of s) (Some vote) (with_vote s.votes (s.me, value, None)) s.statuses)
    → IfOk r (IsForeseen (after_propose s value changes))
foreseen-propose s value changes vote (Err error) none mine is = tt
foreseen-propose s value changes vote (Ok f) none mine is =
    let own : Voted = vote_of s value changes in
    let told : f ≡ foretold s.council (epoch_of s) (own_vote (s.past.voted ++ own ∷ []) (epoch_of s)) (with_vote s.votes (s.me, value, None)) s.statuses =
    is ∙ ap (λ o. foretold s.council (epoch_of s) o (with_vote s.votes (s.me, value, None)) s.statuses) (ap Some mine ∙ sym (own-told s.past.voted own none)) in
    subst (IsForeseen (after_propose s value changes)) (sym told) (foreseen-closed (log_with_ballot (casting (proposing s value) own) s.me value None))
