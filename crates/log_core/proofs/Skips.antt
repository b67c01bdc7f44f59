-- What is judged of a skip, and what it makes of the log, is its row.
use Rattle.std.proofs.Common.{◌≡◌, ◌⊎◌, inl, inr, ℕ, List, length, refl, sym, ap, ◌∙◌, subst, arith, Bool, true, false, Option, None}
use Rattle.std.specs.Result.{result_and}
use Rattle.std.specs.Prelude.{Ok, Err}
use Rattle.std.specs.List.{AllByRecursion}
use Rattle.ar_base.specs.Chaining.{need}
use Rattle.ar_message.specs.Lists as lists
use Rattle.ar_message.specs.declared.lists.LogStatus.{LogStatus}
use Rattle.ar_message.specs.declared.unsigned.Unsigned.{Unsigned}
use Rattle.ar_message.specs.Filling.{only_ended}
use Rattle.party_keys.specs.Directory.{Directory}
use Rattle.vote_quorum.specs.Statuses.{AreStatuses, Excludes, IsMostReported, Status}
use Rattle.ar_council.specs.Council.{Council, council_of}
use Rattle.epoch_log.proofs.Counted.{excludes-each}
use Rattle.epoch_log.proofs.Read.{excludes-tested}
use Rattle.epoch_log.specs.Calls.{SignedStatus, after_skip, CanSkip}
use Rattle.epoch_log.specs.State.{reports_of}
use Rattle.epoch_log.specs.Ending.{excludes_all}
use Rattle.epoch_log.specs.Log.{LogParts, moved}
use Rattle.log_sending.specs.Checks.{Check, none_can_win}
use Rattle.log_core.specs.Steps.{IsStep, ended_epoch}
use Rattle.log_core.specs.Kept.{IsKeptCore}
use Rattle.log_sending.specs.Reported.{most_reported}
use Rattle.log_core.specs.Skipped.{signed_statuses, skip_checks, skip_judged, skip_reply, skip_row}
use Rattle.log_core.specs.State.{LogAnswer, CoreState, LogStep}
use Rattle.log_sending.specs.declared.refusal.LogRefusal.{LogRefusal}
use Rattle.log_sending.specs.declared.refusal.LogRefusal.TheVariants as refusals
use Rattle.log_sending.proofs.Checked.{none-wins}
use Rattle.ar_base.proofs.Failing.{all-good}
use Rattle.log_core.proofs.KeptEndings.{kept-skip_row}
use Rattle.log_core.proofs.KeptRows.{of-council}
use Rattle.log_sending.proofs.Reported.{most-is}
use Rattle.log_core.proofs.Statuses.{are-statuses}
use Rattle.log_core.proofs.Stepping.{core-with, log-in}
use Rattle.log_core.proofs.Replies.{made}

-- ---- whether a root can have a quorum

-- the sizes of a council are those of its directory
of-sizes : (keys : Directory) (statuses : List Status) (n q : ℕ) → n ≡ length keys.logs → q ≡ keys.quorum → Excludes n q statuses
    → Excludes (council_of keys).logs (council_of keys).quorum statuses
of-sizes keys statuses n q logs quorum excludes root = omega (arith, excludes root, logs, quorum)

back-to : (keys : Directory) (statuses : List Status) (n q : ℕ) → n ≡ length keys.logs → q ≡ keys.quorum
    → Excludes (council_of keys).logs (council_of keys).quorum statuses → Excludes n q statuses
back-to keys statuses n q logs quorum excludes root = omega (arith, excludes root, logs, quorum)

abbrev by-test : Council → List Status → Bool → Check
by-test council statuses excluded = need excluded (refusals.CouldBeDecided (most_reported statuses).0 (most_reported statuses).1)

pub none-can : (keys : Directory) (statuses : List Status) (n q : ℕ) → n ≡ length keys.logs → q ≡ keys.quorum → Excludes n q statuses
    → none_can_win (council_of keys) statuses ≡ Ok tt
none-can keys statuses n q logs quorum excludes =
    ap (by-test (council_of keys) statuses) (excludes-tested (council_of keys) statuses (of-sizes keys statuses n q logs quorum excludes))

abbrev told : Option (List ℕ) × ℕ → Check
told most = Err (refusals.CouldBeDecided most.0 most.1)

pub one-could : (keys : Directory) (statuses : List Status) (n q : ℕ) (most : Option (List ℕ) × ℕ) → n ≡ length keys.logs → q ≡ keys.quorum
    → (Excludes n q statuses → ⊥) → IsMostReported statuses most.0 most.1 → none_can_win (council_of keys) statuses ≡ told most
one-could keys statuses n q most logs quorum not is = by (excludes_all (council_of keys) statuses) refl ∙ ap told (most-is statuses most.0 most.1 is)
  where
    by : (b : Bool) → excludes_all (council_of keys) statuses ≡ b → none_can_win (council_of keys) statuses ≡ told (most_reported statuses)
    by true was = absurd (not (back-to keys statuses n q logs quorum (excludes-each (council_of keys) statuses was)))
    by false was = ap (by-test (council_of keys) statuses) was

-- ---- the step

pub can-skip : (s : CoreState) (epoch : ℕ) (statuses : List LogStatus) → IsKeptCore s → lists.AreLogStatuses statuses → skip_judged s epoch statuses ≡ Ok tt
    → CanSkip s.log (signed_statuses statuses)
unfolding skip_judged
can-skip s epoch statuses kept are is =
    let each : AllByRecursion (λ c. c ≡ Ok tt) (skip_checks s epoch statuses) = all-good (skip_checks s epoch statuses) is in
    record {
      of_logs = of-council (λ c. AreStatuses c.logs (reports_of (signed_statuses statuses))) s kept (are-statuses s.keys epoch statuses are each.0);
      excludes = none-wins s.log.council (reports_of (signed_statuses statuses)) each.1.1.0;
    }

skip-made : (s : CoreState) (epoch : ℕ) (statuses : List LogStatus) → skip_judged s epoch statuses ≡ Ok tt → skip_row s epoch statuses ≡ Ok (skip_reply s statuses)
unfolding skip_judged skip_row
skip-made s epoch statuses is = ap (λ c. result_and c (Ok (skip_reply s statuses))) is

abbrev refusal-of : Check → LogStep → LogAnswer
refusal-of (Ok u) reply = Ok reply
refusal-of (Err refusal) reply = Err refusal

pub skip-refused : (s : CoreState) (epoch : ℕ) (statuses : List LogStatus) (refusal : LogRefusal) → (refusal ≡ refusals.Memory) ⊎ (skip_judged s epoch statuses ≡ Err refusal)
    → IsStep (Err refusal) s s (skip_row s epoch statuses)
unfolding skip_judged skip_row
skip-refused s epoch statuses refusal (inl wants) = (refl, inl wants)
skip-refused s epoch statuses refusal (inr is) = (refl, inr (ap (λ c. result_and c (Ok (skip_reply s statuses))) is))

-- what the log is behind a skip
abbrev log-skipped : CoreState → List LogStatus → LogParts
log-skipped s statuses = record { state = after_skip s.log (signed_statuses statuses); keys = s.keys }

pub skip-keeps : (s : CoreState) (epoch : ℕ) (statuses : List LogStatus) (signed : List SignedStatus) (new : LogParts) → IsKeptCore s → lists.AreLogStatuses statuses
    → skip_judged s epoch statuses ≡ Ok tt → signed ≡ signed_statuses statuses → new ≡ moved (log-in s) (after_skip s.log signed) → IsKeptCore (core-with s new)
skip-keeps s epoch statuses signed new kept are judged same is =
    subst (λ (n : LogParts). IsKeptCore (core-with s n)) (sym (is ∙ ap (λ (l : List SignedStatus). moved (log-in s) (after_skip s.log l)) same))
    (kept-skip_row s epoch statuses (skip_reply s statuses) kept are (skip-made s epoch statuses judged))

pub skip-done : (s : CoreState) (epoch : ℕ) (statuses : List LogStatus) (signed : List SignedStatus) (ended : Option (ℕ × Option (List ℕ))) (unsigned : Unsigned) (new : LogParts)
    → skip_judged s epoch statuses ≡ Ok tt → signed ≡ signed_statuses statuses → ended ≡ ended_epoch s.log None → unsigned ≡ only_ended ended
    → new ≡ moved (log-in s) (after_skip s.log signed) → skip_row s epoch statuses ≡ Ok (record { unsigned = unsigned; after = core-with s new })
skip-done s epoch statuses signed ended unsigned new judged same ends sends is =
    let news : new ≡ log-skipped s statuses = is ∙ ap (λ (l : List SignedStatus). moved (log-in s) (after_skip s.log l)) same in
    skip-made s epoch statuses judged
    ∙ sym (ap (λ (u : Unsigned). made u (core-with s new)) (sends ∙ ap only_ended ends) ∙ ap (λ (n : LogParts). made (only_ended (ended_epoch s.log None)) (core-with s n)) news)
