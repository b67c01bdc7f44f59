-- A decision of which another log tells is its row.
use Rattle.std.proofs.Common.{◌≡◌, ℕ, Bool, true, false, cond, List, refl, sym, ap, ◌∙◌, subst, ◌⊎◌, inl, inr, Option, Some, None}
use Rattle.std.specs.Result.{result_and}
use Rattle.std.specs.Prelude.{All, Ok, Err, is_some}
use Rattle.ar_cert.specs.Changes.{Change, IsChange}
use Rattle.ar_statement.specs.Ranges.{IsValue}
use Rattle.ar_message.specs.Lists.{AreVotes}
use Rattle.ar_message.specs.declared.unsigned.Unsigned.{Unsigned}
use Rattle.ar_message.specs.Filling.{only_ended}
use Rattle.vote_quorum.specs.declared.value.Value.{Value}
use Rattle.epoch_log.specs.Calls.{MayDecide, after_decide, CanDecide}
use Rattle.epoch_log.specs.Ending.{may_end}
use Rattle.epoch_log.specs.Log.{LogParts, moved}
use Rattle.epoch_log.specs.State.{LogState, epoch_of}
use Rattle.epoch_log.specs.Telling.{to_root}
use Rattle.log_core.specs.Steps.{IsStep, ended_epoch}
use Rattle.ar_base.specs.FirstFailing.{first_error}
use Rattle.log_sending.specs.Closings.{still_wanted}
use Rattle.log_core.specs.Decided.{Decision, decision_checks, decision_reply, decision_row, decision_state, plain_votes}
use Rattle.log_core.specs.Kept.{IsKeptCore}
use Rattle.log_core.specs.State.{LogAnswer, CoreState}
use Rattle.log_sending.specs.declared.refusal.LogRefusal.{LogRefusal}
use Rattle.log_sending.specs.declared.refusal.LogRefusal.TheVariants as refusals
use Rattle.ar_base.proofs.Failing.{all-good}
use Rattle.log_core.proofs.KeptEndings.{decision-may, kept-decision}
use Rattle.log_core.proofs.Stepping.{log-in}
use Rattle.log_core.proofs.Replies.{core-of}

-- ---- what is judged

decision-made : (s : CoreState) (d : Decision) → first_error (decision_checks s d) ≡ Ok tt → decision_row s d ≡ Ok (decision_reply s d)
unfolding decision_row
decision-made s d is = ap (λ c. result_and c (Ok (decision_reply s d))) is

pub decision-refused : (s : CoreState) (d : Decision) (refusal : LogRefusal) → (refusal ≡ refusals.Memory) ⊎ (first_error (decision_checks s d) ≡ Err refusal)
    → IsStep (Err refusal) s s (decision_row s d)
unfolding decision_row
decision-refused s d refusal (inl wants) = (refl, inl wants)
decision-refused s d refusal (inr is) = (refl, inr (ap (λ c. result_and c (Ok (decision_reply s d))) is))

pub can-decide : (s : CoreState) (d : Decision) (votes : List (ℕ × List ℕ)) → IsKeptCore s → IsValue d.value → All IsChange d.changes → AreVotes d.votes
    → first_error (decision_checks s d) ≡ Ok tt → votes ≡ plain_votes d.votes → CanDecide s.log d.changes d.value.root votes
can-decide s d votes kept digests are votes-are is same =
    let may : MayDecide s.log d.value d.changes (plain_votes d.votes) = decision-may s d kept digests are votes-are (all-good (decision_checks s d) is) in
    subst (λ vs. CanDecide s.log d.changes d.value.root vs) (sym same) may.can

-- ---- the step

-- the value is over the log's base
its-value : (s : CoreState) (d : Decision) → IsKeptCore s → IsValue d.value → All IsChange d.changes → AreVotes d.votes → first_error (decision_checks s d) ≡ Ok tt
    → to_root s.log d.value.root ≡ d.value
its-value s d kept digests are votes-are is =
    let may : MayDecide s.log d.value d.changes (plain_votes d.votes) = decision-may s d kept digests are votes-are (all-good (decision_checks s d) is) in
    ap (λ (base : List ℕ). let v : Value = record { base = base; root = d.value.root } in v) (sym may.from_base)

-- what the log is behind the decision
abbrev pub log-decided : CoreState → Decision → LogParts
log-decided s d = moved (log-in s) (decision_state s d)

pub is-decided : (s : CoreState) (d : Decision) (votes : List (ℕ × List ℕ)) (new : LogParts) → IsKeptCore s → IsValue d.value → All IsChange d.changes → AreVotes d.votes
    → first_error (decision_checks s d) ≡ Ok tt → votes ≡ plain_votes d.votes
    → new ≡ moved (log-in s) (after_decide s.log (to_root s.log d.value.root) d.changes votes) → new ≡ log-decided s d
is-decided s d votes new kept digests are votes-are is same news =
    news ∙ ap (λ (v : Value). moved (log-in s) (after_decide s.log v d.changes votes)) (its-value s d kept digests are votes-are is)
    ∙ ap (λ (vs : List (ℕ × List ℕ)). moved (log-in s) (after_decide s.log d.value d.changes vs)) same

-- the queue behind an epoch that ended, or did not
abbrev pub queue-if : Bool → LogState → List Change → List Change
queue-if ended after queue = cond ended (still_wanted after queue) queue

-- an epoch is told as ended where it may end
ended-is : (b : Bool) (epoch : ℕ) (root : List ℕ) → is_some (cond {A = Option (ℕ × Option (List ℕ))} b (Some (epoch, Some root)) None) ≡ b
ended-is true epoch root = refl
ended-is false epoch root = refl

pub queue-is : (s : CoreState) (root : List ℕ) (after : LogState) (queue : List Change) (ended : Bool) (told : Option (ℕ × Option (List ℕ))) → ended ≡ is_some told
    → told ≡ ended_epoch s.log (Some root) → queue ≡ queue-if ended after s.queue → queue ≡ queue-if (may_end s.log.past) after s.queue
queue-is s root after queue ended told tests tells queues =
    queues ∙ ap (λ b. queue-if b after s.queue) (tests ∙ ap is_some tells ∙ ended-is (may_end s.log.past) (epoch_of s.log) root)

core-is : (s : CoreState) (d : Decision) (new : LogParts) (queue : List Change) → new ≡ log-decided s d → queue ≡ queue-if (may_end s.log.past) new.state s.queue
    → core-of s new queue ≡ (decision_reply s d).after
core-is s d new queue news queues =
    ap (core-of s new) queues ∙ ap (λ (n : LogParts). core-of s n (queue-if (may_end s.log.past) n.state s.queue)) news

pub decision-keeps : (s : CoreState) (d : Decision) (new : LogParts) (queue : List Change) → IsKeptCore s → IsValue d.value → All IsChange d.changes → AreVotes d.votes
    → first_error (decision_checks s d) ≡ Ok tt → new ≡ log-decided s d → queue ≡ queue-if (may_end s.log.past) new.state s.queue → IsKeptCore (core-of s new queue)
decision-keeps s d new queue kept digests are votes-are is news queues =
    subst IsKeptCore (sym (core-is s d new queue news queues)) (kept-decision s d (decision_reply s d) kept digests are votes-are (decision-made s d is))

pub decision-ends : (s : CoreState) (d : Decision) (new : LogParts) (queue : List Change) (unsigned : Unsigned) → first_error (decision_checks s d) ≡ Ok tt
    → new ≡ log-decided s d → queue ≡ queue-if (may_end s.log.past) new.state s.queue
    → unsigned ≡ only_ended (ended_epoch s.log (Some d.value.root))
    → decision_row s d ≡ Ok (record { unsigned = unsigned; after = core-of s new queue })
decision-ends s d new queue unsigned is news queues sends =
    decision-made s d is
    ∙ sym (ap (λ (u : Unsigned). let a : LogAnswer = Ok (record { unsigned = u; after = core-of s new queue }) in a) sends
    ∙ ap (λ (c : CoreState). let a : LogAnswer = Ok (record { unsigned = (decision_reply s d).unsigned; after = c }) in a) (core-is s d new queue news queues))
