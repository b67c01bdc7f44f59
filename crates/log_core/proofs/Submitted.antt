-- What a change that is submitted is judged to be is its row.
use Rattle.std.proofs.Common.{◌≡◌, Bool, false, cond, refl, sym, ap, ◌∙◌, ◌⊎◌, inl, inr, subst, List, [], ◌∷◌, ◌++◌, Ok, Err, Result}
use Rattle.std.specs.Result.{result_and}
use Rattle.std.specs.List.{AllByRecursion}
use Rattle.ar_cert.specs.Changes.{Change, IsChange}
use Rattle.ar_message.specs.declared.unsigned.Unsigned.{Unsigned}
use Rattle.ar_message.specs.Filling.{nothing}
use Rattle.epoch_log.specs.Calls.{AreEndorsers, after_endorsed}
use Rattle.epoch_log.specs.Log.{LogParts}
use Rattle.log_sending.specs.Checks.{Check}
use Rattle.ar_base.specs.FirstFailing.{first_error}
use Rattle.log_core.specs.Steps.{IsStep}
use Rattle.log_core.specs.Kept.{IsKeptCore}
use Rattle.ar_claims.specs.Lists.{endorsements_in}
use Rattle.log_core.specs.State.{LogAnswer, CoreState, LogStep}
use Rattle.log_sending.specs.Queued.{is_queued}
use Rattle.log_core.specs.Submit.{queueing, submit_checks, submit_judged, submit_reply, submit_row}
use Rattle.log_sending.specs.declared.refusal.LogRefusal.{LogRefusal}
use Rattle.log_sending.specs.declared.refusal.LogRefusal.TheVariants as refusals
use Rattle.ar_base.proofs.Failing.{all-good}
use Rattle.log_core.proofs.KeptRows.{kept-submit, of-council}
use Rattle.log_sending.proofs.SignerLaws.{each-known, its-endorsers}

abbrev value-or : {A : Type 0} → Result A LogRefusal → A → A
value-or (Ok a) other = a
value-or (Err e) other = other

pub given-holds : {A : Type 0} (check : Check) (value x : A) → result_and check (Ok value) ≡ Ok x → (check ≡ Ok tt) × (value ≡ x)
given-holds (Ok u) value x is = (refl, ap (λ r. value-or r value) is)
given-holds (Err refusal) value x is = absurd cc

pub judged-holds : (s : CoreState) (change : Change) (queued : Bool) → submit_judged s change ≡ Ok queued
    → (first_error (submit_checks s change) ≡ Ok tt) × (is_queued s.queue change ≡ queued)
unfolding submit_judged
judged-holds s change queued is = given-holds (first_error (submit_checks s change)) (is_queued s.queue change) queued is

pub judged-row : (s : CoreState) (change : Change) (queued : Bool) → submit_judged s change ≡ Ok queued
    → submit_row s change ≡ Ok (record { unsigned = nothing; after = cond queued s (queueing s change) })
unfolding submit_row
judged-row s change queued is =
    let h = judged-holds s change queued is in
    ap (λ c. result_and c (Ok (submit_reply s change))) h.0 ∙ ap (λ b. Ok (record { unsigned = nothing; after = cond b s (queueing s change) })) h.1

abbrev refusal-in : {A : Type 0} → Result A LogRefusal → LogStep → LogAnswer
refusal-in (Ok a) reply = Ok reply
refusal-in (Err refusal) reply = Err refusal

pub given-refused : {A : Type 0} (check : Check) (value : A) (reply : LogStep) (refusal : LogRefusal) → result_and check (Ok value) ≡ Err refusal → result_and check (Ok reply) ≡ Err refusal
given-refused (Ok u) value reply refusal is = absurd cc
given-refused (Err e) value reply refusal is = ap (λ r. refusal-in r reply) is

pub judged-refused : (s : CoreState) (change : Change) (refusal : LogRefusal) → submit_judged s change ≡ Err refusal → submit_row s change ≡ Err refusal
unfolding submit_row submit_judged
judged-refused s change refusal is = given-refused (first_error (submit_checks s change)) (is_queued s.queue change) (submit_reply s change) refusal is

pub may-enqueue : (s : CoreState) (change : Change) (queued : Bool) → IsKeptCore s → submit_judged s change ≡ Ok queued → AreEndorsers s.log.council change
may-enqueue s change queued kept is =
    let each : AllByRecursion (λ c. c ≡ Ok tt) (submit_checks s change) = all-good (submit_checks s change) (judged-holds s change queued is).0 in
    of-council (λ c. AreEndorsers c change) s kept (its-endorsers s.keys change (each-known s.keys (endorsements_in change) each.0))

pub enqueue-keeps : (s : CoreState) (change : Change) → IsKeptCore s → IsChange change → submit_judged s change ≡ Ok false → IsKeptCore (queueing s change)
enqueue-keeps s change kept is-change is =
    kept-submit s change (record { unsigned = nothing; after = queueing s change }) kept is-change (judged-row s change false is)

pub submit-refused : (s : CoreState) (change : Change) (refusal : LogRefusal) → (refusal ≡ refusals.Memory) ⊎ (submit_judged s change ≡ Err refusal)
    → IsStep (Err refusal) s s (submit_row s change)
submit-refused s change refusal (inl wants) = (refl, inl wants)
submit-refused s change refusal (inr is) = (refl, inr (judged-refused s change refusal is))

pub submit-made : (s : CoreState) (change : Change) (queued : Bool) (unsigned : Unsigned) (after : CoreState) → submit_judged s change ≡ Ok queued
    → unsigned ≡ nothing → after ≡ cond queued s (queueing s change) → submit_row s change ≡ Ok (record { unsigned = unsigned; after = after })
submit-made s change queued unsigned after is sends ends =
    judged-row s change queued is ∙ sym (ap (λ u. Ok (record { unsigned = u; after = after })) sends ∙ ap (λ a. Ok (record { unsigned = nothing; after = a })) ends)

pub enqueued-keeps : (s : CoreState) (change : Change) (log : LogParts) (queue : List Change) → IsKeptCore s → IsChange change → submit_judged s change ≡ Ok false
    → log ≡ record { state = after_endorsed s.log change; keys = s.keys } → queue ≡ s.queue ++ change ∷ []
    → IsKeptCore (record { log = log.state; keys = log.keys; queue = queue; signature_len = s.signature_len })
enqueued-keeps s change log queue kept is-change judged logs queues =
    subst (λ (l : LogParts). IsKeptCore (record { log = l.state; keys = l.keys; queue = queue; signature_len = s.signature_len })) (sym logs)
    (subst (λ (q : List Change). IsKeptCore (record { log = after_endorsed s.log change; keys = s.keys; queue = q; signature_len = s.signature_len })) (sym queues)
    (enqueue-keeps s change kept is-change judged))
