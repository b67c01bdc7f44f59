-- A step that ends with the closing rule is its row's.
use Rattle.std.proofs.Common.{◌≡◌, ℕ, ◌<◌, List, [], ◌∷◌, ◌++◌, refl, sym, ap, ◌∙◌, ◌⊎◌, inl, inr, Result, Ok, Err, Option, Some}
use Rattle.std.specs.Result.{result_and}
use Rattle.ar_cert.specs.Changes.{Change}
use Rattle.ar_message.specs.declared.unsigned.Unsigned.{Unsigned}
use Rattle.ar_council.specs.Values.{status_claim, vote_claim}
use Rattle.ar_statement.specs.Claims.{log_party}
use Rattle.key_roll.specs.Due.{DueParts}
use Rattle.key_roll.specs.Entry.{entered}
use Rattle.ar_statement.specs.declared.fault.BookFault.{BookFault}
use Rattle.vote_quorum.specs.declared.value.Value.{Value}
use Rattle.epoch_log.specs.Answers.{beside, stated}
use Rattle.epoch_log.specs.Calls.{MayState, after_ballot, after_state, after_status_seen, own_status_text}
use Rattle.epoch_log.specs.Log.{LogParts}
use Rattle.epoch_log.specs.State.{LogState, epoch_of}
use Rattle.epoch_log.specs.declared.entries.Closing.{Closing}
use Rattle.log_core.specs.Balloted.{ballot_checks, ballot_judged, ballot_reply, ballot_row}
use Rattle.log_sending.specs.Checks.{Check, leaves_left, not_stated}
use Rattle.ar_base.specs.FirstFailing.{first_error}
use Rattle.log_core.specs.Steps.{IsStep}
use Rattle.log_sending.specs.Closings.{closing_drafts, ended_by, queue_after}
use Rattle.log_core.specs.Replies.{closing_reply, core_after}
use Rattle.log_core.specs.Kept.{IsKeptCore}
use Rattle.log_core.specs.Passing.{passing_checks, passing_judged, passing_reply, passing_row, status_drafts}
use Rattle.log_sending.specs.Sending.{Composed, DraftMessage, none_composed, sealed, unsigned_of, with_drafts}
use Rattle.party_keys.specs.Signers.{signed_by}
use Rattle.log_core.specs.State.{CoreState, LogStep}
use Rattle.log_core.specs.Stated.{status_checks, status_judged, status_reply, status_row}
use Rattle.log_sending.specs.declared.refusal.LogRefusal.{LogRefusal}
use Rattle.log_sending.specs.declared.refusal.LogRefusal.TheVariants as refusals
use Rattle.log_sending.proofs.Checked.{none-stated, same-epoch}
use Rattle.ar_base.proofs.Failing.{all-good}
use Rattle.log_core.proofs.KeptRows.{of-council}
use Rattle.log_core.proofs.Replies.{core-of, made}
use Rattle.log_sending.proofs.SignerLaws.{first-log}
use Rattle.log_sending.proofs.Sealing.{sealed-drafts}

-- a row that refuses leaves all as it was
pub row-refused : (check : Check) (s : CoreState) (reply : LogStep) (refusal : LogRefusal) → (refusal ≡ refusals.Memory) ⊎ (check ≡ Err refusal)
    → IsStep (Err refusal) s s (result_and check (Ok reply))
row-refused check s reply refusal (inl wants) = (refl, inl wants)
row-refused check s reply refusal (inr is) = (refl, inr (ap (λ c. result_and c (Ok reply)) is))

-- what is composed before a step and sealed behind it, with what is left of the queue, is the reply of its row
pub close-step : (s : CoreState) (check : Check) (drafts : List DraftMessage) (x : LogState × Closing) (ready : Composed) (unsigned : Unsigned) (log : LogParts)
    (queue : List Change) (closing : Closing) (epoch : ℕ)
    → check ≡ Ok tt → ready ≡ with_drafts none_composed (drafts ++ closing_drafts x.1 s.signature_len s.log x.0) → closing ≡ x.1
    → log ≡ record { state = x.0; keys = s.keys } → epoch ≡ epoch_of s.log → queue ≡ queue_after closing log.state s.queue
    → unsigned ≡ sealed log.state.past.signed ready (ended_by closing epoch log.state.newest)
    → result_and check (Ok (closing_reply s s.log drafts x)) ≡ made unsigned (core-of s log queue)
close-step s check drafts x ready unsigned log queue closing epoch holds readied closes logs epochs queues sends =
    let all : List DraftMessage = drafts ++ closing_drafts x.1 s.signature_len s.log x.0 in
    let ended : Option (ℕ × Option (List ℕ)) = ended_by x.1 (epoch_of s.log) x.0.newest in
    let left : List Change = queue_after x.1 x.0 s.queue in
    let sent : unsigned ≡ unsigned_of x.0.past.signed all ended =
    sends
    ∙ ap (λ (l : LogParts). sealed l.state.past.signed ready (ended_by closing epoch l.state.newest)) logs
    ∙ ap (λ (k : Closing). sealed x.0.past.signed ready (ended_by k epoch x.0.newest)) closes
    ∙ ap (λ (e : ℕ). sealed x.0.past.signed ready (ended_by x.1 e x.0.newest)) epochs
    ∙ ap (λ (c : Composed). sealed x.0.past.signed c ended) readied
    ∙ sealed-drafts x.0.past.signed all ended in
    let keeps : queue ≡ left =
    queues ∙ ap (λ (l : LogParts). queue_after closing l.state s.queue) logs ∙ ap (λ (k : Closing). queue_after k x.0 s.queue) closes in
    ap (λ c. result_and c (Ok (closing_reply s s.log drafts x))) holds
    ∙ sym
    (ap (λ (u : Unsigned). made u (core-of s log queue)) sent
    ∙ ap (λ (l : LogParts). made (unsigned_of x.0.past.signed all ended) (core-of s l queue)) logs
    ∙ ap (λ (q : List Change). made (unsigned_of x.0.past.signed all ended) (core_after s x.0 q)) keeps)

-- ---- Ballot

pub ballot-refused : (s : CoreState) (log epoch : ℕ) (value : Value) (signature : List ℕ) (refusal : LogRefusal)
    → (refusal ≡ refusals.Memory) ⊎ (ballot_judged s log epoch value signature ≡ Err refusal) → IsStep (Err refusal) s s (ballot_row s log epoch value signature)
unfolding ballot_row ballot_judged
ballot-refused s log epoch value signature refusal is = row-refused (first_error (ballot_checks s log epoch value signature)) s (ballot_reply s log value signature) refusal is

-- who voted is a log of the council, in the current epoch
pub ballot-member : (s : CoreState) (log epoch : ℕ) (value : Value) (signature : List ℕ) → IsKeptCore s → ballot_judged s log epoch value signature ≡ Ok tt
    → log < s.log.council.logs
unfolding ballot_judged
ballot-member s log epoch value signature kept is =
    let each = all-good (ballot_checks s log epoch value signature) is in
    of-council (λ c. log < c.logs) s kept (first-log s.keys log (signed_by (log_party log) (vote_claim log epoch value) signature) [] refl each.0)

pub ballot-step : (s : CoreState) (log epoch : ℕ) (value : Value) (signature : List ℕ) (ready : Composed) (unsigned : Unsigned) (parts : LogParts)
    (queue : List Change) (closing : Closing) → let x : LogState × Closing = after_ballot s.log log value signature in
    ballot_judged s log epoch value signature ≡ Ok tt → ready ≡ with_drafts none_composed (closing_drafts x.1 s.signature_len s.log x.0) → closing ≡ x.1
    → parts ≡ record { state = x.0; keys = s.keys } → queue ≡ queue_after closing parts.state s.queue
    → unsigned ≡ sealed parts.state.past.signed ready (ended_by closing epoch parts.state.newest)
    → ballot_row s log epoch value signature ≡ made unsigned (core-of s parts queue)
unfolding ballot_row ballot_judged
ballot-step s log epoch value signature ready unsigned parts queue closing is readied closes logs queues sends =
    let each = all-good (ballot_checks s log epoch value signature) is in
    close-step s (first_error (ballot_checks s log epoch value signature)) [] (after_ballot s.log log value signature) ready unsigned parts queue closing epoch
    is readied closes logs (same-epoch s.log epoch each.1.0) queues sends

-- ---- StatusNote

pub status-refused : (s : CoreState) (log epoch : ℕ) (value : Option Value) (signature : List ℕ) (refusal : LogRefusal)
    → (refusal ≡ refusals.Memory) ⊎ (status_judged s log epoch value signature ≡ Err refusal) → IsStep (Err refusal) s s (status_row s log epoch value signature)
unfolding status_row status_judged
status-refused s log epoch value signature refusal is = row-refused (first_error (status_checks s log epoch value signature)) s (status_reply s log value signature) refusal is

pub status-member : (s : CoreState) (log epoch : ℕ) (value : Option Value) (signature : List ℕ) → IsKeptCore s → status_judged s log epoch value signature ≡ Ok tt
    → log < s.log.council.logs
unfolding status_judged
status-member s log epoch value signature kept is =
    let each = all-good (status_checks s log epoch value signature) is in
    of-council (λ c. log < c.logs) s kept (first-log s.keys log (signed_by (log_party log) (status_claim log epoch value) signature) [] refl each.0)

pub status-step : (s : CoreState) (log epoch : ℕ) (value : Option Value) (signature : List ℕ) (ready : Composed) (unsigned : Unsigned) (parts : LogParts)
    (queue : List Change) (closing : Closing) → let x : LogState × Closing = after_status_seen s.log log value (Some signature) in
    status_judged s log epoch value signature ≡ Ok tt → ready ≡ with_drafts none_composed (closing_drafts x.1 s.signature_len s.log x.0) → closing ≡ x.1
    → parts ≡ record { state = x.0; keys = s.keys } → queue ≡ queue_after closing parts.state s.queue
    → unsigned ≡ sealed parts.state.past.signed ready (ended_by closing epoch parts.state.newest)
    → status_row s log epoch value signature ≡ made unsigned (core-of s parts queue)
unfolding status_row status_judged
status-step s log epoch value signature ready unsigned parts queue closing is readied closes logs queues sends =
    let each = all-good (status_checks s log epoch value signature) is in
    close-step s (first_error (status_checks s log epoch value signature)) [] (after_status_seen s.log log value (Some signature)) ready unsigned parts queue closing epoch
    is readied closes logs (same-epoch s.log epoch each.1.0) queues sends

-- ---- the order to pass

last-check : (check : Check) → first_error (check ∷ []) ≡ check
last-check (Ok u) = refl
last-check (Err refusal) = refl

pub passing-judges : (s : CoreState) (check : Check) → not_stated s.log ≡ Ok tt → check ≡ leaves_left s.log.past.signed (own_status_text s.log ∷ [])
    → check ≡ passing_judged s
unfolding passing_judged
passing-judges s check states leaf =
    let left : Check = leaves_left s.log.past.signed (own_status_text s.log ∷ []) in
    leaf ∙ sym (ap (λ (c : Check). first_error (c ∷ (left ∷ []))) states ∙ last-check left)

pub passing-refused : (s : CoreState) (refusal : LogRefusal) → (refusal ≡ refusals.Memory) ⊎ (passing_judged s ≡ Err refusal)
    → IsStep (Err refusal) s s (passing_row s)
unfolding passing_row passing_judged
passing-refused s refusal is = row-refused (first_error (passing_checks s)) s (passing_reply s) refusal is

-- the log has stated nothing in the epoch
pub passing-may : (s : CoreState) → passing_judged s ≡ Ok tt → MayState s.log
unfolding passing_judged
passing-may s is = none-stated s.log (all-good (passing_checks s) is).0

pub passing-step : (s : CoreState) (ready : Composed) (unsigned : Unsigned) (parts : LogParts) (queue : List Change) (closing : Closing) (epoch : ℕ)
    → let x : LogState × Closing = after_state s.log in
    passing_judged s ≡ Ok tt → ready ≡ with_drafts none_composed (status_drafts s ++ closing_drafts x.1 s.signature_len s.log x.0) → closing ≡ x.1
    → parts ≡ record { state = x.0; keys = s.keys } → epoch ≡ epoch_of s.log → queue ≡ queue_after closing parts.state s.queue
    → unsigned ≡ sealed parts.state.past.signed ready (ended_by closing epoch parts.state.newest)
    → passing_row s ≡ made unsigned (core-of s parts queue)
unfolding passing_row passing_judged
passing-step s ready unsigned parts queue closing epoch is readied closes logs epochs queues sends =
    close-step s (first_error (passing_checks s)) (status_drafts s) (after_state s.log) ready unsigned parts queue closing epoch
    is readied closes logs epochs queues sends

-- how the epoch closes is answered beside the leaf
abbrev closing-or : Result (DueParts × Closing) BookFault → Closing → Closing
closing-or (Ok answer) other = answer.1
closing-or (Err fault) other = other

pub beside-closing : (k : Closing) (entry : Result DueParts BookFault) (due : DueParts) (closing : Closing) → beside k entry ≡ Ok (due, closing) → closing ≡ k
beside-closing k (Ok d) due closing is = sym (ap (λ r. closing-or r k) is)
beside-closing k (Err fault) due closing is = absurd cc

-- how the log's own status closes the epoch
pub stated-closing : (s : LogState) (due : DueParts) (closing : Closing) → stated s ≡ Ok (due, closing) → closing ≡ (after_state s).1
stated-closing s due closing is = beside-closing (after_state s).1 (entered s.past.signed (own_status_text s)) due closing is
