-- What a log walked over it may propose, and what is made of that is its row.
use Rattle.std.proofs.Common.{◌≡◌, ℕ, ◌<◌, List, [], ◌∷◌, ◌++◌, refl, sym, ap, ◌∙◌, ◌⊎◌, inl, inr, subst, Ok, Err, Result}
use Rattle.std.specs.Result.{result_and}
use Rattle.std.specs.Prelude.{All, IfOk}
use Rattle.std.specs.declared.alloc.AllocError.{AllocError}
use Rattle.std.specs.List.{AllByRecursion}
use Rattle.std.proofs.lemmas.Nat.{mod_below}
use Rattle.std.proofs.lemmas.List.Elements.{All-from_recursion, All-weaker, recursion_from_All}
use Rattle.ar_cert.specs.Changes.{Change, IsChange}
use Rattle.ar_message.specs.Lists.{AreChanges}
use Rattle.ar_statement.specs.Claims.{text_of}
use Rattle.key_roll.specs.Due.{DueParts}
use Rattle.ar_message.specs.declared.unsigned.Unsigned.{Unsigned}
use Rattle.vote_quorum.specs.declared.value.Value.{Value}
use Rattle.domain_table.specs.Applying.{ripen}
use Rattle.epoch_log.specs.Answers.{first_entered, proposed}
use Rattle.epoch_log.specs.Calls.{IsTurn, after_propose, own_vote_text, proposal_texts, propose_claim, IsOpenTo}
use Rattle.epoch_log.specs.Foreseeing.{IsForeseen}
use Rattle.epoch_log.specs.Log.{LogParts}
use Rattle.epoch_log.specs.Right.{SawEndorsements}
use Rattle.epoch_log.specs.State.{LogState, epoch_of, table_of}
use Rattle.epoch_log.specs.declared.entries.Closing.{Closing}
use Rattle.epoch_log.specs.declared.foreseeing.Foreseen.{Foreseen}
use Rattle.log_sending.specs.Checks.{Check, leaves_left, turn_of}
use Rattle.ar_base.specs.FirstFailing.{first_error}
use Rattle.log_core.specs.Steps.{IsStep, given}
use Rattle.log_sending.specs.Closings.{closing_drafts, ended_by, queue_after}
use Rattle.log_core.specs.Replies.{closing_reply}
use Rattle.log_core.specs.Kept.{IsKeptCore, WasQueued}
use Rattle.log_core.specs.Proposing.{proposal, proposal_draft, proposed_value, proposing_checks, proposing_judged, proposing_reply, proposing_row, turn_checks, turn_judged}
use Rattle.log_sending.specs.Sendable.{CanBeTold}
use Rattle.log_sending.specs.Sending.{Composed, DraftMessage, none_composed, sealed, with_draft, with_drafts}
use Rattle.log_core.specs.State.{CoreState, LogStep}
use Rattle.log_sending.specs.Walk.{most_change_bytes, most_changes}
use Rattle.log_sending.specs.declared.refusal.LogRefusal.{LogRefusal}
use Rattle.log_sending.specs.declared.refusal.LogRefusal.TheVariants as refusals
use Rattle.log_sending.proofs.Checked.{its-turn, none-stated, none-voted}
use Rattle.ar_base.proofs.Failing.{all-good, error-append}
use Rattle.log_core.proofs.Closed.{close-step, row-refused, beside-closing}
use Rattle.log_core.proofs.KeptRows.{kept-proposing}
use Rattle.log_sending.proofs.Sendable.{propose-can, told-can}
use Rattle.log_core.proofs.OwnProposal.{proposal-applies, proposal-fits}
use Rattle.log_sending.proofs.Taken.{walk-all}
use Rattle.log_core.proofs.Submitted.{given-holds}
use Rattle.log_core.proofs.Replies.{core-of, made}

-- ---- the checks

-- a list of checks that hold, and one check behind them
behind-all : (checks : List Check) (last : Check) → first_error checks ≡ Ok tt → first_error (checks ++ last ∷ []) ≡ first_error (last ∷ [])
behind-all checks last is = error-append checks (last ∷ []) ∙ ap (λ c. result_and c (first_error (last ∷ []))) is

-- and one that refuses, whatever is behind it
refused-all : (checks behind : List Check) (refusal : LogRefusal) → first_error checks ≡ Err refusal → first_error (checks ++ behind) ≡ Err refusal
refused-all checks behind refusal is = error-append checks behind ∙ ap (λ c. result_and c (first_error behind)) is

-- where it is not the log's turn, or it has voted or stated, the order is refused so
pub turn-refused : (s : CoreState) (refusal : LogRefusal) → turn_judged s ≡ Err refusal → proposing_judged s ≡ Err refusal
unfolding turn_judged proposing_judged
turn-refused s refusal is =
    ap (λ c. result_and c (Ok (proposed_value s, proposal s))) (refused-all (turn_checks s) (leaves_left s.log.past.signed (proposal_texts s.log (proposed_value s)) ∷ []) refusal is)

-- else it goes by the leaves
pub leaves-judged : (s : CoreState) (value : Value) → turn_judged s ≡ Ok tt → value ≡ proposed_value s
    → proposing_judged s ≡ given (leaves_left s.log.past.signed (proposal_texts s.log value) ∷ []) (proposed_value s, proposal s)
unfolding turn_judged proposing_judged
leaves-judged s value turn is =
    ap (λ c. result_and c (Ok (proposed_value s, proposal s))) (behind-all (turn_checks s) (leaves_left s.log.past.signed (proposal_texts s.log (proposed_value s))) turn)
    ∙ ap (λ v. given (leaves_left s.log.past.signed (proposal_texts s.log v) ∷ []) (proposed_value s, proposal s)) (sym is)

pub leaves-refused : (s : CoreState) (value : Value) (refusal : LogRefusal) → turn_judged s ≡ Ok tt → value ≡ proposed_value s
    → Err refusal ≡ leaves_left s.log.past.signed (proposal_texts s.log value) → proposing_judged s ≡ Err refusal
leaves-refused s value refusal turn same is =
    leaves-judged s value turn same ∙ ap (λ c. given (c ∷ []) (proposed_value s, proposal s)) (sym is)

pub leaves-hold : (s : CoreState) (value : Value) (changes : List Change) → turn_judged s ≡ Ok tt → value ≡ proposed_value s → changes ≡ proposal s
    → Ok tt ≡ leaves_left s.log.past.signed (proposal_texts s.log value) → proposing_judged s ≡ Ok (value, changes)
leaves-hold s value changes turn same all is =
    leaves-judged s value turn same ∙ ap (λ c. given (c ∷ []) (proposed_value s, proposal s)) (sym is)
    ∙ ap (λ v. Ok (v, proposal s)) (sym same) ∙ ap (λ l. Ok (value, l)) (sym all)

judged-holds : (s : CoreState) (value : Value) (changes : List Change) → proposing_judged s ≡ Ok (value, changes)
    → (first_error (proposing_checks s) ≡ Ok tt) × (proposed_value s ≡ value) × (proposal s ≡ changes)
unfolding proposing_judged
judged-holds s value changes is =
    let h = given-holds (first_error (proposing_checks s)) (proposed_value s, proposal s) (value, changes) is in
    (h.0, ap (λ (p : Value × List Change). p.0) h.1, ap (λ (p : Value × List Change). p.1) h.1)

abbrev check-in : {A : Type 0} → Result A LogRefusal → LogRefusal → Check
check-in (Ok value) other = Err other
check-in (Err refusal) other = Err refusal

given-refuses : {A : Type 0} (check : Check) (value : A) (refusal : LogRefusal) → result_and check (Ok value) ≡ Err refusal → check ≡ Err refusal
given-refuses (Ok u) value refusal is = absurd cc
given-refuses (Err e) value refusal is = ap (λ r. check-in r e) is

-- an order that is refused leaves all as it was
pub propose-refused : (s : CoreState) (refusal : LogRefusal) → (refusal ≡ refusals.Memory) ⊎ (proposing_judged s ≡ Err refusal) → IsStep (Err refusal) s s (proposing_row s)
unfolding proposing_row proposing_judged
propose-refused s refusal (inl wants) = (refl, inl wants)
propose-refused s refusal (inr is) =
    row-refused (first_error (proposing_checks s)) s (proposing_reply s) refusal (inr (given-refuses (first_error (proposing_checks s)) (proposed_value s, proposal s) refusal is))

-- ---- what the calls ask

-- what was walked over may be proposed
pub record MayPropose (s : CoreState) (value : Value) (changes : List Change) : Type 0 where
  pub turn : IsTurn s.log.council s.log.me (epoch_of s.log)
  pub opens : IsOpenTo s.log value changes
  pub endorsed : All (SawEndorsements s.log.past.seen) changes
  pub are : AreChanges changes

all-walked : (P : Change → Type 0) (s : CoreState) → All P s.queue → AllByRecursion P (proposal s)
all-walked P s all = walk-all P s.queue (epoch_of s.log) most_changes most_change_bytes (ripen (table_of s.log) (epoch_of s.log)) (recursion_from_All P s.queue all)

may-walked : (s : CoreState) → IsKeptCore s → first_error (proposing_checks s) ≡ Ok tt → MayPropose s (proposed_value s) (proposal s)
may-walked s kept is =
    let each : AllByRecursion (λ c. c ≡ Ok tt) (proposing_checks s) = all-good (proposing_checks s) is in
    let mine : s.log.me ≡ turn_of s.log.council (epoch_of s.log) = its-turn s.log.council (epoch_of s.log) s.log.me each.0 in
    let leads = proposal-applies s in
    record {
      turn = (subst (λ n. n < s.log.council.logs) (sym mine) (mod_below (epoch_of s.log) s.log.council.logs kept.logs), sym mine);
      opens = record {
        not_voted = none-voted s.log each.1.0;
        not_stated = none-stated s.log each.1.1.0;
        from_base = refl;
        reaches = record { table = leads.0; applied = leads.1; is_root = leads.2 };
      };
      endorsed = All-from_recursion (SawEndorsements s.log.past.seen) (proposal s) (all-walked (SawEndorsements s.log.past.seen) s kept.endorsed);
      are = ((proposal-fits s).0, all-walked IsChange s (All-weaker (WasQueued s.keys) IsChange (λ (change : Change) was. was.is_change) s.queue kept.queued));
    }

pub may-propose : (s : CoreState) (value : Value) (changes : List Change) → IsKeptCore s → proposing_judged s ≡ Ok (value, changes) → MayPropose s value changes
may-propose s value changes kept is =
    let h = judged-holds s value changes is in
    subst (λ v. MayPropose s v changes) h.1 (subst (MayPropose s (proposed_value s)) h.2 (may-walked s kept h.0))

-- what is foreseen of the proposal fits into a message
pub propose-told : (s : CoreState) (value : Value) (changes : List Change) (f : Foreseen) → IsKeptCore s → proposing_judged s ≡ Ok (value, changes)
    → IsForeseen (after_propose s.log value changes) f → CanBeTold s.signature_len f
propose-told s value changes f kept is told =
    let may = may-propose s value changes kept is in
    told-can s.signature_len s.log.council.logs (after_propose s.log value changes) f kept.len kept.sendable.logs
    (propose-can s.log value changes kept.sendable may.turn.0 may.are) told

-- ---- the step

abbrev reply-of : CoreState → Value → List Change → LogStep
reply-of s value changes = closing_reply s s.log (proposal_draft s value changes ∷ []) (after_propose s.log value changes)

pub propose-step : (s : CoreState) (value : Value) (changes : List Change) (ready : Composed) (unsigned : Unsigned) (parts : LogParts)
    (queue : List Change) (closing : Closing) (epoch : ℕ) → let x : LogState × Closing = after_propose s.log value changes in
    proposing_judged s ≡ Ok (value, changes)
    → ready ≡ with_drafts none_composed (proposal_draft s value changes ∷ closing_drafts x.1 s.signature_len s.log x.0) → closing ≡ x.1
    → parts ≡ record { state = x.0; keys = s.keys } → epoch ≡ epoch_of s.log → queue ≡ queue_after closing parts.state s.queue
    → unsigned ≡ sealed parts.state.past.signed ready (ended_by closing epoch parts.state.newest)
    → proposing_row s ≡ made unsigned (core-of s parts queue)
unfolding proposing_row
propose-step s value changes ready unsigned parts queue closing epoch is readied closes logs epochs queues sends =
    let h = judged-holds s value changes is in
    let check : Check = first_error (proposing_checks s) in
    let step = close-step s check (proposal_draft s value changes ∷ []) (after_propose s.log value changes) ready unsigned parts queue closing epoch
    h.0 readied closes logs epochs queues sends in
    ap (λ v. result_and check (Ok (reply-of s v (proposal s)))) h.1 ∙ ap (λ l. result_and check (Ok (reply-of s value l))) h.2 ∙ step

-- the proposal is made as the row says
pub propose-made : (s : CoreState) (value : Value) (changes : List Change) (ready : Composed) (unsigned : Unsigned) (parts : LogParts)
    (queue : List Change) (due : DueParts) (closing : Closing) (epoch : ℕ) → let x : LogState × Closing = after_propose s.log value changes in
    proposing_judged s ≡ Ok (value, changes)
    → ready ≡ with_drafts none_composed (proposal_draft s value changes ∷ closing_drafts x.1 s.signature_len s.log x.0)
    → proposed s.log value changes ≡ Ok (due, closing)
    → parts ≡ record { state = x.0; keys = s.keys } → epoch ≡ epoch_of s.log → queue ≡ queue_after closing parts.state s.queue
    → unsigned ≡ sealed parts.state.past.signed ready (ended_by closing epoch parts.state.newest)
    → proposing_row s ≡ made unsigned (core-of s parts queue)
propose-made s value changes ready unsigned parts queue due closing epoch is readied answers logs epochs queues sends =
    propose-step s value changes ready unsigned parts queue closing epoch is readied
    (beside-closing (after_propose s.log value changes).1 (first_entered s.log.past.signed (text_of (propose_claim s.log value)) (own_vote_text s.log value)) due closing answers)
    logs epochs queues sends

-- and keeps what is kept
pub propose-keeps : (s : CoreState) (value : Value) (changes : List Change) (ready : Composed) (unsigned : Unsigned) (parts : LogParts)
    (queue : List Change) (due : DueParts) (closing : Closing) (epoch : ℕ) → IsKeptCore s → let x : LogState × Closing = after_propose s.log value changes in
    proposing_judged s ≡ Ok (value, changes)
    → ready ≡ with_drafts none_composed (proposal_draft s value changes ∷ closing_drafts x.1 s.signature_len s.log x.0)
    → proposed s.log value changes ≡ Ok (due, closing)
    → parts ≡ record { state = x.0; keys = s.keys } → epoch ≡ epoch_of s.log → queue ≡ queue_after closing parts.state s.queue
    → unsigned ≡ sealed parts.state.past.signed ready (ended_by closing epoch parts.state.newest)
    → IsKeptCore (core-of s parts queue)
propose-keeps s value changes ready unsigned parts queue due closing epoch kept is readied answers logs epochs queues sends =
    kept-proposing s (record { unsigned = unsigned; after = core-of s parts queue }) kept
    (propose-made s value changes ready unsigned parts queue due closing epoch is readied answers logs epochs queues sends)

-- ---- what is composed

-- the proposal is composed first, and then what tells how the epoch ends
pub ready-composed : (r : Result Composed AllocError) (first second third : Composed) (draft : DraftMessage) (drafts : List DraftMessage) → IfOk r (λ ready. ready ≡ third)
    → third ≡ with_drafts second drafts → second ≡ with_draft first draft → first ≡ none_composed → IfOk r (λ ready. ready ≡ with_drafts none_composed (draft ∷ drafts))
ready-composed (Err error) first second third draft drafts is more one none = tt
ready-composed (Ok ready) first second third draft drafts is more one none =
    is ∙ more ∙ ap (λ c. with_drafts c drafts) one ∙ ap (λ c. with_drafts (with_draft c draft) drafts) none
