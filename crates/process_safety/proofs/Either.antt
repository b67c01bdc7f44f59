-- What a log becomes by the texts of its journal it becomes by each of the two that keep one.
use Rattle.std.proofs.Common.{◌∙◌, List, [], ◌∷◌, ℕ, sym, ap, Result, Ok}
use Rattle.ar_message.specs.Filling.{filled}
use Rattle.ar_message.specs.declared.sent.Sent.{Sent}
use Rattle.kept_journal.specs.Replays.{ReachesBy}
use Rattle.kept_party.specs.Taking.{Becomes}
use Rattle.log_core.specs.Keyed.{signed_answer}
use Rattle.log_core.specs.State.{CoreState}
use Rattle.log_journal.specs.Steps.{LogStanding}
use Rattle.log_journal.specs.Steps as log_journal
use Rattle.log_keeper.specs.Keeping as log_keeping
use Rattle.log_core.below.log_sending.specs.declared.refusal.LogRefusal.{LogRefusal}
use Rattle.process_safety.proofs.Logs.{keeper-steps}

-- one text
of-keeper : (old new : LogStanding) (text : List ℕ) → Becomes log_keeping.takes old text new → log_journal.takes old text new
of-keeper old new text becomes = record { input = becomes.1.input; says = becomes.1.says; steps = keeper-steps old new text becomes.0 becomes.1 }

-- the answer that a log stands there and sends this
abbrev pub answer_of : CoreState × Sent → Result (CoreState × Sent) LogRefusal
answer_of made = Ok made

of-journal : (old new : LogStanding) (text : List ℕ) → log_journal.takes old text new → Becomes log_keeping.takes old text new
of-journal old new text t =
    let sent : Sent = filled new.keys t.steps.reply.unsigned in (
      sent,
      record {
        input = t.input;
        says = t.says;
        steps = record {
          own = t.steps.own;
          answer = ap (signed_answer new.keys) t.steps.row_is ∙ ap (λ (core : CoreState). answer_of (core, sent)) (sym t.steps.core_is);
          keys_are = t.steps.keys_are;
        };
      },
    )

-- all of them
pub replays-kept : (texts : List (List ℕ)) (first last : LogStanding) → ReachesBy log_journal.takes first texts last → ReachesBy (Becomes log_keeping.takes) first texts last
replays-kept [] first last leads = leads
replays-kept (text ∷ texts) first last leads = (leads.0, of-journal first leads.0 text leads.1, replays-kept texts leads.0 last leads.2)

pub kept-replays : (texts : List (List ℕ)) (first last : LogStanding) → ReachesBy (Becomes log_keeping.takes) first texts last → ReachesBy log_journal.takes first texts last
kept-replays [] first last leads = leads
kept-replays (text ∷ texts) first last leads = (leads.0, of-keeper first leads.0 text leads.1, kept-replays texts leads.0 last leads.2)
