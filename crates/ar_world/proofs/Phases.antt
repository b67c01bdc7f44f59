-- A line that is none of the setup leaves the phase as it is; that it came is noted by the step.
use Rattle.std.proofs.Common.{◌≡◌, ℕ, List, refl, ap, ◌∙◌, subst, IfOk}
use Rattle.std.specs.Prelude.{Result, Ok, Err, OnOk}
use Rattle.owner_check.specs.declared.answer.Outcome.{Outcome}
use Rattle.report_text.specs.declared.happening.Happening.{Happening}
use Rattle.script_text.specs.declared.line.EventLine.{EventLine}
use Rattle.ar_world.specs.Delivering.{Taker, a_log, an_authority, an_owner, delivery}
use Rattle.ar_world.specs.Founding.{is_peopled}
use Rattle.ar_world.specs.Records.{HasParties}
use Rattle.ar_world.specs.State.{Moved, World}
use Rattle.ar_world.specs.Step.{StepsBySome, event_effect}
use Rattle.ar_nodes.specs.declared.fault.WorldFault.{WorldFault}
use Rattle.ar_world.proofs.EachLine.{EachLine, event-each}

-- the phase is the same behind it
abbrev Stays : World → Moved → Type 0
Stays w made = made.0.phase ≡ w.phase

delivery-stays : (says : Outcome) (w : World) (message : ℕ) (number : ℕ) (taker : Taker) → Stays w (delivery says w message number taker)
delivery-stays says w message number (a_log node) = refl
delivery-stays says w message number (an_authority node) = refl
delivery-stays says w message number (an_owner me) = refl

changes-stay : (w : World) → EachLine w (Stays w)
changes-stay w = record {
  quiet = λ owners drafts said is. refl;
  posts = λ owners drafts front who sent is. refl;
  signs = λ forger text. refl;
  injects = λ to bytes. refl;
  acts = λ number what made. refl;
  proposes = λ number node there. refl;
  passes = λ number node there. refl;
  log_rolls = λ number node next there is. refl;
  authority_rolls = λ number node next there is. refl;
  delivers = λ says message p who taker has takes. delivery-stays says w message who.number taker;
  checks = λ number node check said there is. refl;
  learns = λ message p has. refl;
  judges = λ message p name now age has. refl;
}

-- authorities that are there stay there
pub still-peopled : (result : Result (List Happening) WorldFault) (w v : World) (l : EventLine)
    → StepsBySome result w v (λ says. event_effect says w l) → HasParties w → OnOk result (HasParties v)
still-peopled (Ok said) w v l made there =
    let same : v.phase ≡ w.phase = subst (λ e. IfOk e (Stays w)) made.steps (event-each w (Stays w) (changes-stay w) made.says l)
    in ap is_peopled same ∙ there
still-peopled (Err fault) w v l made there = tt
