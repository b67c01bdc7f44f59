-- A line that asks no check, as one by what a check says.
use Rattle.std.proofs.Common.{◌≡◌, ℕ, List, [], Option, refl, sym, ap, ◌∙◌, subst, Bool, true, false, inr}
use Rattle.std.specs.Prelude.{Result, Ok, Err}
use Rattle.std.proofs.lemmas.Bool.{true≢false}
use Rattle.ar_base.specs.Chaining.{◌>>=◌, need}
use Rattle.ar_statement.specs.declared.party.Party.{Party}
use Rattle.owner_check.specs.declared.answer.Outcome.TheVariants.{No}
use Rattle.report_text.specs.declared.happening.Happening.{Happening}
use Rattle.script_text.specs.declared.line.EventLine.{EventLine}
use Rattle.script_text.specs.declared.line.EventLine.TheVariants as event
use Rattle.script_text.specs.declared.line.Line.{Line}
use Rattle.script_text.specs.declared.line.Line.TheVariants as line
use Rattle.script_text.specs.declared.line.SetupLine.{SetupLine}
use Rattle.script_text.specs.declared.line.PolicyWords.{PolicyWords}
use Rattle.ar_world.specs.Asking.{ask_line}
use Rattle.ar_world.specs.Delivering.{deliver_line}
use Rattle.ar_world.specs.Drafting.{register_line, revoke_line, update_line}
use Rattle.ar_world.specs.Forging.{inject_line, sign_line}
use Rattle.ar_world.specs.Founding.{led_to, may_come}
use Rattle.ar_world.specs.Judging.{judge_line}
use Rattle.ar_world.specs.Learning.{learn_line}
use Rattle.ar_world.specs.Ordering.{pass_line, propose_line, roll_line}
use Rattle.ar_world.specs.Owning.{lesson_line, owner_line, retire_line}
use Rattle.ar_world.specs.State.{World, silent}
use Rattle.ar_world.specs.Step.{StepsBy, StepsBySome, comes_now, event_effect, leads_to, setup_effect, step}
use Rattle.ar_world.specs.Submitting.{handover_line, object_line, submit_line}
use Rattle.ar_nodes.specs.declared.fault.WorldFault.{WorldFault}
use Rattle.ar_nodes.specs.declared.fault.WorldFault.TheVariants.{Order}
use Rattle.ar_nodes.specs.declared.lesson.Lesson.TheVariants as lesson
use Rattle.ar_world.specs.declared.phase.Phase.TheVariants as phase

-- what is answered
abbrev Answered : Type 0
Answered = Result (List Happening) WorldFault

pub owner-some : (result : Answered) (old new : World) (owner : ℕ) → StepsBy result old new (owner_line old owner) → StepsBySome result old new (λ says. event_effect says old (event.Owner owner))
unfolding event_effect
owner-some result old new owner steps = record { says = No; steps = steps }

pub teach-some : (result : Answered) (old new : World) (authority : ℕ) (name : List ℕ) (owner : ℕ) → StepsBy result old new (lesson_line old lesson.Learn authority name owner) → StepsBySome result old new (λ says. event_effect says old (event.Teach authority name owner))
unfolding event_effect
teach-some result old new authority name owner steps = record { says = No; steps = steps }

pub forget-some : (result : Answered) (old new : World) (authority : ℕ) (name : List ℕ) (owner : ℕ) → StepsBy result old new (lesson_line old lesson.Forget authority name owner) → StepsBySome result old new (λ says. event_effect says old (event.Forget authority name owner))
unfolding event_effect
forget-some result old new authority name owner steps = record { says = No; steps = steps }

pub retire-some : (result : Answered) (old new : World) (authority : ℕ) → StepsBy result old new (retire_line old authority) → StepsBySome result old new (λ says. event_effect says old (event.Retire authority))
unfolding event_effect
retire-some result old new authority steps = record { says = No; steps = steps }

pub register-some : (result : Answered) (old new : World) (owner : ℕ) (name : List ℕ) (policy : PolicyWords) (asks : List ℕ) → StepsBy result old new (register_line old owner name policy asks) → StepsBySome result old new (λ says. event_effect says old (event.Register owner name policy asks))
unfolding event_effect
register-some result old new owner name policy asks steps = record { says = No; steps = steps }

pub update-some : (result : Answered) (old new : World) (owner : ℕ) (draft : ℕ) (policy : PolicyWords) (asks : List ℕ) → StepsBy result old new (update_line old owner draft policy asks) → StepsBySome result old new (λ says. event_effect says old (event.Update owner draft policy asks))
unfolding event_effect
update-some result old new owner draft policy asks steps = record { says = No; steps = steps }

pub revoke-some : (result : Answered) (old new : World) (owner : ℕ) (draft : ℕ) (asks : List ℕ) → StepsBy result old new (revoke_line old owner draft asks) → StepsBySome result old new (λ says. event_effect says old (event.Revoke owner draft asks))
unfolding event_effect
revoke-some result old new owner draft asks steps = record { says = No; steps = steps }

pub handover-some : (result : Answered) (old new : World) (owner : ℕ) (draft : ℕ) → StepsBy result old new (handover_line old owner draft) → StepsBySome result old new (λ says. event_effect says old (event.Handover owner draft))
unfolding event_effect
handover-some result old new owner draft steps = record { says = No; steps = steps }

pub object-some : (result : Answered) (old new : World) (owner : ℕ) (draft : ℕ) → StepsBy result old new (object_line old owner draft) → StepsBySome result old new (λ says. event_effect says old (event.Object owner draft))
unfolding event_effect
object-some result old new owner draft steps = record { says = No; steps = steps }

pub submit-some : (result : Answered) (old new : World) (draft : ℕ) → StepsBy result old new (submit_line old draft) → StepsBySome result old new (λ says. event_effect says old (event.Submit draft))
unfolding event_effect
submit-some result old new draft steps = record { says = No; steps = steps }

pub propose-some : (result : Answered) (old new : World) (log : ℕ) → StepsBy result old new (propose_line old log) → StepsBySome result old new (λ says. event_effect says old (event.Propose log))
unfolding event_effect
propose-some result old new log steps = record { says = No; steps = steps }

pub pass-some : (result : Answered) (old new : World) (log : ℕ) → StepsBy result old new (pass_line old log) → StepsBySome result old new (λ says. event_effect says old (event.Pass log))
unfolding event_effect
pass-some result old new log steps = record { says = No; steps = steps }

pub roll-some : (result : Answered) (old new : World) (who : Party) → StepsBy result old new (roll_line old who) → StepsBySome result old new (λ says. event_effect says old (event.Roll who))
unfolding event_effect
roll-some result old new who steps = record { says = No; steps = steps }

pub learn-some : (result : Answered) (old new : World) (message : ℕ) → StepsBy result old new (learn_line old message) → StepsBySome result old new (λ says. event_effect says old (event.Learn message))
unfolding event_effect
learn-some result old new message steps = record { says = No; steps = steps }

pub ask-some : (result : Answered) (old new : World) (log : ℕ) (name : List ℕ) (first : ℕ) (second : ℕ) (client : ℕ) → StepsBy result old new (ask_line old log name first second client) → StepsBySome result old new (λ says. event_effect says old (event.Ask log name first second client))
unfolding event_effect
ask-some result old new log name first second client steps = record { says = No; steps = steps }

pub judge-some : (result : Answered) (old new : World) (message : Option ℕ) (name : List ℕ) (now : ℕ) (age : ℕ) → StepsBy result old new (judge_line old message name now age) → StepsBySome result old new (λ says. event_effect says old (event.Judge message name now age))
unfolding event_effect
judge-some result old new message name now age steps = record { says = No; steps = steps }

pub sign-some : (result : Answered) (old new : World) (who : Party) (pieces : List (List ℕ)) → StepsBy result old new (sign_line old who pieces) → StepsBySome result old new (λ says. event_effect says old (event.Sign who pieces))
unfolding event_effect
sign-some result old new who pieces steps = record { says = No; steps = steps }

pub inject-some : (result : Answered) (old new : World) (to : Option Party) (pieces : List (List ℕ)) → StepsBy result old new (inject_line old to pieces) → StepsBySome result old new (λ says. event_effect says old (event.Inject to pieces))
unfolding event_effect
inject-some result old new to pieces steps = record { says = No; steps = steps }

pub flush-some : (result : Answered) (old : World) → result ≡ Ok [] → StepsBySome result old old (λ says. event_effect says old event.Flush)
unfolding event_effect
flush-some result old is = subst (λ r. StepsBySome r old old (λ says. Ok (silent old))) (sym is) (record { says = No; steps = refl })

pub deliver-some : (result : Answered) (old new : World) (l : EventLine) (message : ℕ) (who : Party) → l ≡ event.Deliver message who
    → StepsBySome result old new (λ says. deliver_line says old message who) → StepsBySome result old new (λ says. event_effect says old l)
unfolding event_effect
deliver-some result old new l message who is steps =
    subst (λ l. StepsBySome result old new (λ says. event_effect says old l)) (sym is) steps

-- a line that may not come, and one that may
pub setup-late : (old : World) (l : Line) (in_setup : SetupLine) (fault : WorldFault) → l ≡ line.Setup in_setup → need (may_come old.phase (leads_to in_setup)) Order ≡ Err fault
    → StepsBySome (Err fault) old old (λ says. step says old l)
setup-late old l in_setup fault is late =
    subst (λ l. StepsBySome (Err fault) old old (λ says. step says old l)) (sym is)
    (record { says = No; steps = (refl, inr (ap (λ n. n >>= λ comes. led_to (leads_to in_setup) (setup_effect old in_setup)) late)) })

pub event-late : (old : World) (l : Line) (other : EventLine) (fault : WorldFault) → l ≡ line.Event other → need (may_come old.phase phase.Running) Order ≡ Err fault
    → StepsBySome (Err fault) old old (λ says. step says old l)
event-late old l other fault is late =
    subst (λ l. StepsBySome (Err fault) old old (λ says. step says old l)) (sym is)
    (record { says = No; steps = (refl, inr (ap (λ n. n >>= λ comes. led_to phase.Running (event_effect No old other)) late)) })

pub setup-comes : (result : Answered) (old new : World) (l : Line) (in_setup : SetupLine) → l ≡ line.Setup in_setup → may_come old.phase (leads_to in_setup) ≡ true
    → StepsBy result old new (led_to (leads_to in_setup) (setup_effect old in_setup)) → StepsBySome result old new (λ says. step says old l)
setup-comes result old new l in_setup is comes made =
    subst (λ l. StepsBySome result old new (λ says. step says old l)) (sym is)
    (record {
      says = No;
      steps = subst (λ b. StepsBy result old new (need b Order >>= λ comes. led_to (leads_to in_setup) (setup_effect old in_setup))) (sym comes) made;
    })

pub event-comes : (result : Answered) (old new : World) (l : Line) (other : EventLine) → l ≡ line.Event other → may_come old.phase phase.Running ≡ true
    → StepsBySome result old new (λ says. led_to phase.Running (event_effect says old other)) → StepsBySome result old new (λ says. step says old l)
event-comes result old new l other is comes made =
    subst (λ l. StepsBySome result old new (λ says. step says old l)) (sym is)
    (record {
      says = made.says;
      steps = subst (λ b. StepsBy result old new (need b Order >>= λ comes. led_to phase.Running (event_effect made.says old other))) (sym comes) made.steps;
    })

-- a line that may not come is refused for that, and one that came might
pub late-order : (comes : Bool) (fault : WorldFault) (result : Answered) → need comes Order ≡ Err fault → result ≡ Err fault → result ≡ Err Order
late-order true fault result late is = absurd cc
late-order false fault result late is =
    let same : fault ≡ Order = cc
    in is ∙ ap (λ why. Err why) same

pub setup-came : (w : World) (l : Line) (in_setup : SetupLine) (result : Answered) → l ≡ line.Setup in_setup → may_come w.phase (leads_to in_setup) ≡ true → comes_now w l ≡ false
    → result ≡ Err Order
setup-came w l in_setup result is comes late = absurd (true≢false (sym comes ∙ sym (ap (comes_now w) is) ∙ late))

pub event-came : (w : World) (l : Line) (other : EventLine) (result : Answered) → l ≡ line.Event other → may_come w.phase phase.Running ≡ true → comes_now w l ≡ false
    → result ≡ Err Order
event-came w l other result is comes late = absurd (true≢false (sym comes ∙ sym (ap (comes_now w) is) ∙ late))

pub ruleset in_its_order = (setup-late, event-late, setup-comes, event-comes, late-order, setup-came, event-came)

pub ruleset some_check = (owner-some, teach-some, forget-some, retire-some, register-some, update-some, revoke-some, handover-some, object-some, submit-some, propose-some, pass-some, roll-some, learn-some, ask-some, judge-some, sign-some, inject-some)
