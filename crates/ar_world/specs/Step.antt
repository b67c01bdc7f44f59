-- What a line of a script makes of a world, and what is printed of it; or why the line is refused.
use Rattle.std.specs.Prelude.{Bool, false, List, Result, Ok, Err}
use Rattle.ar_base.specs.Gives.{StepsUnless}
use Rattle.owner_check.specs.declared.answer.Outcome.{Outcome}
use Rattle.report_text.specs.declared.happening.Happening.{Happening}
use Rattle.script_text.specs.declared.line.EventLine.{EventLine}
use Rattle.script_text.specs.declared.line.EventLine.TheVariants as event
use Rattle.script_text.specs.declared.line.Line.{Line}
use Rattle.script_text.specs.declared.line.Line.TheVariants as line
use Rattle.script_text.specs.declared.line.SetupLine.{SetupLine}
use Rattle.script_text.specs.declared.line.SetupLine.TheVariants as setup
use Rattle.ar_world.specs.Asking.{ask_line}
use Rattle.ar_world.specs.Delivering.{deliver_line}
use Rattle.ar_world.specs.Drafting.{register_line, revoke_line, update_line}
use Rattle.ar_world.specs.Finding.{Effect}
use Rattle.ar_world.specs.Forging.{inject_line, sign_line}
use Rattle.ar_world.specs.Founding.{authorities_line, dishonest_line, in_order, keys_line, logs_line, may_come, secret_line}
use Rattle.ar_world.specs.Judging.{judge_line}
use Rattle.ar_world.specs.Learning.{learn_line}
use Rattle.ar_world.specs.Ordering.{pass_line, propose_line, roll_line}
use Rattle.ar_world.specs.Owning.{lesson_line, owner_line, retire_line}
use Rattle.ar_world.specs.State.{World, silent}
use Rattle.ar_world.specs.Submitting.{handover_line, object_line, submit_line}
use Rattle.ar_nodes.specs.declared.fault.WorldFault.{WorldFault}
use Rattle.ar_nodes.specs.declared.fault.WorldFault.TheVariants.{Memory, Order}
use Rattle.ar_nodes.specs.declared.lesson.Lesson.TheVariants as lesson
use Rattle.ar_world.specs.declared.phase.Phase.{Phase}
use Rattle.ar_world.specs.declared.phase.Phase.TheVariants as phase

-- the phase to which a line of the setup leads
abbrev pub leads_to : SetupLine → Phase
leads_to (setup.Secret secret) = phase.SecretTold
leads_to (setup.Keys lms ots) = phase.KeysTold
leads_to (setup.Logs n q) = phase.LogsMade
leads_to (setup.Authorities m) = phase.AuthoritiesMade
leads_to (setup.Dishonest party) = phase.DishonestTold

-- what each line of the setup does where it may come
unfoldable pub setup_effect : World → SetupLine → Effect
setup_effect w (setup.Secret secret) = Ok (secret_line w secret)
setup_effect w (setup.Keys lms ots) = keys_line w lms ots
setup_effect w (setup.Logs n q) = logs_line w n q
setup_effect w (setup.Authorities m) = authorities_line w m
setup_effect w (setup.Dishonest party) = dishonest_line w party

-- What each other line does where it may come. A `flush` itself does nothing: the deliveries that are due follow it. A check
-- that tells nothing of itself says this, where it is asked.
unfoldable pub event_effect : Outcome → World → EventLine → Effect
event_effect says w (event.Owner owner) = owner_line w owner
event_effect says w (event.Teach authority name owner) = lesson_line w lesson.Learn authority name owner
event_effect says w (event.Forget authority name owner) = lesson_line w lesson.Forget authority name owner
event_effect says w (event.Retire authority) = retire_line w authority
event_effect says w (event.Register owner name policy asks) = register_line w owner name policy asks
event_effect says w (event.Update owner draft policy asks) = update_line w owner draft policy asks
event_effect says w (event.Revoke owner draft asks) = revoke_line w owner draft asks
event_effect says w (event.Handover owner draft) = handover_line w owner draft
event_effect says w (event.Object owner draft) = object_line w owner draft
event_effect says w (event.Submit draft) = submit_line w draft
event_effect says w (event.Propose log) = propose_line w log
event_effect says w (event.Pass log) = pass_line w log
event_effect says w (event.Roll party) = roll_line w party
event_effect says w (event.Learn message) = learn_line w message
event_effect says w (event.Ask log name first second client) = ask_line w log name first second client
event_effect says w (event.Deliver message party) = deliver_line says w message party
event_effect says w event.Flush = Ok (silent w)
event_effect says w (event.Judge message name now age) = judge_line w message name now age
event_effect says w (event.Sign party pieces) = sign_line w party pieces
event_effect says w (event.Inject to pieces) = inject_line w to pieces

-- the step of a line; the lines of a burst are not taken
abbrev pub step : Outcome → World → Line → Effect
step says w (line.Setup l) = in_order w (leads_to l) (setup_effect w l)
step says w (line.Event l) = in_order w phase.Running (event_effect says w l)
step says w line.Burst = Err Order
step says w line.End = Err Order

-- whether a line may come now; the lines of a burst never may
abbrev pub comes_now : World → Line → Bool
comes_now w (line.Setup l) = may_come w.phase (leads_to l)
comes_now w (line.Event l) = may_come w.phase phase.Running
comes_now w line.Burst = false
comes_now w line.End = false

-- A call made of the world what the effect says, and answered what is printed. Or it answered the effect's refusal, or want of
-- memory, and left the world as it was.
abbrev pub StepsBy : Result (List Happening) WorldFault → World → World → Effect → Type 0
StepsBy = StepsUnless Memory (λ new said. (new, said))

-- A call did so for something that a check says which tells nothing of itself.
pub record StepsBySome (result : Result (List Happening) WorldFault) (old new : World) (effect : Outcome → Effect) : Type 0 where
  pub says : Outcome
  pub steps : StepsBy result old new (effect says)
