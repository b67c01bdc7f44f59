-- When lines may come.
use Rattle.std.proofs.Common.{◌≡◌, refl, ap, ◌∙◌, false, IfOk}
use Rattle.std.specs.Prelude.{Ok, Err}
use Rattle.ar_base.specs.Chaining.{◌>>=◌, need}
use Rattle.ar_base.proofs.Shown.{if-chained}
use Rattle.owner_check.specs.declared.answer.Outcome.{Outcome}
use Rattle.script_text.specs.declared.line.EventLine.{EventLine}
use Rattle.script_text.specs.declared.line.Line.TheVariants as line
use Rattle.script_text.specs.declared.line.SetupLine.{SetupLine}
use Rattle.script_text.specs.declared.line.SetupLine.TheVariants as setup
use Rattle.ar_world.specs.Finding.{Effect}
use Rattle.ar_world.specs.Founding.{in_order, is_peopled, may_come}
use Rattle.ar_world.specs.State.{World}
use Rattle.ar_world.specs.Step.{event_effect, leads_to, setup_effect, step}
use Rattle.ar_nodes.specs.declared.fault.WorldFault.TheVariants.{Order}
use Rattle.ar_world.specs.declared.phase.Phase.{Phase}
use Rattle.ar_world.specs.declared.phase.Phase.TheVariants as phase

-- a line that may not come is refused
refused : (w : World) (next : Phase) (made : Effect) → may_come w.phase next ≡ false → in_order w next made ≡ Err Order
refused w next made late = ap (λ b. need b Order >>= λ comes. made >>= λ m. Ok (record m.0 { phase = next }, m.1)) late

-- no line of the setup may come behind another line
late : (l : SetupLine) → may_come phase.Running (leads_to l) ≡ false
late (setup.Secret secret) = refl
late (setup.Keys lms ots) = refl
late (setup.Logs n q) = refl
late (setup.Authorities m) = refl
late (setup.Dishonest party) = refl

pub setup-first : (says : Outcome) (w : World) (l : SetupLine) → w.phase ≡ phase.Running → step says w (line.Setup l) ≡ Err Order
setup-first says w l running = refused w (leads_to l) (setup_effect w l) (ap (λ now. may_come now (leads_to l)) running ∙ late l)

-- no other line may come before the authorities
pub others-later : (says : Outcome) (w : World) (l : EventLine) → is_peopled w.phase ≡ false → step says w (line.Event l) ≡ Err Order
others-later says w l early = refused w phase.Running (event_effect says w l) early

-- where a line is taken, its phase is reached
reached : (w : World) (next : Phase) (made : Effect) → IfOk (in_order w next made) (λ m. m.0.phase ≡ next)
reached w next made = if-chained (need (may_come w.phase next) Order) _ _ (λ comes same. if-chained made _ _ (λ m there. refl))

pub phase-reached : (says : Outcome) (w : World) (l : SetupLine) → IfOk (step says w (line.Setup l)) (λ m. m.0.phase ≡ leads_to l)
phase-reached says w l = reached w (leads_to l) (setup_effect w l)

pub running-reached : (says : Outcome) (w : World) (l : EventLine) → IfOk (step says w (line.Event l)) (λ m. m.0.phase ≡ phase.Running)
running-reached says w l = reached w phase.Running (event_effect says w l)
