-- Refusals that are told.
use Rattle.std.proofs.Common.{◌≡◌, ◌≢◌, ℕ, refl, Some}
use Rattle.ar_nodes.specs.Codes.{log_code}
use Rattle.ar_statement.specs.Claims.{log_party}
use Rattle.log_keeper.specs.declared.order.LogOrder.{LogOrder}
use Rattle.log_sending.specs.declared.refusal.LogRefusal.{LogRefusal}
use Rattle.log_sending.specs.declared.refusal.LogRefusal.TheVariants.{Memory}
use Rattle.party_desk.specs.Telling.{log_refused, log_what, step_told}

-- all but want of memory are told
pub log_refusal_told : (me number : ℕ) (order : LogOrder) (refusal : LogRefusal) → refusal ≢ Memory
    → log_refused me number order refusal ≡ Some (step_told (log_party me) (log_what number order) (Some (log_code refusal)))
log_refusal_told me number order Memory other = absurd (other refl)
log_refusal_told me number order refusal other = refl
