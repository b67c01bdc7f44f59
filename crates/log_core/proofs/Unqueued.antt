-- The endorsements of queued changes may be left out of what is verified.
use Rattle.std.proofs.Common.{◌≡◌, List, ◌++◌, sym, ◌∙◌, inr}
use Rattle.std.specs.Prelude.{All, Ok, Err, flat_map}
use Rattle.ar_cert.specs.Changes.{Change, IsChange}
use Rattle.ar_base.specs.Gives.{GivesUnless}
use Rattle.party_keys.specs.Signers.{Claimed}
use Rattle.log_sending.specs.Checks.{Check}
use Rattle.log_core.specs.Kept.{IsKeptCore}
use Rattle.ar_claims.specs.Lists.{endorsements_in}
use Rattle.log_sending.specs.Signers.{signers}
use Rattle.log_core.specs.State.{CoreState}
use Rattle.log_sending.specs.Queued.{unqueued}
use Rattle.log_sending.specs.declared.refusal.LogRefusal.TheVariants as refusals
use Rattle.log_core.proofs.Verified.{once}

answers-itself : (r answer : Check) → r ≡ answer → GivesUnless refusals.Memory (λ (u : Unit {0}). u) r answer
answers-itself (Ok u) answer is = sym is
answers-itself (Err refusal) answer is = inr (sym is)

-- the answer without the endorsements of queued changes is the one with them
pub once_signed : (s : CoreState) (front : List Claimed) (changes : List Change) (r : Check) → IsKeptCore s → All IsChange changes
    → r ≡ signers s.keys (front ++ flat_map endorsements_in (unqueued s.queue changes))
    → GivesUnless refusals.Memory (λ (u : Unit {0}). u) r (signers s.keys (front ++ flat_map endorsements_in changes))
once_signed s front changes r kept are is =
    answers-itself r (signers s.keys (front ++ flat_map endorsements_in changes)) (is ∙ sym (once s front changes kept are))
