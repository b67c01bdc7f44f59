-- What the steps of owners make of a world, by what they make of the owner and the pool.
use Rattle.std.proofs.Common.{◌≡◌, ℕ, List, length, get_or, Option, Some, None, Result, Ok, Err, IfOk, refl, ap, ◌∙◌}
use Rattle.std.specs.Prelude.{position, slice_get, slice_set}
use Rattle.std.proofs.lemmas.Option.{slice_get_read}
use Rattle.ar_message.specs.declared.sent.Sent.{Sent}
use Rattle.owner_core.specs.Rows.{OwnerAnswer, attach_row}
use Rattle.owner_core.specs.State.{Owner}
use Rattle.report_text.specs.declared.happening.Happening.{Happening}
use Rattle.ar_nodes.specs.Acting.{ActsBy, owner_does}
use Rattle.ar_world.specs.Finding.{Effect}
use Rattle.ar_nodes.specs.Finding.{is_owner}
use Rattle.ar_nodes.specs.Pool.{Pooled}
use Rattle.ar_world.specs.State.{Moved, World}
use Rattle.ar_world.specs.Step.{StepsBy}
use Rattle.ar_world.specs.Sending.{owner_made}
use Rattle.ar_world.specs.Submitting.{attached, attached_by}
use Rattle.ar_nodes.specs.declared.fault.WorldFault.{WorldFault}
use Rattle.ar_world.proofs.Drafts.{owner_number, owner_put, owner_within}
use Rattle.ar_world.proofs.Orders.{acts-steps, same-there}

-- a handover that is put to a draft changes owners alone
attached-alone : (w : World) (r : OwnerAnswer (Unit {0})) → attached w r ≡ record w { owners = (attached w r).owners }
attached-alone w (Ok made) = refl
attached-alone w (Err refusal) = refl

pub attached-by-alone : (w : World) (o : Option Owner) (digest handover : List ℕ) → attached_by w o digest handover ≡ record w { owners = (attached_by w o digest handover).owners }
attached-by-alone w None digest handover = refl
attached-by-alone w (Some owner) digest handover = attached-alone w (attach_row owner digest handover)

-- the world with the owner at its place, and the pool, as they are now
abbrev pub owner_placed : World → ℕ → Owner × (List Pooled × List Happening) → Moved
owner_placed w place made = (record w { owners = slice_set w.owners place made.0; pool = made.1.0 }, made.1.1)

owner-stands : (w : World) (number place : ℕ) (me : Owner) → position (is_owner number) w.owners ≡ Some place → me ≡ get_or w.owners place me → slice_get w.owners place ≡ Some me
owner-stands w number place me here is = slice_get_read w.owners (length w.owners) place me refl (owner_within w.owners number place here) is

-- its place is that of its number, which it keeps
pub owner-made : (w : World) (number place : ℕ) (me : Owner) (made : Owner × (List Pooled × List Happening)) → position (is_owner number) w.owners ≡ Some place → me ≡ get_or w.owners place me
    → made.0.number ≡ me.number → owner_made w made ≡ owner_placed w place made
owner-made w number place me made here is same =
    ap (λ (v : World). (record v { pool = made.1.0 }, made.1.1)) (owner_put w number place made.0 here (same ∙ owner_number w.owners number place me here is))

-- an owner keeps its number that answers by a row that does
pub does-number : (me : Owner) (r : OwnerAnswer Sent) → IfOk r (λ made. made.1.number ≡ me.number) → (owner_does me r).0.number ≡ me.number
does-number me (Ok made) same = same
does-number me (Err refusal) same = refl

-- a call that made this of the owner and the pool made the effect of the world
pub owner-steps : (w : World) (number place : ℕ) (me : Owner) (result : Result (List Happening) WorldFault) (me' : Owner) (pool' : List Pooled)
    (made : Owner × (List Pooled × List Happening)) (effect : Effect) → position (is_owner number) w.owners ≡ Some place → me ≡ get_or w.owners place me → ActsBy result me me' w.pool pool' made
    → effect ≡ Ok (owner_placed w place made) → StepsBy result w (record w { owners = slice_set w.owners place me'; pool = pool' }) effect
owner-steps w number place me result me' pool' made effect here at acts is =
    acts-steps w (λ o pool. record w { owners = slice_set w.owners place o; pool = pool }) me me' result pool' made effect
    (ap (λ (owners : List Owner). record w { owners = owners }) (same-there w.owners place me (owner-stands w number place me here at))) acts is
