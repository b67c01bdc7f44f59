-- The lines on what becomes of drafts: `handover`, `object` and `submit`.
use Rattle.std.specs.Prelude.{ℕ, List, [], ◌∷◌, Option, Some, None, Ok, Err}
use Rattle.ar_base.specs.Chaining.{◌>>=◌}
use Rattle.ar_cert.specs.Certificate.{digest_of}
use Rattle.owner_core.specs.Rows.{OwnerAnswer, attach_row, handover_row}
use Rattle.owner_core.specs.State.{Owner}
use Rattle.report_text.specs.declared.happening.Happening.TheVariants.{Step}
use Rattle.report_text.specs.declared.happening.What.TheVariants.{Handover}
use Rattle.ar_nodes.specs.Acting.{owner_objected, owner_submitted}
use Rattle.ar_nodes.specs.Codes.{owner_code}
use Rattle.ar_world.specs.Finding.{Effect, draft_at, owner_at, room, with_owner}
use Rattle.ar_nodes.specs.Finding.{named}
use Rattle.ar_world.specs.Sending.{owner_made}
use Rattle.ar_statement.specs.Claims.{owner_party}
use Rattle.ar_world.specs.State.{Drafted, Moved, World}

-- ---- `handover`

-- an owner puts a handover to its draft with this digest
abbrev pub attached : World → OwnerAnswer (Unit {0}) → World
attached w (Ok made) = with_owner w made.1
attached w (Err refusal) = w

abbrev pub attached_by : World → Option Owner → List ℕ → List ℕ → World
attached_by w None digest handover = w
attached_by w (Some owner) digest handover = attached w (attach_row owner digest handover)

-- one owner signs the handover, and the draft's owner puts it to the draft
abbrev pub handed : World → ℕ → ℕ → Drafted → OwnerAnswer (List ℕ) → Moved
handed w number draft found (Ok made) =
    let signed = with_owner w made.1
    in (attached_by signed (owner_at signed found.owner) (digest_of found.cert) made.0, Step (owner_party number) (Handover draft) None ∷ [])
handed w number draft found (Err refusal) = (w, Step (owner_party number) (Handover draft) (Some (owner_code refusal)) ∷ [])

-- word 1 names an owner, and word 2 a draft
abbrev pub handover_line : World → ℕ → ℕ → Effect
handover_line w number draft = do
  owner ← named 1 (owner_at w number)
  found ← named 2 (draft_at w draft)
  Ok (handed w number draft found (handover_row owner (digest_of found.cert)))

-- ---- `object`

-- word 1 names an owner, and word 2 a draft, of any owner
abbrev pub object_line : World → ℕ → ℕ → Effect
object_line w number draft = do
  owner ← named 1 (owner_at w number)
  found ← named 2 (draft_at w draft)
  free ← room w
  Ok (owner_made w (owner_objected w.pool number draft found.cert owner))

-- ---- `submit`

-- word 1 names a draft, whose owner submits it
abbrev pub submit_line : World → ℕ → Effect
submit_line w draft = do
  found ← named 1 (draft_at w draft)
  owner ← named 1 (owner_at w found.owner)
  free ← room w
  Ok (owner_made w (owner_submitted w.pool found.owner draft found.cert owner))
