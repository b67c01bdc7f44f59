-- Endorsements that are read in place.
use Rattle.std.proofs.Common.{ℕ, zero, suc, ◌+◌, ◌<◌, List, [], ◌∷◌, length, map, get_or, arith}
use Rattle.ar_bytes.specs.Ascending.{Ascend}
use Rattle.ar_cert.specs.Changes.{IsEndorsement}
use Rattle.ar_cert.specs.Views.{endorsement_of}
use Rattle.ar_cert.specs.declared.change_view.EndorsementView.{EndorsementView}

-- each of endorsements that ascend has a text
pub ascending_fits : (vs : List EndorsementView) (least i : ℕ) (v : EndorsementView) → Ascend (λ v. v.authority) IsEndorsement least (map endorsement_of vs) → i < length vs → IsEndorsement (endorsement_of (get_or vs i v))
ascending_fits [] least i v h lt = absurd (omega (arith, lt))
ascending_fits (x ∷ vs) least zero v h lt = h.1
ascending_fits (x ∷ vs) least (suc i) v h lt = ascending_fits vs (x.authority + 1) i v h.2 (omega (arith, lt))
