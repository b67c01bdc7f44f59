-- Whether two changes are the same: their certificates have one text, and what vouches for them is the same.
use Rattle.std.specs.Prelude.{◌==◌, Bool, true, false, ◌&&◌, ℕ, List, [], ◌∷◌, Option, Some, None}
use Rattle.std.specs.Str.{bytes_eq}
use Rattle.ar_cert.specs.Certificate.{certificate_text}
use Rattle.ar_cert.specs.Changes.{Change, Endorsement}

-- both are by one authority, with one signature
abbrev pub is_same_endorsement : Endorsement → Endorsement → Bool
is_same_endorsement one other = (one.authority == other.authority) && bytes_eq one.signature other.signature

-- both are the same endorsements in the same order
abbrev pub are_same_endorsements : List Endorsement → List Endorsement → Bool
are_same_endorsements [] [] = true
are_same_endorsements [] (y ∷ ys) = false
are_same_endorsements (x ∷ xs) [] = false
are_same_endorsements (x ∷ xs) (y ∷ ys) = is_same_endorsement x y && are_same_endorsements xs ys

-- both are one signature, or none
abbrev pub is_same_signature : Option (List ℕ) → Option (List ℕ) → Bool
is_same_signature None None = true
is_same_signature None (Some s) = false
is_same_signature (Some s) None = false
is_same_signature (Some s) (Some t) = bytes_eq s t

-- both are the same behind their certificates
abbrev pub has_same_consents : Change → Change → Bool
has_same_consents one other =
    are_same_endorsements one.endorsements other.endorsements
    && (is_same_signature one.handover other.handover && is_same_signature one.objection other.objection)

-- both are the same; where the names differ no more is compared
abbrev pub is_same_change : Change → Change → Bool
is_same_change one other =
    bytes_eq one.cert.name other.cert.name
    && (bytes_eq (certificate_text one.cert) (certificate_text other.cert) && has_same_consents one other)
