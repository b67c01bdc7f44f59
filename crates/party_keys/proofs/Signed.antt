-- Whose signatures were accepted, and that what is learnt was signed.
use Rattle.std.proofs.Common.{◌≡◌, ◌+◌, List, [], ◌∷◌, Option, Ok, Err, Result, refl}
use Rattle.std.specs.Prelude.{map, slice_get}
use Rattle.std.specs.List.{AllByRecursion}
use Rattle.ar_base.proofs.Giving.{no-error, order-first, order-then}
use Rattle.ar_statement.specs.Claims.{text_of}
use Rattle.lms_tree.specs.declared.public_key.LmsPublic.{LmsPublic}
use Rattle.party_keys.specs.Directory.{Directory, keys_of}
use Rattle.party_keys.specs.Learning.{Announced, learned, learned_if, roll_claim}
use Rattle.party_keys.specs.Seen.{WasVerified}
use Rattle.party_keys.specs.Signatures.{IsVerified, verified}
use Rattle.party_keys.specs.Signers.{Claimed, all_signed, seen_in, signed_as, signer_fault}
use Rattle.party_keys.specs.declared.fault.VerifyFault.{VerifyFault}
use Rattle.party_keys.specs.declared.learning.Learned.{Learned}

-- the signature of a claim is valid under the keys
abbrev pub IsValidUnder : Directory → Claimed → Type 0
IsValidUnder keys c = IsVerified keys c.party c.text c.signature

pub each_signed : (keys : Directory) (claims : List Claimed) → all_signed keys claims ≡ Ok tt → AllByRecursion (IsValidUnder keys) claims
each_signed keys [] is = tt
each_signed keys (c ∷ claims) is =
    let here : signed_as keys c ≡ Ok tt = order-first (signed_as keys c) (all_signed keys claims) tt is in
    let rest : all_signed keys claims ≡ Ok tt = order-then (signed_as keys c) (all_signed keys claims) tt is in
    (no-error (signer_fault c.party) (verified keys c.party c.text c.signature) tt here, each_signed keys claims rest)

-- as they are seen
pub each_verified : (keys : Directory) (claims : List Claimed) → AllByRecursion (IsValidUnder keys) claims → AllByRecursion (WasVerified keys) (map seen_in claims)
each_verified keys [] all = tt
each_verified keys (c ∷ claims) all = ((c.signature, all.0), each_verified keys claims all.1)

-- what is learnt of a Roll was verified
signed_if : (answer : Result (Unit {0}) VerifyFault) (known : Option LmsPublic) (key : LmsPublic) (how : Learned) → learned_if answer known key ≡ Ok how → answer ≡ Ok tt
signed_if (Ok u) known key how e = refl
signed_if (Err fault) known key how e = absurd cc

pub learnt_signed : (keys : Directory) (a : Announced) (how : Learned) → learned keys a ≡ Ok how → IsVerified keys a.party (text_of (roll_claim a)) a.signature
unfolding learned
learnt_signed keys a how e =
    signed_if (verified keys a.party (text_of (roll_claim a)) a.signature) (slice_get (keys_of keys a.party) (a.generation + 1)) a.key how e
