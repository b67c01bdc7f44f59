-- What claims with signatures that are accepted say of what is seen.
use Rattle.std.proofs.Common.{◌≡◌, ◌+◌, List, [], ◌∷◌, Result, Ok, Err, Option, refl, inl, inr, ⊎_elim}
use Rattle.std.specs.Prelude.{Contains, map, slice_get}
use Rattle.std.specs.List.{AllByRecursion}
use Rattle.std.proofs.lemmas.List.Elements.{All-contains, All-contains_itself, All-from_recursion, recursion_from_All}
use Rattle.ar_base.proofs.Giving.{no-error, order-first, order-then}
use Rattle.ar_council.proofs.Seeing.{seen-exactly}
use Rattle.ar_council.specs.Seen.{seen_after}
use Rattle.ar_statement.specs.Claims.{text_of}
use Rattle.ar_statement.specs.declared.text.SeenText.{SeenText}
use Rattle.lms_tree.specs.declared.public_key.LmsPublic.{LmsPublic}
use Rattle.party_keys.specs.Directory.{Directory, keys_of}
use Rattle.party_keys.specs.Learning.{Announced, learned, learned_if, roll_claim}
use Rattle.party_keys.specs.Seen.{seen_of}
use Rattle.party_keys.specs.Signatures.{IsVerified, verified}
use Rattle.party_keys.specs.Signers.{Claimed, all_signed, seen_in, signed_as, signed_by, signer_fault}
use Rattle.party_keys.specs.declared.fault.VerifyFault.{VerifyFault}
use Rattle.party_keys.specs.declared.learning.Learned.{Learned}
use Rattle.ar_claims.specs.Verified.{IsVerifiedIn, SeesClaimed}

-- the signature of a claim is valid under the keys
abbrev pub IsValidUnder : Directory → Claimed → Type 0
IsValidUnder keys c = IsVerified keys c.party c.text c.signature

-- it is one of these claims too
abbrev pub IsIn : Directory → List Claimed → Claimed → Type 0
IsIn keys claims c = Contains claims c × IsValidUnder keys c

pub each-signed : (keys : Directory) (claims : List Claimed) → all_signed keys claims ≡ Ok tt → AllByRecursion (IsValidUnder keys) claims
each-signed keys [] is = tt
each-signed keys (c ∷ claims) is =
    let here : signed_as keys c ≡ Ok tt = order-first (signed_as keys c) (all_signed keys claims) tt is in
    let rest : all_signed keys claims ≡ Ok tt = order-then (signed_as keys c) (all_signed keys claims) tt is in
    (no-error (signer_fault c.party) (verified keys c.party c.text c.signature) tt here, each-signed keys claims rest)

both : (P Q : Claimed → Type 0) (claims : List Claimed) → AllByRecursion P claims → AllByRecursion Q claims → AllByRecursion (λ c. P c × Q c) claims
both P Q [] p q = tt
both P Q (c ∷ claims) p q = ((p.0, q.0), both P Q claims p.1 q.1)

pub all-in : (keys : Directory) (claims : List Claimed) → AllByRecursion (IsValidUnder keys) claims → AllByRecursion (IsIn keys claims) claims
all-in keys claims valid =
    both (Contains claims) (IsValidUnder keys) claims (recursion_from_All (Contains claims) claims (All-contains_itself claims)) valid

pub in-seen : (keys : Directory) (claims : List Claimed) (c : Claimed) → IsIn keys claims c → IsVerifiedIn keys claims (seen_in c)
in-seen keys claims c is = (c.signature, is.0, is.1)

pub each-seen : (keys : Directory) (claims some : List Claimed) → AllByRecursion (IsIn keys claims) some → AllByRecursion (IsVerifiedIn keys claims) (map seen_in some)
each-seen keys claims [] all = tt
each-seen keys claims (c ∷ some) all = (in-seen keys claims c all.0, each-seen keys claims some all.1)

-- what is seen of claims with signatures that are accepted
pub sees-claims : (keys : Directory) (claims : List Claimed) (seen : List SeenText) → all_signed keys claims ≡ Ok tt → SeesClaimed keys claims seen (seen_after seen (map seen_in claims))
sees-claims keys claims seen is t there =
    let each = each-seen keys claims claims (all-in keys claims (each-signed keys claims is)) in
    let more : List SeenText = map seen_in claims in
    ⊎_elim (λ (old : Contains seen t). inl old)
    (λ (new : Contains more t). inr (All-contains (IsVerifiedIn keys claims) more t (All-from_recursion (IsVerifiedIn keys claims) more each) new))
    ((seen-exactly seen more t).0 there)

-- ---- a Roll that is learnt

learnt-if : (v : Result (Unit {0}) VerifyFault) (known : Option LmsPublic) (key : LmsPublic) (how : Learned) → learned_if v known key ≡ Ok how → v ≡ Ok tt
learnt-if (Ok u) known key how is = refl
learnt-if (Err fault) known key how is = absurd cc

-- the claim of what is announced
abbrev pub announced_in : Announced → List Claimed
announced_in a = signed_by a.party (roll_claim a) a.signature ∷ []

pub learnt-signed : (keys : Directory) (a : Announced) (how : Learned) → learned keys a ≡ Ok how → IsVerified keys a.party (text_of (roll_claim a)) a.signature
unfolding learned
learnt-signed keys a how is =
    learnt-if (verified keys a.party (text_of (roll_claim a)) a.signature) (slice_get (keys_of keys a.party) (a.generation + 1)) a.key how is

pub learnt-claimed : (keys : Directory) (a : Announced) (how : Learned) → learned keys a ≡ Ok how → IsVerifiedIn keys (announced_in a) (seen_of a.party (roll_claim a))
learnt-claimed keys a how is =
    in-seen keys (announced_in a) (signed_by a.party (roll_claim a) a.signature) (all-in keys (announced_in a) (learnt-signed keys a how is, tt)).0

pub sees-learnt : (keys : Directory) (a : Announced) (how : Learned) (seen : List SeenText) → learned keys a ≡ Ok how
    → SeesClaimed keys (announced_in a) seen (seen_after seen (seen_of a.party (roll_claim a) ∷ []))
sees-learnt keys a how seen is t there =
    let more : List SeenText = seen_of a.party (roll_claim a) ∷ [] in
    let each : AllByRecursion (IsVerifiedIn keys (announced_in a)) more = (learnt-claimed keys a how is, tt) in
    ⊎_elim (λ (old : Contains seen t). inl old)
    (λ (new : Contains more t). inr (All-contains (IsVerifiedIn keys (announced_in a)) more t (All-from_recursion (IsVerifiedIn keys (announced_in a)) more each) new))
    ((seen-exactly seen more t).0 there)
