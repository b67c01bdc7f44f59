-- A signature is verified by one key; and what a key of a ring signs is verified where the key is known.
use Rattle.std.proofs.Common.{◌≡◌, ℕ, zero, suc, ◌+◌, ◌^◌, ◌<◌, ◌≤◌, List, [], ◌∷◌, ◌++◌, length, Option, Some, None, Ok, refl, sym, ap, ◌∙◌, subst, arith, Bool, false, true, cond, not, take, nat_lt, ne_eqb}
use Rattle.std.specs.Prelude.{is_some, slice_get}
use Rattle.std.specs.Int.{from_be_bytes, w32}
use Rattle.std.proofs.lemmas.Bool.{le-ltb}
use Rattle.std.proofs.lemmas.Nat.{from_be_bytes-to_be_bytes_4}
use Rattle.ar_bytes.specs.RoundTrip.{number_text}
use Rattle.lm_ots.specs.declared.ots_type.OtsType.{OtsType}
use Rattle.lm_ots.specs.declared.ots_type.OtsType.TheVariants.{W1, W2, W4, W8}
use Rattle.lm_ots.specs.OtsKind.{signature_len_of}
use Rattle.lms_tree.specs.declared.lms_type.LmsType.{LmsType}
use Rattle.lms_tree.specs.declared.lms_type.LmsType.TheVariants.{H5, H10, H15, H20, H25}
use Rattle.lms_tree.specs.declared.public_key.LmsPublic.{LmsPublic}
use Rattle.lms_tree.specs.declared.validity.Verdict.TheVariants.{Valid}
use Rattle.lms_tree.specs.Key.{public_of, signature_of}
use Rattle.lms_tree.specs.KeyParts.{KeyParts}
use Rattle.lms_tree.specs.LmsKind.{height_of}
use Rattle.lms_tree.specs.Signature.{signature_text}
use Rattle.lms_tree.specs.Validity.{HasLength, verdict_of}
use Rattle.lms_tree.proofs.SigningLemmas.{verdict_of-signature_of}
use Rattle.lms_tree.proofs.VerdictLemmas.{valid}
use Rattle.ar_statement.specs.declared.party.Party.{Party}
use Rattle.ar_statement.specs.Claims.{Claim, authority_party, log_party, text_of}
use Rattle.ar_statement.specs.Ranges.{IsValid}
use Rattle.key_roll.specs.Due.{DueParts}
use Rattle.key_roll.specs.Ring.{ring_signature_len, signature_by}
use Rattle.party_keys.specs.Directory.{Directory, keys_at, keys_of}
use Rattle.party_keys.specs.Signatures as signatures
use Rattle.party_keys.specs.Signatures.{answer_by, answer_of, answer_under, behind_generation, generation_of, is_in_place, is_last_leaf, roll_in, rolls_from, verified}
use Rattle.party_keys.specs.Signers.{is_known}
use Rattle.party_keys.proofs.Claims.{one_claim}
use Rattle.ar_safety.specs.Accepting.{KnowsSigner}

-- ---- one key for each signature

-- a signature is verified by one key, that of the generation that it names
pub record VerifiedBy (keys : List LmsPublic) (text signature : List ℕ) : Type 0 where
  pub g : ℕ
  pub key : LmsPublic
  pub named : generation_of signature ≡ Some g
  pub known : slice_get keys g ≡ Some key
  pub answer : answer_by (Some key) g text (behind_generation signature) ≡ Ok tt

found-at : (keys : List LmsPublic) (text signature : List ℕ) (g : ℕ) → generation_of signature ≡ Some g → (o : Option LmsPublic) → slice_get keys g ≡ o
    → answer_by o g text (behind_generation signature) ≡ Ok tt → VerifiedBy keys text signature
found-at keys text signature g named None known holds = absurd cc
found-at keys text signature g named (Some key) known holds = record { g = g; key = key; named = named; known = known; answer = holds }

found : (keys : List LmsPublic) (p : Party) (text signature : List ℕ) → answer_under keys p text signature ≡ Ok tt → VerifiedBy keys text signature
found [] p text signature is = absurd cc
found (first ∷ later) p text signature is = by (generation_of signature) refl is
  where
    by : (o : Option ℕ) → generation_of signature ≡ o → signatures.answer_at o (first ∷ later) text signature ≡ Ok tt → VerifiedBy (first ∷ later) text signature
    by None named holds = absurd cc
    by (Some g) named holds = found-at (first ∷ later) text signature g named (slice_get (first ∷ later) g) refl holds

verified-by : (keys : List LmsPublic) (p : Party) (text signature : List ℕ) (g : ℕ) (key : LmsPublic) → generation_of signature ≡ Some g → slice_get keys g ≡ Some key
    → answer_by (Some key) g text (behind_generation signature) ≡ Ok tt → answer_under keys p text signature ≡ Ok tt
verified-by [] p text signature g key named known answer = absurd cc
verified-by (first ∷ later) p text signature g key named known answer =
    subst (λ o. signatures.answer_at o (first ∷ later) text signature ≡ Ok tt) (sym named)
    (subst (λ o. answer_by o g text (behind_generation signature) ≡ Ok tt) (sym known) answer)

-- what is verified under one directory is verified under each that knows the key
pub carried-over : (one other : Directory) (p : Party) (text signature : List ℕ) → KnowsSigner one other p signature → verified one p text signature ≡ Ok tt → verified other p text signature ≡ Ok tt
unfolding verified
carried-over one other p text signature knows is =
    let v = found (keys_of one p) p text signature is in
    verified-by (keys_of other p) p text signature v.g v.key v.named (knows v.g v.key v.named v.known) v.answer

-- a number at which there is a key is that of a party
pub known-number : (lists : List (List LmsPublic)) (n g : ℕ) (key : LmsPublic) → slice_get (keys_at lists n) g ≡ Some key → n < length lists
known-number [] n g key is = absurd cc
known-number (keys ∷ lists) zero g key is = omega arith
known-number (keys ∷ lists) (suc n) g key is = let rest = known-number lists n g key is in omega (arith, rest)

pub log-known : (keys : Directory) (n : ℕ) (text signature : List ℕ) → verified keys (log_party n) text signature ≡ Ok tt → n < length keys.logs
unfolding verified
log-known keys n text signature is =
    let v = found (keys_of keys (log_party n)) (log_party n) text signature is in known-number keys.logs n v.g v.key v.known

pub authority-known : (keys : Directory) (n : ℕ) (text signature : List ℕ) → verified keys (authority_party n) text signature ≡ Ok tt → n < length keys.authorities
unfolding verified
authority-known keys n text signature is =
    let v = found (keys_of keys (authority_party n)) (authority_party n) text signature is in known-number keys.authorities n v.g v.key v.known

-- a party of which a signature is verified is in the directory
known-under : (keys : List LmsPublic) (p : Party) (text signature : List ℕ) → answer_under keys p text signature ≡ Ok tt → is_some (slice_get keys 0) ≡ true
known-under [] p text signature is = absurd cc
known-under (first ∷ later) p text signature is = refl

pub signer-known : (keys : Directory) (p : Party) (text signature : List ℕ) → verified keys p text signature ≡ Ok tt → is_known keys p ≡ true
unfolding verified
signer-known keys p text signature is = known-under (keys_of keys p) p text signature is

-- ---- what is signed is verified

pub generation-front : (g : ℕ) (rest : List ℕ) → g < 2 ^ 32 → signatures.number_in_front (number_text w32 g ++ rest) ≡ Some g
unfolding number_text
generation-front g rest small =
    let long : nat_lt (length (number_text w32 g ++ rest)) 4 ≡ false = le-ltb (length (number_text w32 g ++ rest)) 4 (omega arith) in
    ap (λ b. cond b None (Some (from_be_bytes w32 (take 4 (number_text w32 g ++ rest))))) long ∙ ap (λ (n : ℕ). Some n) (from_be_bytes-to_be_bytes_4 g small)

behind-front : (g : ℕ) (rest : List ℕ) → behind_generation (number_text w32 g ++ rest) ≡ rest
unfolding number_text
behind-front g rest = refl

leaf-front : (key : KeyParts) (leaf : ℕ) (message : List ℕ) → leaf < 2 ^ 32 → signatures.leaf_of (signature_of key leaf message) ≡ Some leaf
unfolding signature_of signature_text
leaf-front key leaf message small = generation-front leaf _ small

pub height-most : (lms : LmsType) → (height_of lms ≤ 25) × (2 ^ height_of lms ≤ 2 ^ 32)
height-most H5 = (omega arith, omega arith)
height-most H10 = (omega arith, omega arith)
height-most H15 = (omega arith, omega arith)
height-most H20 = (omega arith, omega arith)
height-most H25 = (omega arith, omega arith)

pub signature-most : (ots : OtsType) → signature_len_of ots ≤ 8516
signature-most W1 = omega arith
signature-most W2 = omega arith
signature-most W4 = omega arith
signature-most W8 = omega arith

no-roll : (claim : Claim) → IsValid claim → rolls_from claim ≡ None → roll_in (text_of claim) ≡ None
no-roll claim is none = rw (one_claim (text_of claim) claim is refl) none

-- what is due for a statement that is no Roll, with the key of its generation
pub record IsDue (keys : List LmsPublic) (key : KeyParts) (text : List ℕ) (due : DueParts) : Type 0 where
  pub text_is : due.text ≡ text
  pub generation : due.generation < 2 ^ 32
  pub known : slice_get keys due.generation ≡ Some (public_of key)
  pub leaf : due.leaf + 1 < 2 ^ height_of key.lms

pub signed-verified : (keys : Directory) (p : Party) (claim : Claim) (key : KeyParts) (due : DueParts) → IsValid claim → rolls_from claim ≡ None → IsDue (keys_of keys p) key (text_of claim) due
    → verified keys p (text_of claim) (signature_by key due) ≡ Ok tt
unfolding verified
signed-verified keys p claim key due is none d =
    let text : List ℕ = text_of claim in
    let signature : List ℕ = signature_of key due.leaf text in
    let leaf-small : due.leaf < 2 ^ 32 = omega (arith, d.leaf, (height-most key.lms).1) in
    let verdict : verdict_of (public_of key) text signature ≡ Valid = verdict_of-signature_of key due.leaf text (omega (arith, d.leaf)) in
    let last : is_last_leaf (public_of key) (signatures.leaf_of signature) ≡ false =
    ap (is_last_leaf (public_of key)) (leaf-front key due.leaf text leaf-small) ∙ ne_eqb (due.leaf + 1) (2 ^ height_of key.lms) (λ e. omega (arith, e, d.leaf)) in
    let end : Bool = is_last_leaf (public_of key) (signatures.leaf_of signature) in
    let placed : is_in_place (roll_in text) due.generation end ≡ true = ap (λ o. is_in_place o due.generation end) (no-roll claim is none) ∙ ap (λ b. not b) last in
    let answer : answer_by (Some (public_of key)) due.generation text signature ≡ Ok tt =
    ap (λ v. answer_of v (is_in_place (roll_in text) due.generation end)) verdict ∙ ap (λ b. answer_of Valid b) placed in
    let whole-signature : signature_by key due ≡ number_text w32 due.generation ++ signature = ap (λ t. number_text w32 due.generation ++ signature_of key due.leaf t) d.text_is in
    let named = generation-front due.generation signature d.generation in
    let behind = behind-front due.generation signature in
    rw whole-signature
    (verified-by (keys_of keys p) p text (number_text w32 due.generation ++ signature) due.generation (public_of key) named d.known
    (subst (λ s. answer_by (Some (public_of key)) due.generation text s ≡ Ok tt) (sym behind) answer))

-- and its signature has fewer than 2 ^ 16 bytes
pub signature-fits : (key : KeyParts) (due : DueParts) → due.leaf < 2 ^ height_of key.lms → length (signature_by key due) < 2 ^ 16
unfolding number_text
signature-fits key due small =
    let met = (valid (public_of key) due.text (signature_of key due.leaf due.text)).0 (verdict_of-signature_of key due.leaf due.text small) in
    let len : HasLength (public_of key) (signature_of key due.leaf due.text) = met.0 in
    omega (arith, len, (height-most key.lms).0, signature-most key.ots)

-- as many as its key's signatures have
pub signature-length : (key : KeyParts) (due : DueParts) → due.leaf < 2 ^ height_of key.lms → length (signature_by key due) ≡ ring_signature_len key
unfolding number_text
signature-length key due small =
    let met = (valid (public_of key) due.text (signature_of key due.leaf due.text)).0 (verdict_of-signature_of key due.leaf due.text small) in
    let len : HasLength (public_of key) (signature_of key due.leaf due.text) = met.0 in
    omega (arith, len)
