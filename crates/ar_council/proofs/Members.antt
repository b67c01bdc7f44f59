-- The parties that a directory knows are of its council, and what is learnt leaves the council as it is.
use Rattle.std.proofs.Common.{◌≡◌, ℕ, ◌+◌, ◌<◌, ◌≤◌, ◌⊎◌, inl, inr, List, [], ◌∷◌, length, get_or, slice_get, nat_lt, Bool, true, false, cond, Some, None, Result, Ok, Err, refl, ap, ◌∙◌}
use Rattle.std.specs.Prelude.{All, is_some}
use Rattle.std.proofs.Math.ListN.{length-set}
use Rattle.std.proofs.lemmas.List.{get_or_past}
use Rattle.std.proofs.lemmas.List.Elements.{All-cons, All-nil}
use Rattle.std.proofs.lemmas.Option.{slice_get_cases}
use Rattle.key_roll.specs.Entry.{roll_text}
use Rattle.ar_council.specs.Council.{Council, IsMember, council_of, count_of}
use Rattle.ar_statement.specs.declared.party.Party.{Party}
use Rattle.ar_statement.specs.declared.party.Role.{Role}
use Rattle.ar_statement.specs.declared.party.Role.TheVariants.{Authority, Client, LogServer, Owner}
use Rattle.lms_tree.specs.declared.public_key.LmsPublic.{LmsPublic}
use Rattle.party_keys.specs.Directory.{Directory, keys_at, keys_of, role_keys}
use Rattle.party_keys.specs.Learning.{Announced, after_adopting, after_all, after_learning, learned, learned_if, learning, with_next_of}
use Rattle.party_keys.specs.Signatures.{answer_under, verified}
use Rattle.party_keys.specs.Signers.{all_known, is_known}
use Rattle.party_keys.specs.declared.fault.LearnFault.{LearnFault}
use Rattle.party_keys.specs.declared.fault.SignerFault.TheVariants.{Unknown}
use Rattle.party_keys.specs.declared.learning.Learned.{Learned}
use Rattle.party_keys.specs.declared.learning.Learned.TheVariants.{Again, New}

-- ---- known parties

known-number : (lists : List (List LmsPublic)) (number : ℕ) → is_some (slice_get (keys_at lists number) 0) ≡ true → number < length lists
known-number lists number is = by (slice_get_cases lists number).1
  where
    by : ((x : List LmsPublic) × (number < length lists) × (slice_get lists number ≡ Some x) × (get_or lists number x ≡ x)) ⊎ ((length lists ≤ number) × (slice_get lists number ≡ None))
        → number < length lists
    by (inl h) = h.1
    by (inr h) = let none : keys_at lists number ≡ [] = get_or_past lists number [] h.0 in let bad : false ≡ true = rw none at is in absurd cc

member-of : (keys : Directory) (role : Role) (number : ℕ) → is_some (slice_get (keys_at (role_keys keys role) number) 0) ≡ true → number < count_of (council_of keys) role
member-of keys LogServer number is = known-number keys.logs number is
member-of keys Authority number is = known-number keys.authorities number is
member-of keys Owner number is = known-number [] number is
member-of keys Client number is = known-number [] number is

pub member : (keys : Directory) (p : Party) → is_known keys p ≡ true → IsMember (council_of keys) p
member keys p is = member-of keys p.role p.number is

pub all-members : (keys : Directory) (parties : List Party) → all_known keys parties ≡ Ok tt → All (IsMember (council_of keys)) parties
all-members keys [] is = All-nil (IsMember (council_of keys))
all-members keys (p ∷ ps) is = by (is_known keys p) refl is (λ rest. all-members keys ps rest)
  where
    by : (b : Bool) → is_known keys p ≡ b → cond b (all_known keys ps) (Err (Unknown p)) ≡ Ok tt → (all_known keys ps ≡ Ok tt → All (IsMember (council_of keys)) ps)
        → All (IsMember (council_of keys)) (p ∷ ps)
    by true known rest others = All-cons (IsMember (council_of keys)) p ps (member keys p known) (others rest)
    by false known rest others = absurd cc

-- ---- what is learnt

pub note-known : (keys : Directory) (a : Announced) (l : Learned) → learned keys a ≡ Ok l → is_known keys a.party ≡ true
unfolding learned verified
note-known keys a l is = by (keys_of keys a.party) is
  where
    by : (ks : List LmsPublic) → learned_if (answer_under ks a.party (roll_text a.party a.generation a.key) a.signature) (slice_get ks (a.generation + 1)) a.key ≡ Ok l
        → is_some (slice_get ks 0) ≡ true
    by [] h = absurd cc
    by (k ∷ ks) h = refl

pub learned-member : (keys : Directory) (a : Announced) (l : Learned) → learned keys a ≡ Ok l → IsMember (council_of keys) a.party
learned-member keys a l is = member keys a.party (note-known keys a l is)

council-next : (role : Role) (keys : Directory) (number generation : ℕ) (key : LmsPublic) → council_of (with_next_of role keys number generation key) ≡ council_of keys
council-next LogServer keys number generation key =
    ap (λ (n : ℕ). let c : Council = record { logs = n; authorities = length keys.authorities; quorum = keys.quorum } in c) (length-set keys.logs number _)
council-next Authority keys number generation key =
    ap (λ (n : ℕ). let c : Council = record { logs = length keys.logs; authorities = n; quorum = keys.quorum } in c) (length-set keys.authorities number _)
council-next Owner keys number generation key = refl
council-next Client keys number generation key = refl

pub council-learning : (keys : Directory) (a : Announced) → council_of (after_learning keys a) ≡ council_of keys
council-learning keys a = by (learned keys a)
  where
    by : (r : Result Learned LearnFault) → council_of (learning r keys a) ≡ council_of keys
    by (Ok New) = council-next a.party.role keys a.party.number a.generation a.key
    by (Ok Again) = refl
    by (Err fault) = refl

pub council-all : (keys : Directory) (announced : List Announced) → council_of (after_all keys announced) ≡ council_of keys
council-all keys [] = refl
council-all keys (a ∷ more) = council-all (after_learning keys a) more ∙ council-learning keys a

pub council-adopting : (keys : Directory) (p : Party) (generation : ℕ) (key : LmsPublic) → council_of (after_adopting keys p generation key) ≡ council_of keys
council-adopting keys p generation key = by (nat_lt generation (length (keys_of keys p)))
  where
    by : (b : Bool) → council_of (cond b (with_next_of p.role keys p.number generation key) keys) ≡ council_of keys
    by true = council-next p.role keys p.number generation key
    by false = refl
