-- What a directory knows, behind what it learnt.
use Rattle.std.proofs.Common.{◌≡◌, ℕ, zero, suc, ◌+◌, ◌≤◌, Bool, true, false, List, [], ◌∷◌, ◌++◌, length, take, slice_get, slice_set, if◌then◌else◌, Option, Some, None, Result, Ok, Err, refl, sym, ap, subst, ◌∙◌, arith}
use Rattle.std.proofs.lemmas.List.{take_all}
use Rattle.lms_tree.specs.declared.public_key.LmsPublic.{LmsPublic}
use Rattle.ar_statement.specs.declared.party.Role.{Role}
use Rattle.ar_statement.specs.declared.party.Role.TheVariants.{LogServer, Authority, Owner, Client}
use Rattle.ar_statement.specs.declared.party.Party.{Party}
use Rattle.ar_statement.specs.Claims.{text_of}
use Rattle.party_keys.specs.Directory.{Directory, keys_at, keys_of, role_keys}
use Rattle.party_keys.specs.Signatures.{answer_at, answer_by, answer_under, behind_generation, generation_of, verified}
use Rattle.party_keys.specs.Learning.{Announced, after_all, after_learning, is_key, learned, learned_as, learned_if, learning, next_behind, roll_claim, with_next_of}
use Rattle.party_keys.specs.declared.fault.VerifyFault.{VerifyFault}
use Rattle.party_keys.specs.declared.fault.VerifyFault.TheVariants.{Unknown, Bad}
use Rattle.party_keys.specs.declared.fault.LearnFault.{LearnFault}
use Rattle.party_keys.specs.declared.fault.LearnFault.TheVariants.{Other}
use Rattle.party_keys.specs.declared.learning.Learned.{Learned}
use Rattle.party_keys.specs.declared.learning.Learned.TheVariants.{New, Again}
use Rattle.ar_base.specs.Prefixes.{BeginsWith}
use Rattle.ar_base.proofs.Lists.{get-more}
use Rattle.ar_base.proofs.Prefixes.{begins_itself, begins_on}

-- ---- lists that grow

pub past : (keys : List LmsPublic) (n : ℕ) → slice_get keys n ≡ None → length keys ≤ n
past [] n e = omega arith
past (key ∷ keys) zero e = absurd cc
past (key ∷ keys) (suc n) e = let le = past keys n e in omega (arith, le)

-- a key behind those of one party
one_grows : (lists : List (List LmsPublic)) (n m : ℕ) (more : List LmsPublic) → BeginsWith (keys_at (slice_set lists n (keys_at lists n ++ more)) m) (keys_at lists m)
one_grows [] n m more = begins_itself []
one_grows (keys ∷ lists) zero zero more = (more, refl)
one_grows (keys ∷ lists) zero (suc m) more = begins_itself (keys_at lists m)
one_grows (keys ∷ lists) (suc n) zero more = begins_itself keys
one_grows (keys ∷ lists) (suc n) (suc m) more = one_grows lists n m more

next_grows : (lists : List (List LmsPublic)) (n m generation : ℕ) (key : LmsPublic) → slice_get (keys_at lists n) (generation + 1) ≡ None
    → BeginsWith (keys_at (slice_set lists n (next_behind generation key (keys_at lists n))) m) (keys_at lists m)
next_grows lists n m generation key none =
    let all : take (generation + 1) (keys_at lists n) ≡ keys_at lists n = take_all (generation + 1) (keys_at lists n) (past (keys_at lists n) (generation + 1) none) in
    subst (λ (front : List LmsPublic). BeginsWith (keys_at (slice_set lists n (front ++ key ∷ [])) m) (keys_at lists m)) (sym all) (one_grows lists n m (key ∷ []))

-- the keys of a party of a role, with a next key of one of a role
role_grows : (role other : Role) (keys : Directory) (n m generation : ℕ) (key : LmsPublic) → slice_get (keys_at (role_keys keys role) n) (generation + 1) ≡ None
    → BeginsWith (keys_at (role_keys (with_next_of role keys n generation key) other) m) (keys_at (role_keys keys other) m)
role_grows LogServer LogServer keys n m generation key none = next_grows keys.logs n m generation key none
role_grows LogServer Authority keys n m generation key none = begins_itself (keys_at keys.authorities m)
role_grows LogServer Owner keys n m generation key none = begins_itself []
role_grows LogServer Client keys n m generation key none = begins_itself []
role_grows Authority LogServer keys n m generation key none = begins_itself (keys_at keys.logs m)
role_grows Authority Authority keys n m generation key none = next_grows keys.authorities n m generation key none
role_grows Authority Owner keys n m generation key none = begins_itself []
role_grows Authority Client keys n m generation key none = begins_itself []
role_grows Owner other keys n m generation key none = begins_itself (keys_at (role_keys keys other) m)
role_grows Client other keys n m generation key none = begins_itself (keys_at (role_keys keys other) m)

-- ---- learning

-- a key is new only where none is known in its place
new_as : (known : Option LmsPublic) (key : LmsPublic) → learned_as known key ≡ Ok New → known ≡ None
new_as None key e = refl
new_as (Some other) key e = by_key (is_key other key) e where
  by_key : (b : Bool) → (if b then Ok Again else Err Other) ≡ Ok New → Some other ≡ None
  by_key true e = absurd cc
  by_key false e = absurd cc

new_if : (answer : Result (Unit {0}) VerifyFault) (known : Option LmsPublic) (key : LmsPublic) → learned_if answer known key ≡ Ok New → known ≡ None
new_if (Ok u) known key e = new_as known key e
new_if (Err fault) known key e = absurd cc

pub new_has_none : (keys : Directory) (a : Announced) → learned keys a ≡ Ok New → slice_get (keys_of keys a.party) (a.generation + 1) ≡ None
unfolding learned
new_has_none keys a e = new_if (verified keys a.party (text_of (roll_claim a)) a.signature) (slice_get (keys_of keys a.party) (a.generation + 1)) a.key e

learning_grows : (keys : Directory) (a : Announced) (party : Party) → BeginsWith (keys_of (after_learning keys a) party) (keys_of keys party)
learning_grows keys a party = by_answer (learned keys a) refl where
  by_answer : (answer : Result Learned LearnFault) → learned keys a ≡ answer → BeginsWith (keys_of (learning answer keys a) party) (keys_of keys party)
  by_answer (Ok New) e = role_grows a.party.role party.role keys a.party.number party.number a.generation a.key (new_has_none keys a e)
  by_answer (Ok Again) e = begins_itself (keys_of keys party)
  by_answer (Err fault) e = begins_itself (keys_of keys party)

pub all_grows : (keys : Directory) (announced : List Announced) (party : Party) → BeginsWith (keys_of (after_all keys announced) party) (keys_of keys party)
all_grows keys [] party = begins_itself (keys_of keys party)
all_grows keys (a ∷ announced) party =
    begins_on (keys_of keys party) (keys_of (after_learning keys a) party) _ (all_grows (after_learning keys a) announced party) (learning_grows keys a party)

-- ---- what was verified

-- an answer under keys of which more become known, but that the party or the generation is not known
abbrev pub IsLasting : Result (Unit {0}) VerifyFault → Type 0
IsLasting (Ok u) = Unit {0}
IsLasting (Err (Unknown party)) = ⊥
IsLasting (Err (Bad k)) = k ≡ 6 → ⊥

by_key_lasts : (known : Option LmsPublic) (keys more : List LmsPublic) (generation : ℕ) (text signature : List ℕ) → slice_get keys generation ≡ known
    → IsLasting (answer_by known generation text signature)
    → answer_by (slice_get (keys ++ more) generation) generation text signature ≡ answer_by known generation text signature
by_key_lasts None keys more generation text signature e lasting = absurd (lasting refl)
by_key_lasts (Some key) keys more generation text signature e lasting =
    ap (λ (known : Option LmsPublic). answer_by known generation text signature) (get-more keys more generation key e)

at_lasts : (generation : Option ℕ) (keys more : List LmsPublic) (text signature : List ℕ) → IsLasting (answer_at generation keys text signature)
    → answer_at generation (keys ++ more) text signature ≡ answer_at generation keys text signature
at_lasts None keys more text signature lasting = refl
at_lasts (Some generation) keys more text signature lasting =
    by_key_lasts (slice_get keys generation) keys more generation text (behind_generation signature) refl lasting

under_lasts : (keys more : List LmsPublic) (party : Party) (text signature : List ℕ) → IsLasting (answer_under keys party text signature)
    → answer_under (keys ++ more) party text signature ≡ answer_under keys party text signature
under_lasts [] more party text signature lasting = absurd lasting
under_lasts (first ∷ later) more party text signature lasting = at_lasts (generation_of signature) (first ∷ later) more text signature lasting

pub lasts : (keys : Directory) (announced : List Announced) (party : Party) (text signature : List ℕ) (answer : Result (Unit {0}) VerifyFault)
    → IsLasting answer → verified keys party text signature ≡ answer → verified (after_all keys announced) party text signature ≡ answer
unfolding verified
lasts keys announced party text signature answer lasting e =
    let grown = all_grows keys announced party in
    let kept = under_lasts (keys_of keys party) grown.0 party text signature (subst (λ (r : Result (Unit {0}) VerifyFault). IsLasting r) (sym e) lasting) in
    ap (λ (known : List LmsPublic). answer_under known party text signature) grown.1 ∙ kept ∙ e
