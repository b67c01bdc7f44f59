-- What a directory knows of the other parties, behind what it learnt of one; and of that one itself.
use Rattle.std.proofs.Common.{◌≡◌, ◌≢◌, ℕ, zero, suc, ◌+◌, ◌<◌, Bool, true, false, nat_lt, List, [], ◌∷◌, ◌++◌, length, take, slice_set, if◌then◌else◌, Result, Ok, Err, refl, sym, ap, ◌∙◌, arith}
use Rattle.std.specs.Prelude.{All}
use Rattle.std.proofs.lemmas.Bool.{lt-ltb}
use Rattle.std.proofs.lemmas.List.{take_all}
use Rattle.std.proofs.lemmas.List.Elements.{All-head, All-tail}
use Rattle.lms_tree.specs.declared.public_key.LmsPublic.{LmsPublic}
use Rattle.ar_statement.specs.declared.party.Role.{Role}
use Rattle.ar_statement.specs.declared.party.Role.TheVariants.{LogServer, Authority, Owner, Client}
use Rattle.ar_statement.specs.declared.party.Party.{Party}
use Rattle.ar_statement.specs.Claims.{text_of}
use Rattle.party_keys.specs.Directory.{Directory, keys_at, keys_of, role_keys}
use Rattle.party_keys.specs.Signatures.{answer_under, verified}
use Rattle.party_keys.specs.Learning.{Announced, after_adopting, after_all, after_learning, learned, learning, next_behind, roll_claim, with_next, with_next_of}
use Rattle.party_keys.specs.declared.fault.LearnFault.{LearnFault}
use Rattle.party_keys.specs.declared.learning.Learned.{Learned}
use Rattle.party_keys.specs.declared.learning.Learned.TheVariants.{New, Again}
use Rattle.party_keys.proofs.Growing.{new_has_none, past}
use Rattle.party_keys.proofs.Signed.{learnt_signed}

-- ---- other parties

-- a list that is set leaves the others
others_stay : (lists : List (List LmsPublic)) (n m : ℕ) (keys : List LmsPublic) → (n ≡ m → ⊥) → keys_at (slice_set lists n keys) m ≡ keys_at lists m
others_stay [] n m keys apart = refl
others_stay (first ∷ lists) zero zero keys apart = absurd (apart refl)
others_stay (first ∷ lists) zero (suc m) keys apart = refl
others_stay (first ∷ lists) (suc n) zero keys apart = refl
others_stay (first ∷ lists) (suc n) (suc m) keys apart = others_stay lists n m keys (λ e. apart (ap suc e))

-- a next key of the party with one role and number leaves each with another role or number
role_stays : (role other : Role) (keys : Directory) (n m generation : ℕ) (key : LmsPublic) → (role ≡ other → n ≡ m → ⊥)
    → keys_at (role_keys (with_next_of role keys n generation key) other) m ≡ keys_at (role_keys keys other) m
role_stays LogServer LogServer keys n m generation key apart = others_stay keys.logs n m (next_behind generation key (keys_at keys.logs n)) (apart refl)
role_stays LogServer Authority keys n m generation key apart = refl
role_stays LogServer Owner keys n m generation key apart = refl
role_stays LogServer Client keys n m generation key apart = refl
role_stays Authority LogServer keys n m generation key apart = refl
role_stays Authority Authority keys n m generation key apart = others_stay keys.authorities n m (next_behind generation key (keys_at keys.authorities n)) (apart refl)
role_stays Authority Owner keys n m generation key apart = refl
role_stays Authority Client keys n m generation key apart = refl
role_stays Owner other keys n m generation key apart = refl
role_stays Client other keys n m generation key apart = refl

next_stays : (keys : Directory) (party other : Party) (generation : ℕ) (key : LmsPublic) → other ≢ party → keys_of (with_next keys party generation key) other ≡ keys_of keys other
next_stays keys party other generation key apart =
    role_stays party.role other.role keys party.number other.number generation key
    (λ roles numbers. apart (λ i. record { role = sym roles i; number = sym numbers i }))

pub learning_stays : (keys : Directory) (a : Announced) (other : Party) → other ≢ a.party → keys_of (after_learning keys a) other ≡ keys_of keys other
learning_stays keys a other apart = by (learned keys a) where
  by : (answer : Result Learned LearnFault) → keys_of (learning answer keys a) other ≡ keys_of keys other
  by (Ok New) = next_stays keys a.party other a.generation a.key apart
  by (Ok Again) = refl
  by (Err fault) = refl

pub all_stay : (keys : Directory) (announced : List Announced) (other : Party) → All (λ a. other ≢ a.party) announced → keys_of (after_all keys announced) other ≡ keys_of keys other
all_stay keys [] other apart = refl
all_stay keys (a ∷ announced) other apart =
    all_stay (after_learning keys a) announced other (All-tail (λ (b : Announced). other ≢ b.party) a announced apart)
    ∙ learning_stays keys a other (All-head (λ (b : Announced). other ≢ b.party) a announced apart)

pub adopting_stays : (keys : Directory) (party other : Party) (generation : ℕ) (key : LmsPublic) → other ≢ party → keys_of (after_adopting keys party generation key) other ≡ keys_of keys other
adopting_stays keys party other generation key apart = by (nat_lt generation (length (keys_of keys party))) where
  by : (known : Bool) → keys_of (if known then with_next keys party generation key else keys) other ≡ keys_of keys other
  by true = next_stays keys party other generation key apart
  by false = refl

-- ---- the party itself

-- a list that is set is the one of its number, where there is one
itself_set : (lists : List (List LmsPublic)) (n : ℕ) (keys : List LmsPublic) → 0 < length (keys_at lists n) → keys_at (slice_set lists n keys) n ≡ keys
itself_set [] n keys some = absurd (omega (arith, some))
itself_set (first ∷ lists) zero keys some = refl
itself_set (first ∷ lists) (suc n) keys some = itself_set lists n keys some

role_next : (role : Role) (keys : Directory) (n generation : ℕ) (key : LmsPublic) → 0 < length (keys_at (role_keys keys role) n)
    → keys_at (role_keys (with_next_of role keys n generation key) role) n ≡ next_behind generation key (keys_at (role_keys keys role) n)
role_next LogServer keys n generation key some = itself_set keys.logs n (next_behind generation key (keys_at keys.logs n)) some
role_next Authority keys n generation key some = itself_set keys.authorities n (next_behind generation key (keys_at keys.authorities n)) some
role_next Owner keys n generation key some = absurd (omega (arith, some))
role_next Client keys n generation key some = absurd (omega (arith, some))

-- what was verified is of a party of the directory
some_under : (keys : List LmsPublic) (party : Party) (text signature : List ℕ) → answer_under keys party text signature ≡ Ok tt → 0 < length keys
some_under [] party text signature e = absurd cc
some_under (first ∷ later) party text signature e = omega arith

some_known : (keys : Directory) (a : Announced) → learned keys a ≡ Ok New → 0 < length (keys_of keys a.party)
unfolding verified
some_known keys a e =
    some_under (keys_of keys a.party) a.party (text_of (roll_claim a)) a.signature (learnt_signed keys a New e)

-- a new key stands behind all that are known of its party
pub new_is_last : (keys : Directory) (a : Announced) → learned keys a ≡ Ok New → keys_of (after_learning keys a) a.party ≡ keys_of keys a.party ++ a.key ∷ []
new_is_last keys a e =
    let all : take (a.generation + 1) (keys_of keys a.party) ≡ keys_of keys a.party = take_all (a.generation + 1) (keys_of keys a.party) (past (keys_of keys a.party) (a.generation + 1) (new_has_none keys a e)) in
    ap (λ (answer : Result Learned LearnFault). keys_of (learning answer keys a) a.party) e
    ∙ role_next a.party.role keys a.party.number a.generation a.key (some_known keys a e)
    ∙ ap (λ (front : List LmsPublic). front ++ a.key ∷ []) all

-- a party's own next key stands behind those up to its generation
pub own_is_next : (keys : Directory) (party : Party) (generation : ℕ) (key : LmsPublic) → generation < length (keys_of keys party)
    → keys_of (after_adopting keys party generation key) party ≡ next_behind generation key (keys_of keys party)
own_is_next keys party generation key known =
    ap (λ (b : Bool). keys_of (if b then with_next keys party generation key else keys) party) (lt-ltb _ _ known)
    ∙ role_next party.role keys party.number generation key (omega (arith, known))
