-- Where a signature stands that was written into messages, and what stays.
use Rattle.std.proofs.Common.{◌≡◌, ◌≢◌, ℕ, zero, suc, ◌+◌, ◌-◌, ◌<◌, ◌≤◌, ◌⊎◌, inl, inr, ◌∙◌, ap, sym, subst, refl, arith, get_or, set, take, drop, length, List, [], ◌∷◌, ◌++◌}
use Rattle.std.specs.Prelude.{map, All, AllPairs}
use Rattle.std.proofs.lemmas.Bool.{cases_eq}
use Rattle.std.proofs.lemmas.List.{get_or_append_left, get_or-append_right, get_or-append-add, get_or-drop, get_or-set_other, get_or-set_same, get_or-take, get_or-map, length-append, length-drop, length-map, length-set, length-take-le, map-set, set-get_or}
use Rattle.std.proofs.lemmas.Option.{get_or_from_slice_get, slice_get-get_or, slice_get_within}
use Rattle.lms_tree.specs.KeyParts.{KeyParts}
use Rattle.ar_message.specs.declared.address.Address.{Address}
use Rattle.ar_message.specs.declared.address.Address.TheVariants.{Logs}
use Rattle.ar_message.specs.declared.unsigned.Blank.{Blank}
use Rattle.ar_message.specs.Sending.{Letter}
use Rattle.ar_message.specs.Filling.{AreApart, IsBlank, IsOutside, IsSigned, byte_at, letter_bytes, lengths, no_letter, signature_due, signed, signed_at, signed_in, with_signature, written_at}
use Rattle.ar_message.proofs.Filled.{length_of}

-- ---- bytes that are written over others

inside : (place j : ℕ) (bytes whole : List ℕ) → place ≤ length whole → j < length bytes → get_or (written_at place bytes whole) (place + j) 0 ≡ get_or bytes j 0
inside place j bytes whole le lt =
    let front = take place whole in
    let wide : length front ≡ place = length-take-le place whole le in
    let rest = drop (place + length bytes) whole in
    ap (λ n. get_or (front ++ (bytes ++ rest)) (n + j) 0) (sym wide) ∙ get_or-append-add front (bytes ++ rest) j 0 ∙ get_or_append_left bytes rest 0 j lt

before : (place p : ℕ) (bytes whole : List ℕ) → place ≤ length whole → p < place → get_or (written_at place bytes whole) p 0 ≡ get_or whole p 0
before place p bytes whole le lt =
    let front = take place whole in
    let within : p < length front = subst (λ n. p < n) (sym (length-take-le place whole le)) lt in
    get_or_append_left front (bytes ++ drop (place + length bytes) whole) 0 p within ∙ get_or-take place whole p 0 lt

behind : (place p : ℕ) (bytes whole : List ℕ) → place ≤ length whole → place + length bytes ≤ p → get_or (written_at place bytes whole) p 0 ≡ get_or whole p 0
behind place p bytes whole le past =
    let front = take place whole in
    let rest = drop (place + length bytes) whole in
    let first = get_or-append_right front (bytes ++ rest) place p 0 (length-take-le place whole le) (omega (arith, past)) in
    let second = get_or-append_right bytes rest (length bytes) (p - place) 0 refl (omega (arith, past)) in
    let third = get_or-drop (place + length bytes) whole (p - place - length bytes) 0 in
    let again : (place + length bytes) + (p - place - length bytes) ≡ p = omega (arith, past) in
    first ∙ second ∙ third ∙ ap (λ n. get_or whole n 0) again

no_shorter : (place : ℕ) (bytes whole : List ℕ) → place ≤ length whole → length whole ≤ length (written_at place bytes whole)
no_shorter place bytes whole le =
    let front = take place whole in
    let rest = drop (place + length bytes) whole in
    let all : length (front ++ (bytes ++ rest)) ≡ length front + length (bytes ++ rest) = length-append front (bytes ++ rest) in
    let two : length (bytes ++ rest) ≡ length bytes + length rest = length-append bytes rest in
    let left : length front ≡ place = length-take-le place whole le in
    let right : length rest ≡ length whole - (place + length bytes) = length-drop (place + length bytes) whole in
    omega (arith, all, two, left, right)

-- ---- one blank

-- a blank stands in a message that is there, and begins in it
pub record Stands (letters : List Letter) (b : Blank) : Type 0 where
  pub there : b.message < length letters
  pub begins : b.at ≤ length (letter_bytes letters b.message)

pub stands : (keys : List KeyParts) (letters : List Letter) (b : Blank) → IsBlank keys (lengths letters) b → Stands letters b
stands keys letters b is =
    let within : b.message < length (lengths letters) = slice_get_within (lengths letters) b.message is.whole is.named in
    let there : b.message < length letters = subst (λ n. b.message < n) (length-map letters length_of) within in
    let own : length (letter_bytes letters b.message) ≡ is.whole =
    sym (get_or-map length_of letters b.message no_letter 0 there) ∙ get_or_from_slice_get (lengths letters) b.message is.whole 0 is.named in
    record { there = there; begins = omega (arith, own, is.fits.inside) }

as_set : (keys : List KeyParts) (letters : List Letter) (b : Blank) → b.message < length letters
    → signed_at keys b letters ≡ set letters b.message (with_signature keys b (get_or letters b.message no_letter))
as_set keys letters b there = ap (signed_in keys b letters) (slice_get-get_or letters b.message no_letter there)

own_bytes : (keys : List KeyParts) (letters : List Letter) (b : Blank) → b.message < length letters
    → letter_bytes (signed_at keys b letters) b.message ≡ written_at b.at (signature_due keys b.due) (letter_bytes letters b.message)
own_bytes keys letters b there =
    ap (λ ls. letter_bytes ls b.message) (as_set keys letters b there)
    ∙ ap (λ (l : Letter). l.bytes) (get_or-set_same letters b.message (with_signature keys b (get_or letters b.message no_letter)) no_letter there)

other_bytes : (keys : List KeyParts) (letters : List Letter) (b : Blank) → b.message < length letters → (i : ℕ) → i ≢ b.message
    → letter_bytes (signed_at keys b letters) i ≡ letter_bytes letters i
other_bytes keys letters b there i ne =
    ap (λ ls. letter_bytes ls i) (as_set keys letters b there)
    ∙ ap (λ (l : Letter). l.bytes) (get_or-set_other letters b.message i (with_signature keys b (get_or letters b.message no_letter)) no_letter ne)

same_count : (keys : List KeyParts) (letters : List Letter) (b : Blank) → b.message < length letters → length (signed_at keys b letters) ≡ length letters
same_count keys letters b there =
    ap length (as_set keys letters b there) ∙ length-set letters b.message (with_signature keys b (get_or letters b.message no_letter))

grows : (keys : List KeyParts) (letters : List Letter) (b : Blank) → Stands letters b → (i : ℕ) → (i ≡ b.message) ⊎ (i ≢ b.message)
    → length (letter_bytes letters i) ≤ length (letter_bytes (signed_at keys b letters) i)
grows keys letters b s i (inl e) =
    subst (λ n. length (letter_bytes letters n) ≤ length (letter_bytes (signed_at keys b letters) n)) (sym e)
    (subst (λ bs. length (letter_bytes letters b.message) ≤ length bs) (sym (own_bytes keys letters b s.there))
    (no_shorter b.at (signature_due keys b.due) (letter_bytes letters b.message) s.begins))
grows keys letters b s i (inr ne) =
    let same : length (letter_bytes (signed_at keys b letters) i) ≡ length (letter_bytes letters i) = ap length (other_bytes keys letters b s.there i ne) in
    omega (arith, same)

still_stands : (keys : List KeyParts) (letters : List Letter) (b c : Blank) → Stands letters b → Stands letters c → Stands (signed_at keys b letters) c
still_stands keys letters b c s t =
    let wider = grows keys letters b s c.message (cases_eq c.message b.message) in
    record {
      there = subst (λ n. c.message < n) (sym (same_count keys letters b s.there)) t.there;
      begins = omega (arith, t.begins, wider);
    }

stays_in : (keys : List KeyParts) (letters : List Letter) (b : Blank) → Stands letters b → (p : ℕ)
    → (p < b.at) ⊎ (b.at + length (signature_due keys b.due) ≤ p) → byte_at (signed_at keys b letters) b.message p ≡ byte_at letters b.message p
stays_in keys letters b s p (inl lt) =
    ap (λ bs. get_or bs p 0) (own_bytes keys letters b s.there) ∙ before b.at p (signature_due keys b.due) (letter_bytes letters b.message) s.begins lt
stays_in keys letters b s p (inr past) =
    ap (λ bs. get_or bs p 0) (own_bytes keys letters b s.there) ∙ behind b.at p (signature_due keys b.due) (letter_bytes letters b.message) s.begins past

stays_here : (keys : List KeyParts) (letters : List Letter) (b : Blank) → Stands letters b → (i p : ℕ) → IsOutside keys i p b → (i ≡ b.message) ⊎ (i ≢ b.message)
    → byte_at (signed_at keys b letters) i p ≡ byte_at letters i p
stays_here keys letters b s i p out (inr ne) = ap (λ bs. get_or bs p 0) (other_bytes keys letters b s.there i ne)
stays_here keys letters b s i p (inl ne) (inl e) = absurd (ne (sym e))
stays_here keys letters b s i p (inr out) (inl e) =
    subst (λ n. byte_at (signed_at keys b letters) n p ≡ byte_at letters n p) (sym e) (stays_in keys letters b s p out)

stays_one : (keys : List KeyParts) (letters : List Letter) (b : Blank) → Stands letters b → (i p : ℕ) → IsOutside keys i p b
    → byte_at (signed_at keys b letters) i p ≡ byte_at letters i p
stays_one keys letters b s i p out = stays_here keys letters b s i p out (cases_eq i b.message)

is_signed : (keys : List KeyParts) (letters : List Letter) (b : Blank) → Stands letters b → IsSigned keys (signed_at keys b letters) b
is_signed keys letters b s = λ j lt.
    ap (λ bs. get_or bs (b.at + j) 0) (own_bytes keys letters b s.there) ∙ inside b.at j (signature_due keys b.due) (letter_bytes letters b.message) s.begins lt

-- ---- all blanks

stand_after : (keys : List KeyParts) (blanks : List Blank) (letters : List Letter) (c : Blank) → All (Stands letters) blanks → Stands letters c
    → Stands (signed keys blanks letters) c
unfolding signed
stand_after keys [] letters c all s = s
stand_after keys (b ∷ blanks) letters c all s =
    let rest : All (Stands letters) blanks = λ k d lt. all (suc k) d (omega (arith, lt)) in
    still_stands keys (signed keys blanks letters) b c (stand_after keys blanks letters b rest (all 0 b (omega arith))) (stand_after keys blanks letters c rest s)

pub stays : (keys : List KeyParts) (blanks : List Blank) (letters : List Letter) → All (Stands letters) blanks → (i p : ℕ) → All (IsOutside keys i p) blanks
    → byte_at (signed keys blanks letters) i p ≡ byte_at letters i p
unfolding signed
stays keys [] letters all i p out = refl
stays keys (b ∷ blanks) letters all i p out =
    let rest : All (Stands letters) blanks = λ k d lt. all (suc k) d (omega (arith, lt)) in
    let others : All (IsOutside keys i p) blanks = λ k d lt. out (suc k) d (omega (arith, lt)) in
    let here : Stands (signed keys blanks letters) b = stand_after keys blanks letters b rest (all 0 b (omega arith)) in
    stays_one keys (signed keys blanks letters) b here i p (out 0 b (omega arith)) ∙ stays keys blanks letters rest i p others

-- a place of the one is none of the other
outside : (keys : List KeyParts) (b c : Blank) → AreApart keys b c → (j : ℕ) → j < length (signature_due keys c.due) → IsOutside keys c.message (c.at + j) b
outside keys b c (inl ne) j lt = inl ne
outside keys b c (inr (inl le)) j lt = inr (inr (omega (arith, le)))
outside keys b c (inr (inr le)) j lt = inr (inl (omega (arith, le, lt)))

pub each_signed : (keys : List KeyParts) (blanks : List Blank) (letters : List Letter) → All (Stands letters) blanks → AllPairs (AreApart keys) blanks
    → (k : ℕ) (d : Blank) → k < length blanks → IsSigned keys (signed keys blanks letters) (get_or blanks k d)
unfolding signed
each_signed keys [] letters all apart k d lt = absurd (omega (arith, lt))
each_signed keys (b ∷ blanks) letters all apart zero d lt =
    let rest : All (Stands letters) blanks = λ k e below. all (suc k) e (omega (arith, below)) in
    is_signed keys (signed keys blanks letters) b (stand_after keys blanks letters b rest (all 0 b (omega arith)))
each_signed keys (b ∷ blanks) letters all apart (suc k) d lt =
    let rest : All (Stands letters) blanks = λ n e below. all (suc n) e (omega (arith, below)) in
    let others : AllPairs (AreApart keys) blanks = λ m n e less below. apart (suc m) (suc n) e (omega (arith, less)) (omega (arith, below)) in
    let here : Stands (signed keys blanks letters) b = stand_after keys blanks letters b rest (all 0 b (omega arith)) in
    let c = get_or blanks k d in
    let between : AreApart keys b c = apart 0 (suc k) d (omega arith) lt in
    λ j below.
    stays_one keys (signed keys blanks letters) b here c.message (c.at + j) (outside keys b c between j below)
    ∙ each_signed keys blanks letters rest others k d (omega (arith, lt)) j below

-- ---- addresses

abbrev address_of : Letter → Address
address_of l = l.to

one_address : (keys : List KeyParts) (b : Blank) (letters : List Letter) → Stands letters b → map address_of (signed_at keys b letters) ≡ map address_of letters
one_address keys b letters s =
    let old = get_or letters b.message no_letter in
    ap (map address_of) (as_set keys letters b s.there) ∙ map-set address_of letters b.message (with_signature keys b old)
    ∙ ap (set (map address_of letters) b.message) (sym (get_or-map address_of letters b.message no_letter Logs s.there))
    ∙ set-get_or (map address_of letters) b.message Logs

pub same_addresses : (keys : List KeyParts) (blanks : List Blank) (letters : List Letter) → All (Stands letters) blanks
    → map address_of (signed keys blanks letters) ≡ map address_of letters
unfolding signed
same_addresses keys [] letters all = refl
same_addresses keys (b ∷ blanks) letters all =
    let rest : All (Stands letters) blanks = λ k d lt. all (suc k) d (omega (arith, lt)) in
    one_address keys b (signed keys blanks letters) (stand_after keys blanks letters b rest (all 0 b (omega arith))) ∙ same_addresses keys blanks letters rest
