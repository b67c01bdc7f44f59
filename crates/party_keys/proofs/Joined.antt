-- The first key of each party joined with lists of later ones.
use Rattle.std.proofs.Common.{◌≡◌, ℕ, zero, suc, ◌+◌, ◌-◌, ◌<◌, ◌≤◌, List, [], ◌∷◌, ◌++◌, length, take, replicate, slice_get, slice_set, Some, None, refl, sym, ap, ◌∙◌, add-one, arith}
use Rattle.std.proofs.lemmas.List.{append-nil, append_assoc, replicate_more, take_all, take_more}
use Rattle.std.proofs.lemmas.Option.{get_or_from_slice_get}
use Rattle.lms_tree.specs.declared.public_key.LmsPublic.{LmsPublic}
use Rattle.party_keys.specs.Directory.{HaveKeys, first_keys, keys_at}
use Rattle.party_keys.specs.Kept.{joined}
use Rattle.party_keys.specs.Learning.{with_next_at}

-- ---- what is joined

pub joined-none : (firsts : List LmsPublic) → joined firsts [] ≡ first_keys firsts
unfolding joined
joined-none [] = refl
joined-none (first ∷ firsts) = ap (λ (rest : List (List LmsPublic)). (first ∷ []) ∷ rest) (joined-none firsts)

pub length-joined : (firsts : List LmsPublic) (later : List (List LmsPublic)) → length (joined firsts later) ≡ length firsts
unfolding joined
length-joined [] later = refl
length-joined (first ∷ firsts) [] = ap suc (length-joined firsts [])
length-joined (first ∷ firsts) (keys ∷ later) = ap suc (length-joined firsts later)

pub all-joined : (firsts : List LmsPublic) (later : List (List LmsPublic)) → HaveKeys (joined firsts later)
unfolding joined
all-joined [] later k d lt = absurd (omega arith)
all-joined (first ∷ firsts) [] zero d lt = omega arith
all-joined (first ∷ firsts) [] (suc k) d lt = all-joined firsts [] k d (omega arith)
all-joined (first ∷ firsts) (keys ∷ later) zero d lt = omega arith
all-joined (first ∷ firsts) (keys ∷ later) (suc k) d lt = all-joined firsts later k d (omega arith)

-- ---- the keys of one party

pub keys_at-joined : (firsts : List LmsPublic) (later : List (List LmsPublic)) (n : ℕ) (first : LmsPublic)
    → slice_get firsts n ≡ Some first → keys_at (joined firsts later) n ≡ first ∷ keys_at later n
unfolding joined
keys_at-joined [] later n first e = absurd cc
keys_at-joined (x ∷ firsts) [] zero first e = ap (λ (key : LmsPublic). key ∷ []) cc
keys_at-joined (x ∷ firsts) [] (suc n) first e = keys_at-joined firsts [] n first e
keys_at-joined (x ∷ firsts) (keys ∷ later) zero first e = ap (λ (key : LmsPublic). key ∷ keys) cc
keys_at-joined (x ∷ firsts) (keys ∷ later) (suc n) first e = keys_at-joined firsts later n first e

pub keys_at-past : (firsts : List LmsPublic) (later : List (List LmsPublic)) (n : ℕ)
    → slice_get firsts n ≡ None → keys_at (joined firsts later) n ≡ []
unfolding joined
keys_at-past [] later n e = refl
keys_at-past (x ∷ firsts) [] zero e = absurd cc
keys_at-past (x ∷ firsts) [] (suc n) e = keys_at-past firsts [] n e
keys_at-past (x ∷ firsts) (keys ∷ later) zero e = absurd cc
keys_at-past (x ∷ firsts) (keys ∷ later) (suc n) e = keys_at-past firsts later n e

-- ---- later keys

-- empty lists behind the others change nothing
pub joined-more : (firsts : List LmsPublic) (later : List (List LmsPublic)) (more : ℕ)
    → joined firsts (later ++ replicate more []) ≡ joined firsts later
unfolding joined
joined-more [] later more = refl
joined-more (first ∷ firsts) [] zero = refl
joined-more (first ∷ firsts) [] (suc more) = ap (λ (rest : List (List LmsPublic)). (first ∷ []) ∷ rest) (joined-more firsts [] more)
joined-more (first ∷ firsts) (keys ∷ later) more = ap (λ (rest : List (List LmsPublic)). (first ∷ keys) ∷ rest) (joined-more firsts later more)

-- a key more behind those of one party
pub joined-put : (firsts : List LmsPublic) (later : List (List LmsPublic)) (n generation : ℕ) (key : LmsPublic)
    → n < length later
    → joined firsts (slice_set later n (take generation (keys_at later n) ++ key ∷ [])) ≡ with_next_at (joined firsts later) n generation key
unfolding joined
joined-put [] later n generation key lt = refl
joined-put (first ∷ firsts) [] n generation key lt = absurd (omega arith)
joined-put (first ∷ firsts) (keys ∷ later) zero generation key lt = rw add-one refl
joined-put (first ∷ firsts) (keys ∷ later) (suc n) generation key lt =
    ap (λ (rest : List (List LmsPublic)). (first ∷ keys) ∷ rest) (joined-put firsts later n generation key (omega arith))

-- ---- looking up, growing and copying

pub front : (key : LmsPublic) (keys : List LmsPublic) (g : ℕ) → g ≡ 0 → slice_get (key ∷ keys) g ≡ Some key
front key keys g e = rw e refl

pub behind : (key : LmsPublic) (keys : List LmsPublic) (g : ℕ) → (g ≡ 0 → ⊥) → slice_get (key ∷ keys) g ≡ slice_get keys (g - 1)
behind key keys zero some = absurd (some refl)
behind key keys (suc g) some = ap (λ (i : ℕ). slice_get keys i) (omega arith)

pub kept : (lists : List (List LmsPublic)) (n : ℕ) (keys : List LmsPublic) → slice_get lists n ≡ Some keys → keys_at lists n ≡ keys
kept lists n keys e = get_or_from_slice_get lists n keys [] e

pub not_kept : (lists : List (List LmsPublic)) (n : ℕ) → slice_get lists n ≡ None → keys_at lists n ≡ []
not_kept [] n e = refl
not_kept (keys ∷ lists) zero e = absurd cc
not_kept (keys ∷ lists) (suc n) e = not_kept lists n e

pub one_more : (old now : List (List LmsPublic)) (count n : ℕ) → now ≡ old ++ replicate (count - n) [] → n ≤ count
    → now ++ [] ∷ [] ≡ old ++ replicate (count + 1 - n) []
one_more old now count n e le =
    let next : count + 1 - n ≡ (count - n) + 1 = omega arith in
    let put : replicate (count - n) [] ++ [] ∷ [] ≡ replicate ((count - n) + 1) [] = replicate_more (count - n) [] in
    rw (e, next) (append_assoc old (replicate (count - n) []) ([] ∷ []) ∙ ap (λ (l : List (List LmsPublic)). old ++ l) put)

pub none_more : (old : List (List LmsPublic)) → old ≡ old ++ replicate 0 []
none_more old = sym (append-nil old)

pub ruleset made = (joined-none, all-joined)

pub ruleset lengths = (length-joined, all-joined)

pub ruleset looked_up = (keys_at-joined, keys_at-past, front, behind, kept, not_kept)

pub ruleset reaching = (one_more, none_more)

pub ruleset grown = (joined-more, joined-put, all-joined)

pub ruleset copied = (all-joined, take_all, take_more)
