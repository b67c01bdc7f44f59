-- A directory keeps knowing the keys of a party whose ring it knew.
use Rattle.std.proofs.Common.{◌≡◌, ℕ, zero, suc, ◌+◌, ◌-◌, ◌^◌, ◌<◌, ◌≤◌, ◌⊎◌, inl, inr, true, List, [], ◌∷◌, ◌++◌, length, take, Some, refl, sym, ap, ◌∙◌, subst, arith}
use Rattle.std.specs.Prelude.{slice_get, slice_set, nat_lt}
use Rattle.std.proofs.lemmas.Bool.{lt-ltb}
use Rattle.std.proofs.lemmas.Option.{slice_get_within}
use Rattle.lms_tree.specs.declared.lms_type.LmsType.{LmsType}
use Rattle.lms_tree.specs.declared.public_key.LmsPublic.{LmsPublic}
use Rattle.lms_tree.specs.Key.{public_of}
use Rattle.lms_tree.specs.KeyParts.{KeyParts}
use Rattle.lms_tree.specs.LmsKind.{height_of}
use Rattle.ar_statement.specs.declared.party.Role.{Role}
use Rattle.ar_statement.specs.declared.party.Role.TheVariants.{LogServer, Authority, Owner, Client}
use Rattle.ar_statement.specs.declared.party.Party.{Party}
use Rattle.key_roll.specs.Ring.{IsNext}
use Rattle.party_keys.specs.Directory.{Directory, keys_at, keys_of, role_keys}
use Rattle.party_keys.specs.Learning.{Announced, after_adopting, after_all, with_next, with_next_of}
use Rattle.party_keys.proofs.Growing.{all_grows}
use Rattle.ar_safety.specs.Accepting.{KnowsRing}
use Rattle.ar_safety.proofs.Verifying.{known-number}
use Rattle.ar_base.proofs.Lists.{get-more}

-- ---- lists

get-front : {A : Type 0} (xs ys : List A) (m k : ℕ) (x : A) → k < m → slice_get xs k ≡ Some x → slice_get (take m xs ++ ys) k ≡ Some x
get-front xs ys zero k x less e = absurd (omega (arith, less))
get-front [] ys (suc m) k x less e = absurd cc
get-front (y ∷ xs) ys (suc m) zero x less e = e
get-front (y ∷ xs) ys (suc m) (suc k) x less e = get-front xs ys m k x (omega (arith, less)) e

get-end : {A : Type 0} (xs : List A) (m : ℕ) (y : A) → m ≤ length xs → slice_get (take m xs ++ y ∷ []) m ≡ Some y
get-end xs zero y le = refl
get-end [] (suc m) y le = absurd (omega (arith, le))
get-end (x ∷ xs) (suc m) y le = get-end xs m y (omega (arith, le))

-- what stands in a list with one more is of the list, or is the last
get-push : {A : Type 0} (xs : List A) (y : A) (k : ℕ) (x : A) → slice_get (xs ++ y ∷ []) k ≡ Some x → (slice_get xs k ≡ Some x) ⊎ ((k ≡ length xs) × (y ≡ x))
get-push [] y zero x e = inr (refl, cc)
get-push [] y (suc k) x e = absurd cc
get-push (z ∷ xs) y zero x e = inl e
get-push (z ∷ xs) y (suc k) x e = elim (get-push xs y k x e) [ inl there ↦ inl there | inr last ↦ inr (omega (arith, last.0), last.1) ]

-- ---- the keys of a party

put-at : (lists : List (List LmsPublic)) (n : ℕ) (keys : List LmsPublic) → n < length lists → keys_at (slice_set lists n keys) n ≡ keys
put-at [] n keys less = absurd (omega (arith, less))
put-at (x ∷ lists) zero keys less = refl
put-at (x ∷ lists) (suc n) keys less = put-at lists n keys (omega (arith, less))

-- behind the adopted key a party has the keys up to the generation, and this one
next-keys : (role : Role) (keys : Directory) (n g : ℕ) (known key : LmsPublic) → slice_get (keys_at (role_keys keys role) n) g ≡ Some known
    → keys_at (role_keys (with_next_of role keys n g key) role) n ≡ take (g + 1) (keys_at (role_keys keys role) n) ++ key ∷ []
next-keys LogServer keys n g known key is = put-at keys.logs n (take (g + 1) (keys_at keys.logs n) ++ key ∷ []) (known-number keys.logs n g known is)
next-keys Authority keys n g known key is = put-at keys.authorities n (take (g + 1) (keys_at keys.authorities n) ++ key ∷ []) (known-number keys.authorities n g known is)
next-keys Owner keys n g known key is = absurd cc
next-keys Client keys n g known key is = absurd cc

-- ---- rings

pub first-known : (keys : Directory) (party : Party) (leaves : ℕ) (key : KeyParts) → slice_get (keys_of keys party) 0 ≡ Some (public_of key) → leaves ≡ 2 ^ height_of key.lms
    → KnowsRing keys party leaves (key ∷ [])
first-known keys party leaves key is many zero other at =
    let same : key ≡ other = cc in (is ∙ ap (λ k. Some (public_of k)) same, many ∙ ap (λ (k : KeyParts). 2 ^ height_of k.lms) same)
first-known keys party leaves key is many (suc g) other at = absurd cc

pub learnt-known : (keys : Directory) (announced : List Announced) (party : Party) (leaves : ℕ) (ring : List KeyParts) → KnowsRing keys party leaves ring
    → KnowsRing (after_all keys announced) party leaves ring
learnt-known keys announced party leaves ring known g key at =
    let more = all_grows keys announced party in
    let was = known g key at in
    (subst (λ ks. slice_get ks g ≡ Some (public_of key)) (sym more.1) (get-more (keys_of keys party) more.0 g (public_of key) was.0), was.1)

pub rolled-known : (keys : Directory) (party : Party) (leaves : ℕ) (ring : List KeyParts) (next : KeyParts) → KnowsRing keys party leaves ring → IsNext ring next
    → KnowsRing (after_adopting keys party (length ring - 1) (public_of next)) party leaves (ring ++ next ∷ [])
rolled-known keys party leaves ring next known is g key at =
    let last : ℕ = length ring - 1 in
    let old : List LmsPublic = keys_of keys party in
    let newest = known last is.newest is.last in
    let within : last < length old = slice_get_within old last (public_of is.newest) newest.0 in
    let some : last < length ring = slice_get_within ring last is.newest is.last in
    let test : nat_lt last (length old) ≡ true = lt-ltb last (length old) within in
    let adopted : after_adopting keys party last (public_of next) ≡ with_next keys party last (public_of next) = rw test refl in
    let now : keys_of (after_adopting keys party last (public_of next)) party ≡ take (last + 1) old ++ public_of next ∷ [] =
    ap (λ (d : Directory). keys_of d party) adopted ∙ next-keys party.role keys party.number last (public_of is.newest) (public_of next) newest.0 in
    let lms : next.lms ≡ is.newest.lms = ap (λ (k : KeyParts). k.lms) is.is in
    elim (get-push ring next g key at) [
      | inl there ↦
          let was = known g key there in
          let below = slice_get_within ring g key there in
          (subst (λ ks. slice_get ks g ≡ Some (public_of key)) (sym now) (get-front old (public_of next ∷ []) (last + 1) g (public_of key) (omega (arith, below)) was.0), was.1)
      | inr end ↦
          let place : g ≡ last + 1 = omega (arith, end.0, some) in
          let there : slice_get (take (last + 1) old ++ public_of next ∷ []) g ≡ Some (public_of key) =
          ap (slice_get (take (last + 1) old ++ public_of next ∷ [])) place ∙ get-end old (last + 1) (public_of next) (omega (arith, within)) ∙ ap (λ k. Some (public_of k)) end.1 in (
            subst (λ ks. slice_get ks g ≡ Some (public_of key)) (sym now) there,
            newest.1 ∙ ap (λ (t : LmsType). 2 ^ height_of t) (sym lms) ∙ ap (λ (k : KeyParts). 2 ^ height_of k.lms) end.1,
          )
    ]
