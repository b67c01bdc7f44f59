-- The keys of a ring: the next one behind them, and what can be read of each.
use Rattle.std.proofs.Common.{◌≡◌, ◌∙◌, ◌⊎◌, inl, inr, ℕ, zero, suc, ◌+◌, ◌-◌, ◌≤◌, List, [], ◌∷◌, ◌++◌, length, take, Some, refl, sym, ap, arith}
use Rattle.std.specs.Prelude.{slice_get}
use Rattle.std.proofs.lemmas.List.{length-append}
use Rattle.std.proofs.lemmas.Option.{same_Some, slice_get_within}
use Rattle.ar_base.proofs.Digests.{sha256-IsDigest}
use Rattle.ar_base.specs.Bytes.{AreBytes, IsDigest}
use Rattle.ar_statement.specs.Ranges.{IsKeyText}
use Rattle.key_roll.specs.Ring.{IsNext, IsRing, next_key}
use Rattle.lms_tree.specs.Key.{id_of, node_at, public_of}
use Rattle.lms_tree.specs.KeyParts.{KeyParts}
use Rattle.lms_tree.specs.LmsKind.{height_of}
use Rattle.lms_tree.specs.PublicKey.{HasWidths, key_text}
use Rattle.lms_tree.proofs.KeyLemmas.{bytes-key_text, length-key_text}

-- ---- the next key

-- what stands in a list with one more is of the list, or is the last
pub get-push : {A : Type 0} (xs : List A) (y : A) (k : ℕ) (x : A) → slice_get (xs ++ y ∷ []) k ≡ Some x → (slice_get xs k ≡ Some x) ⊎ ((k ≡ length xs) × (y ≡ x))
get-push [] y zero x e = inr (refl, cc)
get-push [] y (suc k) x e = absurd cc
get-push (z ∷ xs) y zero x e = inl e
get-push (z ∷ xs) y (suc k) x e = elim (get-push xs y k x e) [ inl there ↦ inl there | inr last ↦ inr (omega (arith, last.0), last.1) ]

-- a ring with its next key is one
pub ring-more : (keys : List KeyParts) (next : KeyParts) → IsRing keys → IsNext keys next → IsRing (keys ++ next ∷ [])
ring-more keys next ring is = record {
  some = let long = length-append keys (next ∷ []) in omega (arith, long);
  next = λ g key later here there. by g key later (get-push keys next g key here) (get-push keys next (g + 1) later there);
}
  where
    by : (g : ℕ) (key later : KeyParts) → (slice_get keys g ≡ Some key) ⊎ ((g ≡ length keys) × (next ≡ key))
        → (slice_get keys (g + 1) ≡ Some later) ⊎ ((g + 1 ≡ length keys) × (next ≡ later)) → later ≡ next_key key
    by g key later (inl here) (inl there) = ring.next g key later here there
    by g key later (inl here) (inr last) =
        let place : length keys - 1 ≡ g = let e = last.0 in omega (arith, e) in
        let newest : is.newest ≡ key = same_Some is.newest key (sym is.last ∙ ap (slice_get keys) place ∙ here) in
        sym last.1 ∙ is.is ∙ ap next_key newest
    by g key later (inr past) (inl there) =
        let within = slice_get_within keys (g + 1) later there in
        let e = past.0 in
        absurd (omega (arith, within, e))
    by g key later (inr past) (inr last) = let e = past.0 in let f = last.0 in absurd (omega (arith, e, f))

-- a ring of one key
pub ring-first : (key : KeyParts) → IsRing (key ∷ [])
ring-first key = record {
  some = omega arith;
  next = λ g one later here there.
      let within = slice_get_within (key ∷ []) (g + 1) later there in
      absurd (omega (arith, within));
}

-- ---- the text of a key

front-bytes : (n : ℕ) (xs : List ℕ) → AreBytes xs → AreBytes (take n xs)
front-bytes zero xs are i = omega arith
front-bytes (suc n) [] are i = omega arith
front-bytes (suc n) (x ∷ xs) are zero = are 0
front-bytes (suc n) (x ∷ xs) are (suc i) = front-bytes n xs (λ j. are (suc j)) i

node-digest : (key : KeyParts) (height r : ℕ) → IsDigest (node_at key height r)
unfolding node_at
node-digest key zero r = sha256-IsDigest _
node-digest key (suc height) r = sha256-IsDigest _

id-bytes : (seed : List ℕ) → AreBytes (id_of seed)
unfolding id_of
id-bytes seed = front-bytes 16 _ (sha256-IsDigest (0x49 ∷ seed)).bytes

id-long : (seed : List ℕ) → length (id_of seed) ≡ 16
unfolding id_of
id-long seed = by _ (sha256-IsDigest (0x49 ∷ seed)).len
  where
    first : (n : ℕ) (xs : List ℕ) → n ≤ length xs → length (take n xs) ≡ n
    first zero xs within = refl
    first (suc n) [] within = absurd (omega (arith, within))
    first (suc n) (x ∷ xs) within = ap suc (first n xs (omega (arith, within)))

    by : (xs : List ℕ) → length xs ≡ 32 → length (take 16 xs) ≡ 16
    by xs long = first 16 xs (omega (arith, long))

-- the public key of a key that signs has the widths of one
pub public-widths : (key : KeyParts) → HasWidths (public_of key)
public-widths key = (id-long key.seed, (node-digest key (height_of key.lms) 1).len)

-- and its text is one
pub public-text : (key : KeyParts) → IsKeyText (key_text (public_of key))
public-text key = record {
  len = length-key_text (public_of key) (public-widths key);
  bytes = bytes-key_text (public_of key) (id-bytes key.seed) (node-digest key (height_of key.lms) 1).bytes;
}
