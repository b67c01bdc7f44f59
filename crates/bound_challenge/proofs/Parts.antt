-- Two strings with one digest, where no two collide, have the same parts.
use Rattle.std.proofs.Common.{◌≡◌, ◌≢◌, ℕ, ◌<◌, ◌^◌, List, [], ◌∷◌, ◌++◌, length, drop, refl, sym, ap, ◌∙◌, inl, inr}
use Rattle.std.specs.Prelude.{IsTrue, slice_index, ◌==◌}
use Rattle.std.specs.Int.{w64, to_be_bytes, from_be_bytes}
use Rattle.std.proofs.lemmas.Nat.{from_be_bytes-to_be_bytes_8}
use Rattle.sha2.specs.Sha256.{sha256}
use Rattle.ar_base.specs.Apart.{none_collide}
use Rattle.ar_base.proofs.Apart.{apart}
use Rattle.tree_proof.proofs.Lands.{same_parts}
use Rattle.bound_challenge.specs.Challenges.{live_challenge, live_string, staple_challenge, staple_string}

-- two strings that do not collide are one where their digests are
one_string : (x y : List ℕ) → IsTrue (none_collide (x ∷ y ∷ [])) → sha256 x ≡ sha256 y → x ≡ y
one_string x y none = apart (x ∷ y ∷ []) none x y (inl refl) (inr (inl refl))

pub one_staple : (epoch other_epoch : ℕ) (channel other : List ℕ) → epoch < 2 ^ 64 → other_epoch < 2 ^ 64
    → IsTrue (none_collide (staple_string epoch channel ∷ staple_string other_epoch other ∷ []))
    → staple_challenge epoch channel ≡ staple_challenge other_epoch other → (epoch ≡ other_epoch) × (channel ≡ other)
one_staple epoch other_epoch channel other low other_low none same =
    let strings = one_string (staple_string epoch channel) (staple_string other_epoch other) none same in
    let parts = same_parts (to_be_bytes w64 epoch) channel (to_be_bytes w64 other_epoch) other (ap (drop 1) strings) refl in
    (sym (from_be_bytes-to_be_bytes_8 epoch low) ∙ ap (from_be_bytes w64) parts.0 ∙ from_be_bytes-to_be_bytes_8 other_epoch other_low, parts.1)

pub one_live : (nonce other_nonce exporter other : List ℕ) → length nonce ≡ length other_nonce
    → IsTrue (none_collide (live_string nonce exporter ∷ live_string other_nonce other ∷ []))
    → live_challenge nonce exporter ≡ live_challenge other_nonce other → (nonce ≡ other_nonce) × (exporter ≡ other)
one_live nonce other_nonce exporter other len none same =
    same_parts nonce exporter other_nonce other (ap (drop 1) (one_string (live_string nonce exporter) (live_string other_nonce other) none same)) len

pub apart_kinds : (epoch : ℕ) (channel nonce exporter : List ℕ) → IsTrue (none_collide (staple_string epoch channel ∷ live_string nonce exporter ∷ []))
    → staple_challenge epoch channel ≢ live_challenge nonce exporter
apart_kinds epoch channel nonce exporter none same =
    let first = ap (λ string. slice_index string 0 == 0x20) (one_string (staple_string epoch channel) (live_string nonce exporter) none same) in
    cc
