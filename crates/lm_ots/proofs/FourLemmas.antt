-- The same chain of four leaves, one in each lane.
use Rattle.std.proofs.Common.{◌≡◌, ap, refl, ℕ, ◌+◌, ◌-◌, ◌^◌, List, ◌++◌}
use Rattle.std.specs.List.{flat_map, range_with_len}
use Rattle.sha2.specs.Sha256.{sha256}
use Rattle.lm_ots.specs.declared.secret.OtsSecret.{OtsSecret}
use Rattle.lm_ots.specs.OtsKind.{count_of, width_of}
use Rattle.lm_ots.specs.Chain.{d_pblc, domain_text, step_text}
use Rattle.lm_ots.specs.Signing.{public_key_of, secret_behind, value_after}
use Rattle.lm_ots.proofs.EndLemmas.{domain_text-more}

-- what a step gives, by what it hashes
pub step-same : (id : List ℕ) (leaf of i chain j step : ℕ) (x value : List ℕ) → leaf ≡ of → i ≡ chain → j ≡ step → x ≡ value
    → sha256 (step_text id leaf i j x) ≡ sha256 (step_text id of chain step value)
step-same id leaf of i chain j step x value e h f g = rw (e, h, f, g) refl

-- the ends of the chains of the leaf that lies so many further on
abbrev pub ends_behind : OtsSecret → ℕ → ℕ → List ℕ
ends_behind secret k = value_after (secret_behind secret k) (2 ^ width_of secret.kind - 1)

-- what is hashed to that leaf's key, up to the end of chain n - 1
abbrev pub text_behind : OtsSecret → ℕ → ℕ → List ℕ
text_behind secret k n = domain_text secret.id (secret.leaf + k) d_pblc (flat_map (ends_behind secret k) (range_with_len 0 n))

-- one end more
pub text_behind-more : (secret : OtsSecret) (k n : ℕ) (end : List ℕ) → end ≡ ends_behind secret k n
    → text_behind secret k n ++ end ≡ text_behind secret k (n + 1)
text_behind-more secret k n = domain_text-more secret.id (secret.leaf + k) d_pblc (ends_behind secret k) n

-- the hash of them all is the key
pub key-behind : (secret : OtsSecret) (k n : ℕ) → n ≡ count_of secret.kind → sha256 (text_behind secret k n) ≡ public_key_of (secret_behind secret k)
unfolding public_key_of
key-behind secret k n all = ap (λ m. sha256 (text_behind secret k m)) all
