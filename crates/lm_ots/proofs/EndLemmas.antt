-- The string whose hash is a key, as it grows by one end after another.
use Rattle.std.proofs.Common.{◌≡◌, ◌∙◌, ap, sym, arith, ℕ, ◌+◌, ◌<◌, List, [], ◌∷◌, ◌++◌}
use Rattle.std.specs.List.{flat_map, range_with_len}
use Rattle.std.specs.Int.{w16, w32, to_be_bytes}
use Rattle.std.proofs.lemmas.List.{append_assoc, append-nil}
use Rattle.std.proofs.lemmas.List.Concat.{flat_map-append}
use Rattle.sha2.specs.Sha256.{sha256}
use Rattle.lm_ots.specs.declared.ots_type.OtsType.{OtsType}
use Rattle.lm_ots.specs.Candidate.{key_of_ends}
use Rattle.lm_ots.specs.Chain.{d_pblc, domain_text}
use Rattle.lm_ots.specs.OtsKind.{count_of}
use Rattle.lm_ots.proofs.DigitLemmas.{range-more}
use Rattle.lm_ots.proofs.PieceLemmas.{flat_map-same}

-- what is added behind the string is added behind its rest
pub domain_text-append : (id : List ℕ) (number domain : ℕ) (rest more : List ℕ) → domain_text id number domain rest ++ more ≡ domain_text id number domain (rest ++ more)
domain_text-append id number domain rest more =
    append_assoc id (to_be_bytes w32 number ++ (to_be_bytes w16 domain ++ rest)) more

-- one list more
pub flat_map-range-more : (f : ℕ → List ℕ) (n : ℕ) → flat_map f (range_with_len 0 (n + 1)) ≡ flat_map f (range_with_len 0 n) ++ f n
flat_map-range-more f n =
    ap (flat_map f) (range-more n) ∙ flat_map-append f (range_with_len 0 n) (n ∷ [])
    ∙ ap (λ l. flat_map f (range_with_len 0 n) ++ l) (append-nil (f n))

-- one end more
pub domain_text-more : (id : List ℕ) (number domain : ℕ) (f : ℕ → List ℕ) (n : ℕ) (end : List ℕ) → end ≡ f n → domain_text id number domain (flat_map f (range_with_len 0 n)) ++ end ≡ domain_text id number domain (flat_map f (range_with_len 0 (n + 1)))
domain_text-more id number domain f n end e =
    domain_text-append id number domain (flat_map f (range_with_len 0 n)) end
    ∙ ap (domain_text id number domain) (ap (λ l. flat_map f (range_with_len 0 n) ++ l) e ∙ sym (flat_map-range-more f n))

-- keys of the same ends are the same
pub key_of_ends-same : (id : List ℕ) (leaf : ℕ) (kind : OtsType) (f g : ℕ → List ℕ) → ((i : ℕ) → i < count_of kind → f i ≡ g i) → key_of_ends id leaf kind f ≡ key_of_ends id leaf kind g
key_of_ends-same id leaf kind f g each =
    ap (λ l. sha256 (domain_text id leaf d_pblc l))
    (flat_map-same f g 0 (count_of kind)
    (λ i below. let number : 0 + i ≡ i = omega arith in ap f number ∙ each i below ∙ ap g (sym number)))
