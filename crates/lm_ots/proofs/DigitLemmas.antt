-- Laws of lists over the numbers below another, and of the checksum.
use Rattle.std.proofs.Common.{◌≡◌, ◌∙◌, ap, sym, arith, ℕ, zero, suc, ◌+◌, ◌-◌, ◌*◌, ◌^◌, ◌<◌, ◌≤◌, List, [], ◌∷◌, ◌++◌}
use Rattle.std.specs.List.{sum_by, range_with_len}
use Rattle.std.proofs.lemmas.List.{map-id}
use Rattle.std.proofs.lemmas.List.FromFn.{map-range_with_len_more}
use Rattle.std.proofs.lemmas.List.Sums.{sum_by-cons, sum_by_push}
use Rattle.lm_ots.specs.declared.ots_type.OtsType.{OtsType}
use Rattle.lm_ots.specs.declared.ots_type.OtsType.TheVariants.{W1, W2, W4, W8}
use Rattle.lm_ots.specs.OtsKind.{width_of}
use Rattle.lm_ots.specs.Digits.{gap, checksum}

-- one number more
pub range-more : (n : ℕ) → range_with_len 0 (n + 1) ≡ range_with_len 0 n ++ n ∷ []
range-more n =
    sym (map-id (range_with_len 0 (n + 1))) ∙ map-range_with_len_more (λ i. i) 0 n n (omega arith)
    ∙ ap (λ l. l ++ n ∷ []) (map-id (range_with_len 0 n))

-- one gap more
pub sum_by-gap-more : (kind : OtsType) (s : List ℕ) (n : ℕ) → sum_by (gap kind s) (range_with_len 0 (n + 1)) ≡ sum_by (gap kind s) (range_with_len 0 n) + gap kind s n
sum_by-gap-more kind s n =
    ap (sum_by (gap kind s)) (range-more n) ∙ sum_by_push (gap kind s) (range_with_len 0 n) n

-- no gap is greater than the greatest digit
sum_by-gap-le : (kind : OtsType) (s : List ℕ) (a n : ℕ) → sum_by (gap kind s) (range_with_len a n) ≤ n * (2 ^ width_of kind - 1)
sum_by-gap-le kind s a zero = omega arith
sum_by-gap-le kind s a (suc n) =
    omega (arith, sum_by-cons (gap kind s) a (range_with_len (a + 1) n), sum_by-gap-le kind s (a + 1) n)

-- the checksum is a u16
pub checksum_fits : (kind : OtsType) (s : List ℕ) → checksum kind s < 2 ^ 16
checksum_fits W1 s = omega (arith, sum_by-gap-le W1 s 0 256)
checksum_fits W2 s = omega (arith, sum_by-gap-le W2 s 0 128)
checksum_fits W4 s = omega (arith, sum_by-gap-le W4 s 0 64)
checksum_fits W8 s = omega (arith, sum_by-gap-le W8 s 0 32)
