-- Texts of numbers that follow one another, appended one behind the other.
use Rattle.std.proofs.Common.{◌≡◌, ℕ, ◌+◌, ◌<◌, ◌≤◌, List, [], ◌∷◌, ◌++◌, take, Result, Ok, Err, Vec, sym, ◌∙◌, ap, subst, arith}
use Rattle.std.specs.List.{flat_map, range_with_len}
use Rattle.std.proofs.lemmas.List.{flat_map_more, map-id}
use Rattle.std.proofs.lemmas.List.FromFn.{get_or-range_with_len, length-range_with_len, map-range_with_len_more, take-map-range_with_len}
use Rattle.std.specs.declared.alloc.AllocError.{AllocError}
use Rattle.ar_base.specs.Appending.{Appends}
use Rattle.ar_base.proofs.Appending.{appends-then, item_stops}

-- one number more
range_more : (first count n : ℕ) → n ≡ first + count → range_with_len first (count + 1) ≡ range_with_len first count ++ (n ∷ [])
range_more first count n e =
    sym (map-id (range_with_len first (count + 1))) ∙ map-range_with_len_more (λ i. i) first count n (sym e)
    ∙ ap (λ (ns : List ℕ). ns ++ (n ∷ [])) (map-id (range_with_len first count))

-- the numbers before a place
range_before : (first count i : ℕ) → i ≤ count → take i (range_with_len first count) ≡ range_with_len first i
range_before first count i h =
    ap (take i) (sym (map-id (range_with_len first count))) ∙ take-map-range_with_len (λ i. i) first count i h ∙ map-id (range_with_len first i)

-- the text of one number more
pub number_then : {Z : Type 0} (f : ℕ → List ℕ) (first count next n : ℕ) (old mid new : Vec ℕ Z) (result : Result (Unit {0}) AllocError)
    → Appends (flat_map f (range_with_len first count)) old mid (Ok tt) → Appends (f n) mid new result → n ≡ first + count → next ≡ count + 1
    → Appends (flat_map f (range_with_len first next)) old new result
number_then f first count next n old mid new result before at_number e e2 =
    let more : range_with_len first next ≡ range_with_len first count ++ (n ∷ []) =
    ap (range_with_len first) e2 ∙ range_more first count n e in
    let texts : flat_map f (range_with_len first count) ++ f n ≡ flat_map f (range_with_len first next) =
    flat_map_more f [] (range_with_len first count) n ∙ ap (flat_map f) (sym more) in
    subst (λ (text : List ℕ). Appends text old new result) texts (appends-then _ _ _ _ _ _ before at_number)

-- the texts of numbers, of which one finds no memory
pub number_stops : {Z : Type 0} (f : ℕ → List ℕ) (first count i n : ℕ) (old mid new : Vec ℕ Z)
    (at_number result : Result (Unit {0}) AllocError) (error : AllocError)
    → i < count → n ≡ first + i → Appends (flat_map f (range_with_len first i)) old mid (Ok tt) → Appends (f n) mid new at_number
    → at_number ≡ Err error → result ≡ Err error → Appends (flat_map f (range_with_len first count)) old new result
number_stops f first count i n old mid new at_number result error inside e before at_n stopped same =
    item_stops f (range_with_len first count) i 0 old mid new at_number result error
    (rw (length-range_with_len first count) inside)
    (rw (range_before first count i (omega (arith, inside))) before)
    (rw (get_or-range_with_len first count i 0 inside) (rw (← e) at_n))
    stopped same
