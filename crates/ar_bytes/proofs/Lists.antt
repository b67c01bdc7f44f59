-- Lists of entries: one entry after another, what was put is read again, and what is read is spelled so.
use Rattle.std.proofs.Common.{◌≡◌, ℕ, zero, suc, ◌+◌, ◌-◌, ◌^◌, ◌<◌, ◌≤◌, List, [], ◌∷◌, ◌++◌, length, Ok, Err, refl, sym, ap, subst, ◌∙◌, add-one, arith}
use Rattle.std.specs.List.{flat_map, AllByRecursion}
use Rattle.std.specs.Int.{w8}
use Rattle.std.proofs.lemmas.List.{append-nil}
use Rattle.ar_base.specs.Chaining.{◌>>=◌}
use Rattle.ar_base.proofs.Shown.{bind_ok, ok_is}
use Rattle.ar_bytes.specs.Reading.{Cursor, Reading}
use Rattle.ar_bytes.specs.RoundTrip.{Passes, ReadsBack, IsSpelledBy, number_text}
use Rattle.ar_bytes.specs.Tested.{count_at}
use Rattle.ar_bytes.specs.Ascending.{with_front}
use Rattle.ar_bytes.specs.Lists.{list_at, counted_list_at, counted_list_text}
use Rattle.ar_bytes.proofs.Steps.{between, Passes-then, Passes-first, Passes-second, AreBytes-behind, split, next}
use Rattle.ar_bytes.proofs.TestedFields.{count_again, count_pass}
use Rattle.ar_bytes.proofs.Ascending.{same-cursor, with_front-front}

-- ---- one entry after another

pub list-none : {A : Type 0} (entry : Cursor → Reading A) (count : ℕ) (at : Cursor) → count ≡ 0 → list_at entry count at ≡ Ok ([], at)
unfolding list_at
list-none entry count at e = rw e refl

pub list-more : {A : Type 0} (entry : Cursor → Reading A) (count more : ℕ) (at : Cursor) → count ≡ more + 1 → list_at entry count at ≡ (entry at >>= λ first. with_front (first.0 ∷ []) (list_at entry more first.1))
unfolding list_at
list-more entry count more at e = rw (e, add-one) refl

-- the loop's next entry
pub list_goes_on : {A : Type 0} (entry : Cursor → Reading A) (front : List A) (count i : ℕ) (at new : Cursor) (x : A) (all : Reading (List A)) → i < count → entry at ≡ Ok (x, new) → with_front front (list_at entry (count - i) at) ≡ all → with_front (front ++ x ∷ []) (list_at entry (count - (i + 1)) new) ≡ all
list_goes_on {A} entry front count i at new x all lt read so_far =
    let rest = list_at entry (count - (i + 1)) new in
    let step = list-more entry (count - i) (count - (i + 1)) at (omega arith) in
    let here : list_at entry (count - i) at ≡ with_front (x ∷ []) rest = rw (step, read) refl in
    sym (with_front-front front (x ∷ []) rest) ∙ ap (λ (r : Reading (List A)). with_front front r) (sym here) ∙ so_far

-- the loop's entry that fails
pub list_fails : {A : Type 0} (entry : Cursor → Reading A) (front : List A) (count i : ℕ) (at : Cursor) (place : ℕ) (all : Reading (List A)) → i < count → entry at ≡ Err place → with_front front (list_at entry (count - i) at) ≡ all → all ≡ Err place
list_fails {A} entry front count i at place all lt read so_far =
    let step = list-more entry (count - i) (count - (i + 1)) at (omega arith) in
    let here : list_at entry (count - i) at ≡ Err place = rw (step, read) refl in
    sym so_far ∙ ap (λ (r : Reading (List A)). with_front front r) here

-- the loop's end
pub list_ends : {A : Type 0} (entry : Cursor → Reading A) (front : List A) (count i : ℕ) (at : Cursor) (all : Reading (List A)) → count ≤ i → with_front front (list_at entry (count - i) at) ≡ all → all ≡ Ok (front, at)
list_ends {A} entry front count i at all le so_far =
    let here = list-none entry (count - i) at (omega arith) in
    sym so_far ∙ ap (λ (r : Reading (List A)). with_front front r) here ∙ ap (λ (l : List A). Ok (l, at)) (append-nil front)

pub ruleset list_steps = (list_goes_on, list_fails, list_ends)

-- ---- their texts

pub list_again : {A : Type 0} (entry : Cursor → Reading A) (text : A → List ℕ) (fits : A → Type 0) → ((x : A) → fits x → ReadsBack entry x (text x)) → (count : ℕ) (xs : List A) → length xs ≡ count → AllByRecursion fits xs → ReadsBack (list_at entry count) xs (flat_map text xs)
list_again entry text fits reads count [] len all at new p = rw (list-none entry count at (sym len)) (ap (λ (c : Cursor). Ok ([], c)) (same-cursor at new p.bytes (omega (arith, p.place))))
list_again entry text fits reads count (x ∷ xs) len all at new p =
    let count_is : count ≡ length xs + 1 = omega (arith, len) in
    let mid = between at (text x) (flat_map text xs ++ new.ahead) in
    let first = reads x all.0 at mid (Passes-first at new (text x) (flat_map text xs) p) in
    let rest = list_again entry text fits reads (length xs) xs refl all.1 mid new (Passes-second at new (text x) (flat_map text xs) p) in
    rw (list-more entry count (length xs) at count_is, first, rest) refl

pub list_pass : {A : Type 0} (entry : Cursor → Reading A) (text : A → List ℕ) (fits : A → Type 0) → IsSpelledBy entry text fits → (count : ℕ) → IsSpelledBy (list_at entry count) (flat_map text) (λ xs. AllByRecursion fits xs × (length xs ≡ count))
unfolding list_at
list_pass {A} entry text fits spelled zero at new xs bytes e =
    let is = ok_is ([], at) (xs, new) e in
    subst (λ (x : List A × Cursor). Passes at (flat_map text x.0) x.1 × (AllByRecursion fits x.0 × (length x.0 ≡ 0))) is (record { bytes = refl; place = omega arith }, (tt, refl))
list_pass {A} entry text fits spelled (suc count) at new xs bytes e =
    let b = bind_ok {B = List A × Cursor} (entry at) (λ first. list_at entry count first.1 >>= λ rest. Ok (first.0 ∷ rest.0, rest.1)) (xs, new) e in
    let d = bind_ok {B = List A × Cursor} (list_at entry count b.0.1) (λ rest. Ok (b.0.0 ∷ rest.0, rest.1)) (xs, new) b.2 in
    let first = spelled at b.0.1 b.0.0 bytes b.1 in
    let behind = AreBytes-behind at b.0.1 (text b.0.0) first.0 bytes in
    let rest = list_pass entry text fits spelled count b.0.1 d.0.1 d.0.0 behind d.1 in
    let both = Passes-then at b.0.1 d.0.1 (text b.0.0) (flat_map text d.0.0) first.0 rest.0 in
    let is = ok_is (b.0.0 ∷ d.0.0, d.0.1) (xs, new) d.2 in
    subst (λ (x : List A × Cursor). Passes at (flat_map text x.0) x.1 × (AllByRecursion fits x.0 × (length x.0 ≡ suc count))) is (both, ((first.1, rest.1.0), ap suc rest.1.1))

-- ---- behind their count

pub counted_list_again : {A : Type 0} (most : ℕ) (entries : ℕ → Cursor → Reading (List A)) (text : A → List ℕ) (xs : List A) → length xs ≤ most → length xs < 2 ^ 8 → ReadsBack (entries (length xs)) xs (flat_map text xs) → ReadsBack (counted_list_at most entries) xs (counted_list_text text xs)
unfolding counted_list_at
counted_list_again most entries text xs few lt reads at new p =
    let count = split at new (number_text w8 (length xs)) (flat_map text xs) p in
    rw (count_again most (length xs) few lt at count.0 count.1) (reads count.0 new count.2)

pub counted_list_pass : {A : Type 0} (most : ℕ) (entries : ℕ → Cursor → Reading (List A)) (text : A → List ℕ) (fits : List A → Type 0) → ((count : ℕ) → IsSpelledBy (entries count) (flat_map text) (λ xs. fits xs × (length xs ≡ count))) → IsSpelledBy (counted_list_at most entries) (counted_list_text text) (λ xs. (length xs ≤ most) × fits xs)
unfolding counted_list_at
counted_list_pass most entries text fits spelled at new xs bytes e =
    let count = next (count_at most) (number_text w8) (λ n. n ≤ most) (count_pass most) (λ count. entries count.0 count.1) at (xs, new) bytes e in
    let rest = spelled count.0 count.1 new xs count.4 count.5 in
    let both = Passes-then at count.1 new (number_text w8 count.0) (flat_map text xs) count.2 rest.0 in
    (subst (λ (k : ℕ). Passes at (number_text w8 k ++ flat_map text xs) new) (sym rest.1.1) both, (subst (λ (k : ℕ). k ≤ most) (sym rest.1.1) count.3, rest.1.0))
