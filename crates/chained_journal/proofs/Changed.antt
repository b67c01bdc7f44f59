-- A changed byte is seen.
use Rattle.std.proofs.Common.{◌≡◌, ◌≢◌, ◌⊎◌, inl, inr, ℕ, ◌<◌, ◌^◌, List, [], ◌∷◌, ◌++◌, length, refl, sym, ◌∙◌, ap, subst, arith, length-append}
use Rattle.std.proofs.lemmas.List.{append_cancel_left}
use Rattle.std.specs.Int.{w32}
use Rattle.ar_bytes.specs.RoundTrip.{number_text}
use Rattle.sha2.proofs.Facts256.{length-sha256}
use Rattle.chained_journal.specs.Damage.{Collide, IsChanged, text_strings}
use Rattle.chained_journal.specs.Journal.{AreShort, IsShort, complement, filling, head, link, open_gate, record_text, records, shut_gate, text_string}
use Rattle.chained_journal.proofs.Readings.{more-parts}
use Rattle.chained_journal.proofs.Splits.{fronts, length-head, one_head, one_number, record-parts, rests, same_size, tail}

-- ---- one byte, in two parts

-- the change lies in the front part, or in the back part
pub data Where (a b x y : List ℕ) : Type 0 where
  in_front : IsChanged a b → x ≡ y → Where a b x y
  in_back : a ≡ b → IsChanged x y → Where a b x y

one-side : (front : List ℕ) (byte other : ℕ) (back : List ℕ) → byte ≢ other → IsChanged (front ++ byte ∷ back) (front ++ other ∷ back)
one-side front byte other back apart = record { front = front; byte = byte; other = other; back = back; apart = apart; old_is = refl; new_is = refl }

split-at : (a b x y front : List ℕ) (byte other : ℕ) (back : List ℕ) → length a ≡ length b → byte ≢ other → a ++ x ≡ front ++ byte ∷ back → b ++ y ≡ front ++ other ∷ back → Where a b x y
split-at [] [] x y front byte other back size apart old new =
    in_back refl (record { front = front; byte = byte; other = other; back = back; apart = apart; old_is = old; new_is = new })
split-at [] (q ∷ b) x y front byte other back size apart old new = absurd (omega (arith, size))
split-at (p ∷ a) [] x y front byte other back size apart old new = absurd (omega (arith, size))
split-at (p ∷ a) (q ∷ b) x y [] byte other back size apart old new =
    let p-is : p ≡ byte = cc in
    let q-is : q ≡ other = cc in
    let a-is : a ++ x ≡ back = cc in
    let b-is : b ++ y ≡ back = cc in
    let same : a ++ x ≡ b ++ y = a-is ∙ sym b-is in
    let sizes : length a ≡ length b = omega (arith, size) in
    let fronts-are : a ≡ b = fronts a b x y sizes same in
    in_front
    (record {
      front = [];
      byte = p;
      other = q;
      back = a;
      apart = λ (e : p ≡ q). apart (sym p-is ∙ e ∙ q-is);
      old_is = refl;
      new_is = ap (λ (l : List ℕ). q ∷ l) (sym fronts-are);
    })
    (rests a b x y sizes same)
split-at (p ∷ a) (q ∷ b) x y (f ∷ front) byte other back size apart old new =
    let heads : p ≡ q = cc in
    let olds : a ++ x ≡ front ++ byte ∷ back = cc in
    let news : b ++ y ≡ front ++ other ∷ back = cc in
    elim (split-at a b x y front byte other back (omega (arith, size)) apart olds news) [
      | in_front changed same ↦ in_front (record {
        front = p ∷ changed.front;
        byte = changed.byte;
        other = changed.other;
        back = changed.back;
        apart = changed.apart;
        old_is = ap (λ (l : List ℕ). p ∷ l) changed.old_is;
        new_is = ap (λ (l : List ℕ). q ∷ l) changed.new_is ∙ ap (λ (n : ℕ). n ∷ (changed.front ++ changed.other ∷ changed.back)) (sym heads);
      }) same
      | in_back same changed ↦ in_back (ap (λ (n : ℕ). n ∷ a) heads ∙ ap (λ (l : List ℕ). q ∷ l) same) changed
    ]

pub split : (a b x y : List ℕ) → length a ≡ length b → IsChanged (a ++ x) (b ++ y) → Where a b x y
split a b x y size changed = split-at a b x y changed.front changed.byte changed.other changed.back size changed.apart changed.old_is changed.new_is

-- nothing is changed to itself
pub not_itself : (a b : List ℕ) → a ≡ b → ¬ IsChanged a b
not_itself a b same changed =
    let tails : changed.byte ∷ changed.back ≡ changed.other ∷ changed.back =
    append_cancel_left changed.front (changed.byte ∷ changed.back) (changed.other ∷ changed.back) (sym changed.old_is ∙ same ∙ changed.new_is) in
    changed.apart cc

pub one_length : (a b : List ℕ) → IsChanged a b → length a ≡ length b
one_length a b changed =
    omega (arith, ap length changed.old_is, ap length changed.new_is, length-append changed.front (changed.byte ∷ changed.back), length-append changed.front (changed.other ∷ changed.back))

-- ---- gates and heads

-- by one byte no open gate becomes a shut one
two-gates : (x y : List ℕ) → ¬ IsChanged (open_gate ++ x) (shut_gate ++ y)
two-gates x y changed = elim (split (255 ∷ []) (0 ∷ []) (255 ∷ 255 ∷ 255 ∷ 255 ∷ 255 ∷ 255 ∷ 255 ∷ x) (0 ∷ 0 ∷ 0 ∷ 0 ∷ 0 ∷ 0 ∷ 0 ∷ y) refl changed) [
  | in_front first same ↦ absurd cc
  | in_back same later ↦ absurd cc
]

lengths-differ : (n m : ℕ) → n < 2 ^ 32 → m < 2 ^ 32 → complement n ≡ complement m → n ≡ m
lengths-differ n m small short same = omega (arith, small, short, same)

complement-small : (n : ℕ) → complement n < 2 ^ 32
complement-small n = omega arith

-- nor does a head become another
two-heads : (n m : ℕ) → n < 2 ^ 32 → m < 2 ^ 32 → ¬ IsChanged (head n) (head m)
two-heads n m small short changed = elim (split (number_text w32 n) (number_text w32 m) (number_text w32 (complement n)) (number_text w32 (complement m)) (same_size n m) changed) [
  | in_front first same ↦
      let one : n ≡ m = lengths-differ n m small short (one_number (complement n) (complement m) (complement-small n) (complement-small m) same) in
      not_itself (number_text w32 n) (number_text w32 m) (ap (λ (k : ℕ). number_text w32 k) one) first
  | in_back same later ↦
      let one : n ≡ m = one_number n m small short same in
      not_itself (number_text w32 (complement n)) (number_text w32 (complement m)) (ap (λ (k : ℕ). number_text w32 (complement k)) one) later
]

-- ---- texts

pub two_strings : (chain one other : List ℕ) → one ≢ other → text_string chain one ≢ text_string chain other
two_strings chain one other apart same =
    let numbers : number_text w32 (length one) ++ one ≡ number_text w32 (length other) ++ other = append_cancel_left (97 ∷ chain) _ _ same in
    apart (rests (number_text w32 (length one)) (number_text w32 (length other)) one other (same_size (length one) (length other)) numbers)

pub collide-more : (one other : List ℕ) (ones others : List (List ℕ)) → Collide ones others → Collide (one ∷ ones) (other ∷ others)
collide-more one other ones others c =
    record { one = c.one; other = c.other; in_ones = inr c.in_ones; in_others = inr c.in_others; apart = c.apart; same = c.same }

collide-here : (chain one other : List ℕ) (ones others : List (List ℕ)) → one ≢ other → link chain one ≡ link chain other
    → Collide (text_string chain one ∷ ones) (text_string chain other ∷ others)
collide-here chain one other ones others apart same = record {
  one = text_string chain one;
  other = text_string chain other;
  in_ones = inl refl;
  in_others = inl refl;
  apart = two_strings chain one other apart;
  same = same;
}

-- behind two heads that are the same
behind-heads : (chain t u x y : List ℕ) (ones others : List (List ℕ)) → length t ≡ length u → IsChanged (tail chain t x) (tail chain u y)
    → Collide (text_string chain t ∷ ones) (text_string chain u ∷ others) ⊎ ((t ≡ u) × IsChanged x y)
behind-heads chain t u x y ones others size changed = elim (split t u (filling (length t) ++ (link chain t ++ x)) (filling (length u) ++ (link chain u ++ y)) size changed) [
  | in_front first same ↦
      let zeros : length (filling (length t)) ≡ length (filling (length u)) = ap (λ (n : ℕ). length (filling n)) size in
      let links : link chain t ++ x ≡ link chain u ++ y = rests (filling (length t)) (filling (length u)) (link chain t ++ x) (link chain u ++ y) zeros same in
      let digests : link chain t ≡ link chain u = fronts (link chain t) (link chain u) x y (length-sha256 (text_string chain t) ∙ sym (length-sha256 (text_string chain u))) links in
      inl (collide-here chain t u ones others (λ (e : t ≡ u). not_itself t u e first) digests)
  | in_back same later ↦ inr (same, behind-text same later)
]
  where
    behind-text : t ≡ u → IsChanged (filling (length t) ++ (link chain t ++ x)) (filling (length u) ++ (link chain u ++ y)) → IsChanged x y
    behind-text same later =
        let zeros : filling (length t) ≡ filling (length u) = ap (λ (l : List ℕ). filling (length l)) same in
        elim (split (filling (length t)) (filling (length u)) (link chain t ++ x) (link chain u ++ y) (ap length zeros) later) [
          | in_front first rest ↦ absurd (not_itself (filling (length t)) (filling (length u)) zeros first)
          | in_back front rest ↦
              let digests : link chain t ≡ link chain u = ap (link chain) same in
              elim (split (link chain t) (link chain u) x y (ap length digests) rest) [
                | in_front first more ↦ absurd (not_itself (link chain t) (link chain u) digests first)
                | in_back front more ↦ more
              ]
        ]

-- ---- records

module _ (chain t u : List ℕ) (ts us : List (List ℕ)) (behind : List ℕ) (short : IsShort t) (fits : IsShort u) where
  abbrev Found : Type 0
  Found = Collide (text_string chain t ∷ text_strings (link chain t) ts) (text_string chain u ∷ text_strings (link chain u) us)

  abbrev after_t : List ℕ
  after_t = records (link chain t) ts ++ shut_gate

  abbrev after_u : List ℕ
  after_u = records (link chain u) us ++ (shut_gate ++ behind)

  -- the same of what stands behind one record
  abbrev Again : Type 0
  Again = IsChanged (records (link chain t) ts ++ shut_gate) (records (link chain t) us ++ (shut_gate ++ behind)) → Collide (text_strings (link chain t) ts) (text_strings (link chain t) us)

  go-on : Again → t ≡ u → IsChanged after_t after_u → Found
  go-on again same later =
      let here : IsChanged after_t (records (link chain t) us ++ (shut_gate ++ behind)) =
      subst (λ (l : List ℕ). IsChanged (records (link chain t) ts ++ shut_gate) (records (link chain l) us ++ (shut_gate ++ behind))) (sym same) later in
      collide-more (text_string chain t) (text_string chain u) (text_strings (link chain t) ts) (text_strings (link chain u) us)
      (subst (λ (l : List ℕ). Collide (text_strings (link chain t) ts) (text_strings (link chain l) us)) same (again here))

  by-text : Again → Found ⊎ ((t ≡ u) × IsChanged after_t after_u) → Found
  by-text again (inl found) = found
  by-text again (inr both) = go-on again both.0 both.1

  behind-gates : Again → Where open_gate open_gate (record_text chain t ++ after_t) (record_text chain u ++ after_u) → Found
  behind-gates again (in_front first same) = absurd (not_itself open_gate open_gate refl first)
  behind-gates again (in_back same later) =
      let parts : IsChanged (head (length t) ++ tail chain t after_t) (head (length u) ++ tail chain u after_u) =
      subst (λ (l : List ℕ). IsChanged l (head (length u) ++ tail chain u after_u)) (record-parts chain t after_t)
      (subst (λ (l : List ℕ). IsChanged (record_text chain t ++ after_t) l) (record-parts chain u after_u) later) in
      elim (split (head (length t)) (head (length u)) (tail chain t after_t) (tail chain u after_u) (length-head (length t) ∙ sym (length-head (length u))) parts) [
        | in_front first rest ↦ absurd (two-heads (length t) (length u) short fits first)
        | in_back front rest ↦ by-text again
            (behind-heads chain t u after_t after_u (text_strings (link chain t) ts) (text_strings (link chain u) us) (one_head (length t) (length u) short fits front) rest)
      ]

  behind-one : Again → IsChanged (records chain (t ∷ ts) ++ shut_gate) (records chain (u ∷ us) ++ (shut_gate ++ behind)) → Found
  behind-one again changed =
      let whole : IsChanged (open_gate ++ (record_text chain t ++ after_t)) (open_gate ++ (record_text chain u ++ after_u)) =
      subst (λ (l : List ℕ). IsChanged l (open_gate ++ (record_text chain u ++ after_u))) (more-parts chain t ts shut_gate)
      (subst (λ (l : List ℕ). IsChanged (records chain (t ∷ ts) ++ shut_gate) l) (more-parts chain u us (shut_gate ++ behind)) changed) in
      behind-gates again (split open_gate open_gate (record_text chain t ++ after_t) (record_text chain u ++ after_u) refl whole)

-- of records that end with a gate, one byte of which was changed, no others can be read, unless two strings have one digest
pub changed_records : (chain : List ℕ) (texts others : List (List ℕ)) (behind : List ℕ) → AreShort texts → AreShort others
    → IsChanged (records chain texts ++ shut_gate) (records chain others ++ (shut_gate ++ behind)) → Collide (text_strings chain texts) (text_strings chain others)
changed_records chain [] [] behind short fits changed =
    let size = one_length shut_gate (shut_gate ++ behind) changed in
    let none : behind ≡ [] = nothing behind (omega (arith, size, length-append shut_gate behind)) in
    absurd (not_itself shut_gate (shut_gate ++ behind) (ap (λ (l : List ℕ). shut_gate ++ l) (sym none)) changed)
  where
    nothing : (l : List ℕ) → length l ≡ 0 → l ≡ []
    nothing [] is = refl
    nothing (n ∷ l) is = absurd (omega (arith, is))
changed_records chain [] (u ∷ us) behind short fits changed =
    let size = one_length shut_gate (records chain (u ∷ us) ++ (shut_gate ++ behind)) changed in
    absurd (omega (
      arith,
      size,
      ap length (more-parts chain u us (shut_gate ++ behind)),
      length-append open_gate (record_text chain u ++ (records (link chain u) us ++ (shut_gate ++ behind))),
      length-append (record_text chain u) (records (link chain u) us ++ (shut_gate ++ behind)),
      length-append (records (link chain u) us) (shut_gate ++ behind),
    ))
changed_records chain (t ∷ ts) [] behind short fits changed =
    absurd (two-gates (record_text chain t ++ (records (link chain t) ts ++ shut_gate)) behind
    (subst (λ (l : List ℕ). IsChanged l (shut_gate ++ behind)) (more-parts chain t ts shut_gate) changed))
changed_records chain (t ∷ ts) (u ∷ us) behind short fits changed =
    behind-one chain t u ts us behind short.0 fits.0 (λ again. changed_records (link chain t) ts us behind short.1 fits.1 again) changed
