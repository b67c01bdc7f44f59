-- The map of two entries, and its halves.
use Rattle.std.proofs.Common.{◌≡◌, ◌≢◌, ℕ, ◌+◌, ◌<◌, ◌≤◌, List, [], ◌∷◌, length, eq-eqb, refl, ap, ◌∙◌, ⊎_elim, arith, Bool, true, false, cond, eqb, Option, Some, None}
use Rattle.std.specs.Prelude.{is_some}
use Rattle.std.specs.FinMap.{entries, find, get-from_entries}
use Rattle.std.proofs.lemmas.Bool.{cases_lt, ne_eqb}
use Rattle.hash_tree.specs.Entries.{Entry, key_cmp, entries_of, bit, half}
use Rattle.hash_tree.specs.Kept.{AreTwo, two_of, entry_of}
use Rattle.hash_tree.specs.declared.node.Stored.{Stored}
use Rattle.hash_tree.proofs.Maps.{total, entries-entries_of, half-entries_of, same_digests}
use Rattle.hash_tree.proofs.Changed.{several, own_key}

-- two keys that agree so far differ in a bit that is left
pub two-below : (depth : ℕ) (one other : Stored) → AreTwo depth one other → depth < 256
two-below depth one other two =
    ⊎_elim (λ (l : depth < 256). l)
    (λ (h : 256 ≤ depth). absurd (two.differ (same_digests one.key other.key two.one_stored.key two.other_stored.key (λ i l. two.agree i (omega arith)))))
    (cases_lt depth 256)

either_some : (b : Bool) (x : List ℕ) (o : Option (List ℕ)) → is_some o ≡ true → is_some (cond b (Some x) o) ≡ true
either_some true x o h = refl
either_some false x o h = h

pub two-several : (one other : Stored) → one.key ≢ other.key → 2 ≤ length (entries (two_of one other))
two-several one other differ =
    several (two_of one other) one.key other.key
    (ap is_some (get-from_entries total es one.key ∙ ap (λ b. cond b (Some one.value) (find key_cmp one.key (entry_of other ∷ []))) (own_key one.key)))
    (ap is_some (get-from_entries total es other.key)
    ∙ either_some _ one.value (find key_cmp other.key (entry_of other ∷ [])) (ap (λ b. is_some (cond b (Some other.value) None)) (own_key other.key)))
    differ
  where
    es : List Entry
    es = entry_of one ∷ entry_of other ∷ []

-- which of two entries a half has
chosen : Bool → Bool → Entry → Entry → List Entry
chosen a b one other = cond a (one ∷ cond b (other ∷ []) []) (cond b (other ∷ []) [])

half-two : (depth side : ℕ) (one other : Stored) (a b : Bool) → eqb (bit one.key depth) side ≡ a → eqb (bit other.key depth) side ≡ b
    → half depth side (two_of one other) ≡ entries_of (chosen a b (entry_of one) (entry_of other))
unfolding chosen
half-two depth side one other a b ha hb =
    half-entries_of depth side (entry_of one ∷ entry_of other ∷ []) ∙ ap entries_of (rw (ha, hb))

pub half-both : (depth side : ℕ) (one other : Stored) → bit one.key depth ≡ side → bit other.key depth ≡ side → half depth side (two_of one other) ≡ two_of one other
unfolding chosen
half-both depth side one other ha hb = half-two depth side one other true true (eq-eqb _ _ ha) (eq-eqb _ _ hb)

pub half-none : (depth side : ℕ) (one other : Stored) → bit one.key depth ≢ side → bit other.key depth ≢ side
    → entries (half depth side (two_of one other)) ≡ []
unfolding chosen
half-none depth side one other ha hb = ap entries (half-two depth side one other false false (ne_eqb _ _ ha) (ne_eqb _ _ hb)) ∙ entries-entries_of [] refl

pub half-one : (depth side : ℕ) (one other : Stored) → bit one.key depth ≡ side → bit other.key depth ≢ side
    → entries (half depth side (two_of one other)) ≡ entry_of one ∷ []
unfolding chosen
half-one depth side one other ha hb = ap entries (half-two depth side one other true false (eq-eqb _ _ ha) (ne_eqb _ _ hb)) ∙ entries-entries_of (entry_of one ∷ []) refl

pub half-other : (depth side : ℕ) (one other : Stored) → bit one.key depth ≢ side → bit other.key depth ≡ side
    → entries (half depth side (two_of one other)) ≡ entry_of other ∷ []
unfolding chosen
half-other depth side one other ha hb = ap entries (half-two depth side one other false true (ne_eqb _ _ ha) (eq-eqb _ _ hb)) ∙ entries-entries_of (entry_of other ∷ []) refl

-- two keys with the same bit agree in one more
pub two-deeper : (depth : ℕ) (one other : Stored) → AreTwo depth one other → bit one.key depth ≡ bit other.key depth → AreTwo (depth + 1) one other
two-deeper depth one other two same =
    let below = two-below depth one other two in
    record {
      one_stored = two.one_stored;
      other_stored = two.other_stored;
      differ = two.differ;
      agree = λ i l. ⊎_elim (λ (b : i < depth). two.agree i b) (λ (a : depth ≤ i). let at : i ≡ depth = omega arith in rw at same) (cases_lt i depth);
      in_key = omega arith;
    }

-- a half that one of them lacks has at most one
pub half_few : (depth side : ℕ) (one other : Stored) → bit one.key depth ≡ side → bit other.key depth ≢ side → length (entries (half depth side (two_of one other))) < 2
half_few depth side one other ha hb = omega (arith, ap length (half-one depth side one other ha hb))
