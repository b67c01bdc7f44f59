-- Whether some party has a next key, of those that were looked at.
use Rattle.std.proofs.Common.{◌≡◌, ◌<◌, ◌≤◌, ◌⊎◌, inl, inr, ℕ, ◌+◌, List, [], ◌∷◌, length, take, refl, sym, ap, ◌∙◌, true, false, ◌||◌, Some, None, arith}
use Rattle.std.proofs.Math.Bool.{or-false}
use Rattle.std.proofs.lemmas.Bool.{cases_lt, lt-ltb}
use Rattle.std.proofs.lemmas.List.{get_or_past, take_all}
use Rattle.std.proofs.lemmas.List.Folds.{list_any_at, list_any_more}
use Rattle.std.specs.List.{list_any}
use Rattle.std.specs.Prelude.{slice_get}
use Rattle.lms_tree.specs.declared.public_key.LmsPublic.{LmsPublic}
use Rattle.party_keys.specs.Directory.{keys_at}
use Rattle.arpki_party.specs.FirstKeys.{has_later}

-- there is a next key where there is one of generation 1
pub next_some : (keys : List LmsPublic) (key : LmsPublic) → slice_get keys 1 ≡ Some key → has_later keys ≡ true
next_some [] key h = absurd cc
next_some (first ∷ []) key h = absurd cc
next_some (first ∷ next ∷ later) key h = lt-ltb 1 (length (first ∷ next ∷ later)) (omega arith)

pub next_none : (keys : List LmsPublic) → slice_get keys 1 ≡ None → has_later keys ≡ false
next_none [] h = refl
next_none (first ∷ []) h = refl
next_none (first ∷ next ∷ later) h = absurd cc

pub ruleset key_laws = (next_some, next_none)

-- where there is no such party, there is none
no_party : (lists : List (List LmsPublic)) (i : ℕ) → length lists ≤ i → has_later (keys_at lists i) ≡ false
no_party lists i h = ap has_later (get_or_past lists i [] h)

-- one party more
pub any_more : (lists : List (List LmsPublic)) (i : ℕ) → list_any has_later (take (i + 1) lists) ≡ (list_any has_later (take i lists) || has_later (keys_at lists i))
any_more lists i = by (cases_lt i (length lists))
  where
    by : (i < length lists) ⊎ (length lists ≤ i) → list_any has_later (take (i + 1) lists) ≡ (list_any has_later (take i lists) || has_later (keys_at lists i))
    by (inl within) = list_any_more has_later lists i [] within
    by (inr past) =
        rw (take_all (i + 1) lists (omega (arith, past)), take_all i lists past, no_party lists i past) (sym (or-false (list_any has_later lists)))

-- one party is enough
pub any_at : (lists : List (List LmsPublic)) (i : ℕ) → has_later (keys_at lists i) ≡ true → list_any has_later lists ≡ true
any_at lists i h = by (cases_lt i (length lists))
  where
    by : (i < length lists) ⊎ (length lists ≤ i) → list_any has_later lists ≡ true
    by (inl within) = list_any_at has_later lists i [] within h
    by (inr past) = absurd (impossible (sym h ∙ no_party lists i past))
      where
        impossible : true ≡ false → ⊥
        impossible e = cc

pub ruleset party_laws = (any_more, any_at)
