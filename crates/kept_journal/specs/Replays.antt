-- What a party becomes by texts, one behind the other, and which record it cannot take.
use Rattle.std.specs.Prelude.{◌≡◌, ℕ, ◌+◌, ◌<◌, List, [], ◌∷◌, ◌++◌, length, Option, None, Some}
use Rattle.kept_journal.specs.Journal.{AreShort, mark_len, record_in, records}

module _ {P : Type 0} (takes : P → List ℕ → P → Type 0) where
  -- it becomes this by these texts
  abbrev pub ReachesBy : P → List (List ℕ) → P → Type 0
  ReachesBy first [] last = last ≡ first
  ReachesBy first (text ∷ texts) last = (mid : P) × takes first text mid × ReachesBy mid texts last

  -- there is no whole record, or one that it does not take
  abbrev pub IsStuck : P → Option (List ℕ × List ℕ) → Type 0
  IsStuck party None = Unit {0}
  IsStuck party (Some r) = (later : P) → ¬ takes party r.0 later

  -- In a file of more than 9 bytes the gate at this place is open, and the party, which came there by the records before it, cannot take what stands behind it.
  pub record IsBad (mark : List ℕ) (first : P) (file : List ℕ) (place : ℕ) : Type 0 where
    pub texts : List (List ℕ)
    pub behind : List ℕ
    pub party : P
    pub long : 9 < length file
    pub short : AreShort texts
    pub is : file ≡ mark ++ (records texts ++ 1 ∷ behind)
    pub place_is : place ≡ mark_len + length (records texts)
    pub reached : ReachesBy first texts party
    pub stuck : IsStuck party (record_in behind)
