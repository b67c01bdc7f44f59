-- The lives of a party's file: runs of the party, with the crashes and openings between them.
use Rattle.std.specs.Prelude.{◌≡◌, ◌⊎◌, ℕ, List, [], ◌∷◌, ◌++◌}
use Rattle.kept_journal.specs.Journal.{Stands, recovered}

-- One run of a party, from an opening of its file to what stands in it at the next: the texts of what it was asked and replied to,
-- and the file that was left, by a crash, by a disk that failed or by an end.
pub record Life : Type 0 where
  pub answered : List (List ℕ)
  pub left : List ℕ

module _ (mark : List ℕ) where
  -- The file that a life leaves, which began with these texts, stands for them and what was answered, with at most one text more.
  abbrev pub LeavesFile : List (List ℕ) → Life → Type 0
  LeavesFile texts life = Stands mark (texts ++ life.answered) life.left
      ⊎ ((text : List ℕ) × Stands mark ((texts ++ life.answered) ++ text ∷ []) life.left)

  -- From a file with these texts these lives, one behind the other, lead to one with those: each opens what the one before left.
  abbrev pub Lead : List (List ℕ) → List Life → List (List ℕ) → Type 0
  Lead texts [] last = last ≡ texts
  Lead texts (life ∷ lives) last = LeavesFile texts life × Lead (recovered life.left) lives last
