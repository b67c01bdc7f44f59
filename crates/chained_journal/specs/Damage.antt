-- Files that were changed, and strings that collide.
use Rattle.std.specs.Prelude.{◌≡◌, ◌≢◌, ◌⊎◌, ℕ, zero, suc, List, [], ◌∷◌, ◌++◌, take, drop}
use Rattle.ar_base.specs.Apart.{IsIn}
use Rattle.sha2.specs.Sha256.{sha256}
use Rattle.chained_journal.specs.Journal.{link, start, text_string, title_string}
use Rattle.chained_journal.specs.declared.title.Title.{Title}

-- ---- strings

-- the strings that are hashed for these texts behind others with this chain
abbrev pub text_strings : List ℕ → List (List ℕ) → List (List ℕ)
text_strings chain [] = []
text_strings chain (text ∷ texts) = text_string chain text ∷ text_strings (link chain text) texts

-- the strings that are hashed for a journal of these texts
abbrev pub strings_of : Title → List (List ℕ) → List (List ℕ)
strings_of title texts = title_string title ∷ text_strings (start title) texts

-- one string of these and one of those are two, and have one digest
pub record Collide (ones others : List (List ℕ)) : Type 0 where
  pub one : List ℕ
  pub other : List ℕ
  pub in_ones : IsIn ones one
  pub in_others : IsIn others other
  pub apart : one ≢ other
  pub same : sha256 one ≡ sha256 other

-- ---- changes

-- these bytes differ from those in one byte
pub record IsChanged (old new : List ℕ) : Type 0 where
  pub front : List ℕ
  pub byte : ℕ
  pub other : ℕ
  pub back : List ℕ
  pub apart : byte ≢ other
  pub old_is : old ≡ front ++ byte ∷ back
  pub new_is : new ≡ front ++ other ∷ back

-- ---- sectors

-- What a crash may leave of a file, of which some bytes were to become others: of each of so many sectors what was or what was to be, and behind them what was.
abbrev pub InSectors : ℕ → ℕ → List ℕ → List ℕ → List ℕ → Type 0
InSectors size zero old to new = new ≡ old
InSectors size (suc n) old to new =
    ((take size new ≡ take size old) ⊎ (take size new ≡ take size to)) × InSectors size n (drop size old) (drop size to) (drop size new)
