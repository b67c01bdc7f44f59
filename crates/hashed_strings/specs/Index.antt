-- Strings that are noted one after another, each under its digest, and whether two of them collide.
use Rattle.std.specs.Prelude.{◌≡◌, ◌≢◌, ℕ, Bool, true, false, List, Option, Some}
use Rattle.std.specs.BTreeMap.{get}
use Rattle.sha2.specs.Sha256.{sha256}
use Rattle.ar_base.specs.Apart.{IsIn}
use Rattle.hash_tree.specs.Entries.{key_cmp}
use Rattle.hashed_strings.specs.declared.noted.Noted.{Noted}

-- two strings of the list collide: they differ, and have one digest
pub record Collide (strings : List (List ℕ)) : Type 0 where
  pub one : List ℕ
  pub other : List ℕ
  pub one_in : IsIn strings one
  pub other_in : IsIn strings other
  pub same : sha256 one ≡ sha256 other
  pub differ : one ≢ other

-- What stands under a digest is a string of the list that has it. As long as none collided, each string of the list stands under
-- its digest; and else two collide.
pub record IsIndex (at : List ℕ → Option (List ℕ)) (apart : Bool) (strings : List (List ℕ)) : Type 0 where
  pub kept : (digest string : List ℕ) → at digest ≡ Some string → (digest ≡ sha256 string) × IsIn strings string
  pub all : apart ≡ true → (string : List ℕ) → IsIn strings string → at (sha256 string) ≡ Some string
  pub collided : apart ≡ false → Collide strings

-- these strings were noted
abbrev pub AreNoted : Noted → List (List ℕ) → Type 0
AreNoted noted strings = IsIndex (get key_cmp noted.strings) noted.apart strings
