-- A book of pairs: the names of domains, each with a key that its holder is known by. A name may stand
-- with several keys.
use Rattle.std.specs.Prelude.{ℕ, Bool, ◌&&◌, not, List, filter}
use Rattle.std.specs.List.{list_any}
use Rattle.std.specs.Str.{bytes_eq}
use Rattle.ar_base.specs.Adding.{with_one}
use Rattle.owner_check.specs.declared.pair.Pair.{Pair}

-- whether a pair is of this name and this key
abbrev pub is_of : List ℕ → List ℕ → Pair → Bool
is_of name key pair = bytes_eq pair.name name && bytes_eq pair.key key

-- whether the book has the name with the key
abbrev pub has_pair : List Pair → List ℕ → List ℕ → Bool
has_pair book name key = list_any (is_of name key) book

-- the pair of a name and a key
abbrev pub pair_of : List ℕ → List ℕ → Pair
pair_of name key = record { name = name; key = key }

-- the book with the name and the key behind it, unless it has them
abbrev pub with_pair : List Pair → List ℕ → List ℕ → List Pair
with_pair book name key = with_one (λ pair more. is_of more.name more.key pair) book (pair_of name key)

-- the book without the name with the key
abbrev pub without_pair : List Pair → List ℕ → List ℕ → List Pair
without_pair book name key = filter (λ pair. not (is_of name key pair)) book
