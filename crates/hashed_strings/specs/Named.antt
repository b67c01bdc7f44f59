-- The strings that are hashed for a table, told of names: those of its tree, and for each name those of its chain and of what
-- waits for it. Where each name of the table is told, they are those that are hashed for it.
use Rattle.std.specs.Prelude.{◌≡◌, ℕ, List, [], ◌++◌, flat_map, Option, Some, None}
use Rattle.std.specs.FinMap.{get}
use Rattle.ar_base.specs.Apart.{IsIn}
use Rattle.ar_cert.specs.Changes.{Change}
use Rattle.domain_table.specs.Sound.{IsSound}
use Rattle.domain_table.specs.Tables.{Pending, Table}
use Rattle.domain_table.specs.Tree.{chain_strings, pending_strings, tree_entries}
use Rattle.hash_tree.specs.Root.{strings_of}

-- of a name's chain, if it has one
abbrev pub strings_of_chain : List ℕ → Option (List Change) → List (List ℕ)
strings_of_chain name None = []
strings_of_chain name (Some chain) = chain_strings name chain

-- of what waits for a name, if something does
abbrev pub strings_of_pending : List ℕ → Option Pending → List (List ℕ)
strings_of_pending name None = []
strings_of_pending name (Some pending) = pending_strings name pending

-- of a name in a table
abbrev pub name_strings : Table → List ℕ → List (List ℕ)
name_strings table name = strings_of_chain name (get table.chains name) ++ strings_of_pending name (get table.waiting name)

-- those of the tree, and of each name that is told
abbrev pub strings_told : Table → List (List ℕ) → List (List ℕ)
strings_told table names = strings_of (tree_entries table) ++ flat_map (name_strings table) names

-- each name that has a chain, or for which a change waits, is told
pub record AreAll (names : List (List ℕ)) (table : Table) : Type 0 where
  pub chains : (name : List ℕ) (chain : List Change) → get table.chains name ≡ Some chain → IsIn names name
  pub waiting : (name : List ℕ) (pending : Pending) → get table.waiting name ≡ Some pending → IsIn names name

-- the table is sound, and each of its names is told
pub record IsTold (names : List (List ℕ)) (table : Table) : Type 0 where
  pub sound : IsSound table
  pub all : AreAll names table
