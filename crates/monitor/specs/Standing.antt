-- What a report says of a party, and what it is that a party's valid items stand in its book.
use Rattle.std.specs.Prelude.{◌≡◌, ◌<◌, ◌≤◌, ◌⊎◌, ℕ, List, Contains, Some, Ok}
use Rattle.ar_statement.specs.Claims.{signer_of}
use Rattle.ar_statement.specs.declared.party.Party.{Party}
use Rattle.key_roll.specs.Book.{RollBook}
use Rattle.key_roll.specs.Entry.{LeafServes}
use Rattle.party_keys.specs.Directory.{Directory}
use Rattle.monitor.specs.Items.{Sworn, sworn_in}
use Rattle.monitor.specs.Rules.{rule_of}
use Rattle.monitor.specs.declared.item.Item.{Item}
use Rattle.monitor.specs.declared.report.Conflict.{Conflict}

-- one of the items shows the statement
abbrev pub IsSwornIn : Directory → List Item → Sworn → Type 0
IsSwornIn keys items s = (i : Item) × Contains items i × (sworn_in keys i ≡ Ok s)

-- two valid items of a party contradict each other
pub record Contradicts (keys : Directory) (items : List Item) (who : Party) : Type 0 where
  pub s : Sworn
  pub t : Sworn
  pub shown : IsSwornIn keys items s
  pub shown_later : IsSwornIn keys items t
  pub signer : signer_of s.claim ≡ who
  pub signer_later : signer_of t.claim ≡ who
  pub rule : ℕ
  pub rule_is : rule_of s t ≡ Some rule

-- these two lines are of valid items of the party that contradict each other by this rule, the first line above the second
pub record IsPair (keys : Directory) (items : List Item) (c : Conflict) : Type 0 where
  pub s : Sworn
  pub t : Sworn
  pub shown : IsSwornIn keys items s
  pub shown_later : IsSwornIn keys items t
  pub signer : signer_of s.claim ≡ c.party
  pub signer_later : signer_of t.claim ≡ c.party
  pub first : s.line ≡ c.first
  pub second : t.line ≡ c.second
  pub in_order : c.first < c.second
  pub rule_is : rule_of s t ≡ Some c.rule

-- a pair with a lesser second line, or with the same and no greater first line
abbrev pub IsNoLater : Conflict → Conflict → Type 0
IsNoLater c d = (c.second < d.second) ⊎ ((c.second ≡ d.second) × (c.first ≤ d.first))

-- a statement stands in a book at the generation and the leaf of its signature
abbrev pub StandsAt : RollBook → Sworn → Type 0
StandsAt book s = (g : ℕ) × (leaf : ℕ) × (s.generation ≡ Some g) × (s.leaf ≡ Some leaf) × LeafServes book g leaf s.text

-- each valid item of a party stands in its book so
abbrev pub StandIn : RollBook → Directory → List Item → Party → Type 0
StandIn book keys items who = (s : Sworn) → IsSwornIn keys items s → signer_of s.claim ≡ who → StandsAt book s
