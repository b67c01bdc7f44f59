use Rattle.std.proofs.Common.{◌∷◌, refl, inl, inr}
use Rattle.ar_base.proofs.Apart.{apart}
use Rattle.ar_names.specs.Names.{name_string}
use Rattle.domain_table.specs.Tree.{table_strings}
use Rattle.domain_table.proofs.Trees.{listed, entry_at, pending_at, holds_digests}
use Rattle.domain_table.proofs.laws.the_tree_has_each_name.Goals as goal
use Rattle.hash_tree.specs.Strings.{pending_key_string}

pub returns-clause-names : goal.returns-clause-names
returns-clause-names c = λ t name clean. entry_at (name_string name ∷ table_strings t) (apart (name_string name ∷ table_strings t) clean) t (listed (name_string name ∷ table_strings t) t (λ x i. inr i)) name (inl refl)

pub returns-clause-pending : goal.returns-clause-pending
returns-clause-pending c = λ t name clean. pending_at (pending_key_string name ∷ table_strings t) (apart (pending_key_string name ∷ table_strings t) clean) t (listed (pending_key_string name ∷ table_strings t) t (λ x i. inr i)) name (inl refl)

pub returns-clause-digests : goal.returns-clause-digests
returns-clause-digests c = holds_digests
