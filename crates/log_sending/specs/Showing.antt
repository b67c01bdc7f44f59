-- What a table has for a name, with the path that shows it.
use Rattle.std.specs.Prelude.{List, [], Option, Some, None, ℕ}
use Rattle.std.specs.List.{concat}
use Rattle.hash_tree.specs.Path.{steps_of}
use Rattle.tree_proof.specs.Path.{found_of}
use Rattle.hash_tree.specs.declared.bottom.Bottom.TheVariants.{Empty}
use Rattle.tree_proof.specs.declared.path.Found.{Found}
use Rattle.tree_proof.specs.declared.path.Found.TheVariants as found
use Rattle.ar_names.specs.Names.{name_digest_of}
use Rattle.ar_cert.specs.Certificate.{Certificate}
use Rattle.ar_message.specs.declared.message.Body.{Body}
use Rattle.ar_message.specs.declared.message.Body.TheVariants.{Absent, Present}
use Rattle.domain_table.specs.Tables.{Table, chain_of, newest}
use Rattle.domain_table.specs.Tree.{tree_entries}

-- what stands at the foot of the path of a name that has no certificate, with the path; where another name has its key
-- in the tree, which takes a collision, it is empty and there are no steps
abbrev pub absence : Found → List (List ℕ) → Body
absence (found.Absent bottom) steps = Absent bottom (concat steps)
absence (found.Present value) steps = Absent Empty []

-- a name's certificate, or its absence, with the path that shows it
abbrev pub body_by : Option Certificate → Found → List (List ℕ) → Body
body_by (Some certificate) at_key steps = Present certificate (concat steps)
body_by None at_key steps = absence at_key steps

-- what a table has for a name, with its path
abbrev pub body_in : Table → List ℕ → Body
body_in table name =
    body_by (newest (chain_of table name)) (found_of (name_digest_of name) (tree_entries table)) (steps_of (name_digest_of name) (tree_entries table))
