-- How a directory keeps its keys: the first key of each party, and lists of the later ones.
use Rattle.std.specs.Prelude.{List, [], ◌∷◌}
use Rattle.lms_tree.specs.declared.public_key.LmsPublic.{LmsPublic}

-- to the first key of each party its later ones, none where no list is kept for it
unfoldable pub joined : List LmsPublic → List (List LmsPublic) → List (List LmsPublic)
joined [] later = []
joined (first ∷ firsts) [] = (first ∷ []) ∷ joined firsts []
joined (first ∷ firsts) (keys ∷ later) = (first ∷ keys) ∷ joined firsts later
