-- The tree over the one-time keys: its nodes, and the way up from a leaf (RFC 8554, sections 5.3 and
-- 5.4.2). Node 1 is the root, the children of node r are 2r and 2r + 1, and leaf q is node 2 ^ h + q.
use Rattle.std.specs.Prelude.{ℕ, ◌/◌, ◌%◌, ◌==◌, List, [], ◌∷◌, ◌++◌, if◌then◌else◌}
use Rattle.sha2.specs.Sha256.{sha256}
use Rattle.lm_ots.specs.Chain.{domain_text}

-- D_LEAF and D_INTR (section 7.1)
abbrev pub d_leaf : ℕ
d_leaf = 0x8282

abbrev pub d_intr : ℕ
d_intr = 0x8383

-- T[r] of a leaf, with the key K of its one-time signatures
abbrev pub leaf_node : List ℕ → ℕ → List ℕ → List ℕ
leaf_node id r key = sha256 (domain_text id r d_leaf key)

-- T[r] of an inner node, with its children T[2r] and T[2r + 1]
abbrev pub inner_node : List ℕ → ℕ → List ℕ → List ℕ → List ℕ
inner_node id r left right = sha256 (domain_text id r d_intr (left ++ right))

-- the value of a node's parent, with the value of the node and of its sibling: an odd node is the
-- right child
abbrev pub parent_of : List ℕ → ℕ → List ℕ → List ℕ → List ℕ
parent_of id node value sibling =
    if node % 2 == 1 then inner_node id (node / 2) sibling value
    else inner_node id (node / 2) value sibling

-- the value at the root, where a node has this value, and the path has its sibling, its parent's
-- sibling and so on (section 5.4.2, algorithm 6a)
abbrev pub go_up : List ℕ → ℕ → List ℕ → List (List ℕ) → List ℕ
go_up id node value [] = value
go_up id node value (sibling ∷ path) = go_up id (node / 2) (parent_of id node value sibling) path
