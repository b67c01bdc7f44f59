use Rattle.std.proofs.Common.{◌≤◌, List, ℕ, length, subst, sym}
use Rattle.hash_tree.proofs.Kept.{steps-most}
use Rattle.log_sending.proofs.showing.body_in.Goals as goal

pub body_by-requires : goal.body_by-requires
body_by-requires c =
    subst (λ (steps : List (List ℕ)). length steps ≤ 256) (sym c.in_ok-at_key.ensures.steps) (steps-most 256 c.digest.result c.trie.result.now)
