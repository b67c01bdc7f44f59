-- The tests of presence and absence, and what they test.
use Rattle.std.proofs.Common.{◌≡◌, ℕ, ◌≤◌, ◌%◌, List, length, refl, arith}
use Rattle.std.specs.Prelude.{nat_le, ◌==◌}
use Rattle.std.specs.Bool.{Decides}
use Rattle.std.proofs.lemmas.Bool.Decides.{Decides-and, Decides-not, Decides-eqb, Decides-below_and, nat_tests}
use Rattle.std.proofs.lemmas.Slice.Eq.{bytes_eq-Decides}
use Rattle.hash_tree.specs.Entries.{bit, Agree}
use Rattle.tree_proof.specs.Fold.{digests_in}
use Rattle.tree_proof.specs.Membership.{OnBytes, OffBytes, LeadsTo, SpeaksOf, leads_to, agrees, speaks_of, is_on, is_off}
use Rattle.hash_tree.specs.declared.bottom.Bottom.{Bottom}
use Rattle.hash_tree.specs.declared.bottom.Bottom.TheVariants.{Empty, Other}

-- the test of an order
pub le_decides : (a b : ℕ) → Decides (nat_le a b) (a ≤ b)
le_decides a b = grind (arith, nat_tests)

leads_decides : (key foot bytes root : List ℕ) → Decides (leads_to key foot bytes root) ((length bytes % 32 ≡ 0) × LeadsTo key foot (digests_in bytes) root)
leads_decides key foot bytes root = Decides-and _ _ (Decides-eqb _ _) (Decides-and _ _ (le_decides _ _) (bytes_eq-Decides _ _))

pub is_on-Decides : (key value bytes root : List ℕ) → Decides (is_on key value bytes root) (OnBytes key value bytes root)
unfolding is_on
is_on-Decides key value bytes root = leads_decides key _ bytes root

agrees_decides : (depth : ℕ) (key other : List ℕ) → Decides (agrees depth key other) (Agree depth key other)
agrees_decides depth key other =
    Decides-below_and (λ t. bit key t == bit other t) (λ t. bit key t ≡ bit other t) (λ n. agrees n key other) (λ t. Decides-eqb _ _) refl (λ _. refl) depth

speaks_decides : (bottom : Bottom) (key : List ℕ) (count : ℕ) → Decides (speaks_of bottom key count) (SpeaksOf bottom key count)
speaks_decides Empty key count = (λ h. tt, λ h. refl)
speaks_decides (Other other value) key count = Decides-and _ _ (Decides-not _ (bytes_eq-Decides _ _)) (agrees_decides count other key)

pub is_off-Decides : (key : List ℕ) (bottom : Bottom) (bytes root : List ℕ) → Decides (is_off key bottom bytes root) (OffBytes key bottom bytes root)
unfolding is_off
is_off-Decides key bottom bytes root =
    let both = Decides-and _ _ (leads_decides key _ bytes root) (speaks_decides bottom key (length (digests_in bytes))) in
    (λ h. let b = both.0 h in (b.0.0, (b.0.1, b.1)), λ h. both.1 ((h.0, h.1.0), h.1.1))
