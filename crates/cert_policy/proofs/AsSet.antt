-- Counts are of sets: lists with the same numbers have the same counts.
use Rattle.std.proofs.Common.{◌≡◌, ℕ, List, sym, ap, ◌∙◌, ◌↔◌}
use Rattle.std.specs.Prelude.{Contains}
use Rattle.std.specs.FinSet.{len, intersection, contains-from_list_nat, same_set, nat_cmp-IsAntisymmetric}
use Rattle.std.specs.Cmp.{both_ways}
use Rattle.std.proofs.lemmas.Cmp.{nat_cmp_total}
use Rattle.vote_quorum.specs.Numbers.{set_of, distinct_count, shared_count}
use Rattle.vote_quorum.proofs.Counting.{Contains-from_among, among-from_Contains}

pub same_numbers : (one other : List ℕ) → ((number : ℕ) → Contains one number ↔ Contains other number) → set_of one ≡ set_of other
same_numbers one other same =
    same_set nat_cmp_total nat_cmp-IsAntisymmetric _ _ (λ q.
    contains-from_list_nat one q
    ∙ both_ways _ _ (λ h. among-from_Contains other q ((same q).0 (Contains-from_among one q h))) (λ h. among-from_Contains one q ((same q).1 (Contains-from_among other q h)))
    ∙ sym (contains-from_list_nat other q))

pub same_distinct : (one other : List ℕ) → ((number : ℕ) → Contains one number ↔ Contains other number) → distinct_count one ≡ distinct_count other
same_distinct one other same = ap len (same_numbers one other same)

pub same_among : (trusted one other : List ℕ) → ((number : ℕ) → Contains one number ↔ Contains other number) → shared_count one trusted ≡ shared_count other trusted
same_among trusted one other same = ap (λ s. len (intersection s (set_of trusted))) (same_numbers one other same)
