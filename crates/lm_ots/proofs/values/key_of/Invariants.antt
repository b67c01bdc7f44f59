use Rattle.std.proofs.Common.{[], slice_index_or}
use Rattle.std.specs.List.{flat_map, range_with_len}
use Rattle.sha2.specs.Hashers.{Holds256}
use Rattle.lm_ots.specs.Chain.{d_pblc, domain_text}
use Rattle.lm_ots.proofs.values.key_of.Given as goal

abbrev pub invariant-loop-i : goal.invariant-loop-i
invariant-loop-i l =
    Holds256 l.hasher (domain_text l.fn.id l.fn.leaf d_pblc (flat_map (λ i. slice_index_or l.fn.ends i []) (range_with_len 0 l.i)))
