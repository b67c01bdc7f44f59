-- Where chains lead that are on their way, by the steps that are left to them.
use Rattle.std.specs.Prelude.{◌≡◌, ℕ, ◌<◌, List, [], slice_index, slice_index_or}
use Rattle.lm_ots.specs.declared.chains.Chains.{Chains}
use Rattle.lm_ots.specs.declared.chains.Four.{Four}
use Rattle.lm_ots.specs.Chain.{chain}

-- where chain i leads: its value after the steps that are left
abbrev pub end_of : List ℕ → ℕ → Chains → ℕ → List ℕ
end_of id leaf chains i =
    chain id leaf i (slice_index chains.next i) (slice_index chains.ends i) (slice_index_or chains.values i [])

-- each chain leads to the end that is given for its number
abbrev pub AllLeadTo : List ℕ → ℕ → Chains → (ℕ → List ℕ) → Type 0
AllLeadTo id leaf chains end = (i : ℕ) → end_of id leaf chains i ≡ end i

-- where the chain in lane k leads
abbrev pub lane_end : List ℕ → ℕ → Four → ℕ → List ℕ
lane_end id leaf four k =
    chain id leaf (slice_index four.numbers k) (slice_index four.next k) (slice_index four.ends k)
    (slice_index_or four.values k [])

-- the chain in each lane leads to the end that is given for its number
abbrev pub FourLeadTo : List ℕ → ℕ → Four → (ℕ → List ℕ) → Type 0
FourLeadTo id leaf four end = (k : ℕ) → k < 4 → lane_end id leaf four k ≡ end (slice_index four.numbers k)
