-- The strings that LM-OTS hashes, and the chains (RFC 8554, sections 4.3 to 4.6).
use Rattle.std.specs.Prelude.{ℕ, zero, suc, List, ◌∷◌, ◌++◌, nat_le, if◌then◌else◌}
use Rattle.std.specs.Int.{w16, w32, to_be_bytes}
use Rattle.sha2.specs.Sha256.{sha256}

-- D_PBLC and D_MESG, the u16 that tell the two hashes of section 7.1 from each other
abbrev pub d_pblc : ℕ
d_pblc = 0x8080

abbrev pub d_mesg : ℕ
d_mesg = 0x8181

-- I || u32 number || u16 domain || rest: what is hashed for a leaf or a node, under a domain
abbrev pub domain_text : List ℕ → ℕ → ℕ → List ℕ → List ℕ
domain_text id number domain rest = id ++ (to_be_bytes w32 number ++ (to_be_bytes w16 domain ++ rest))

-- I || u32 q || u16 i || u8 j || tmp: what step j of chain i hashes (section 4.3)
abbrev pub step_text : List ℕ → ℕ → ℕ → ℕ → List ℕ → List ℕ
step_text id leaf i j value = id ++ (to_be_bytes w32 leaf ++ (to_be_bytes w16 i ++ j ∷ value))

-- Chain(I, q, i, a, b, x): the value x after the steps a to b - 1 of chain i, which is x where a is b
-- or more (sections 4.3, 4.5 and 4.6)
unfoldable pub chain : List ℕ → ℕ → ℕ → ℕ → ℕ → List ℕ → List ℕ
chain id leaf i a zero x = x
chain id leaf i a (suc b) x =
    if nat_le (suc b) a then x else sha256 (step_text id leaf i b (chain id leaf i a b x))
