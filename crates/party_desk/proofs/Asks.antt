-- Authorities that are asked.
use Rattle.std.proofs.Common.{◌≡◌, ℕ, ◌<◌, ltb, true, List, [], ◌∷◌}
use Rattle.std.specs.Prelude.{All}
use Rattle.std.specs.List.{list_all}
use Rattle.std.proofs.lemmas.Bool.{and_parts, ltb-true}
use Rattle.std.proofs.lemmas.List.Elements.{All-cons, All-nil}
use Rattle.party_desk.specs.Owners.{is_among}

-- each of them has two bytes
pub two_bytes : (count : ℕ) (asks : List ℕ) → list_all (is_among count) asks ≡ true → All (λ number. number < 65536) asks
two_bytes count [] h = All-nil (λ n. n < 65536)
two_bytes count (n ∷ more) h =
    let b = and_parts (is_among count n) (list_all (is_among count) more) h in
    let c = and_parts (ltb n 65536) (ltb n count) b.0 in
    All-cons (λ number. number < 65536) n more (ltb-true n 65536 c.0) (two_bytes count more b.1)
