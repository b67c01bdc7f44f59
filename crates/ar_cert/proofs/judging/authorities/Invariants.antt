use Rattle.std.proofs.Common.{◌≡◌, length, map, take}
use Rattle.ar_cert.proofs.judging.authorities.Given as goal

-- the numbers so far
abbrev pub invariant-loop-i : goal.invariant-loop-i
invariant-loop-i l = (length l.numbers ≡ 8) × (take l.i l.numbers ≡ map (λ v. v.authority) (take l.i l.endorsements))
