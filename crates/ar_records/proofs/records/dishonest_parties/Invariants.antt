use Rattle.std.proofs.Common.{◌≡◌, map, take}
use Rattle.ar_records.proofs.records.dishonest_parties.Given as goal

-- the parties so far
abbrev pub invariant-loop-forger : goal.invariant-loop-forger
invariant-loop-forger l = l.parties.items ≡ map (λ forger. forger.party) (take l.forger-index l.forgers)
