use Rattle.std.proofs.Common.{◌≡◌, drop}
use Rattle.party_keys.specs.Signers.{all_known}
use Rattle.party_keys.proofs.directory.Directory.all_known.Given as goal

-- what is left is answered as all are
abbrev pub invariant-loop-party : goal.invariant-loop-party
invariant-loop-party l = all_known l.self (drop l.party-index l.parties) ≡ all_known l.self l.parties
