use Rattle.std.proofs.Common.{◌≡◌, ◌++◌, drop}
use Rattle.std.specs.Prelude.{map}
use Rattle.party_keys.specs.Seen.{seen_of}
use Rattle.ar_statement.specs.Claims.{authority_party, endorse}
use Rattle.epoch_log.proofs.seeing.push_endorsements.Given as goal

-- what is appended and what is left are the endorsements
abbrev pub invariant-loop-endorsement : goal.invariant-loop-endorsement
invariant-loop-endorsement l =
    l.list.items ++ map (λ a. seen_of (authority_party a) (endorse a l.certificate)) (map (λ e. e.authority) (drop l.endorsement-index l.endorsement-items))
    ≡ l.initial.list.items ++ map (λ a. seen_of (authority_party a) (endorse a l.certificate)) (map (λ e. e.authority) l.endorsement-items)
