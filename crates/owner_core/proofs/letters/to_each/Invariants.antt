use Rattle.std.proofs.Common.{◌≡◌, map, take}
use Rattle.ar_message.specs.declared.address.Address.TheVariants.{One}
use Rattle.ar_statement.specs.Claims.{authority_party}
use Rattle.owner_core.proofs.letters.to_each.Given as goal

abbrev pub invariant-loop-authority : goal.invariant-loop-authority
invariant-loop-authority l = l.list.items ≡ map (λ authority. record { to = One (authority_party authority); bytes = l.text }) (take l.authority-index l.authorities)
