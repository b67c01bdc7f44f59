-- What a word of a line names among parties, and why a line is refused where one names nothing.
use Rattle.std.specs.Prelude.{ℕ, ◌==◌, Bool, List, slice_get, slice_set, Option, Some, None, option_and_then, Result}
use Rattle.std.specs.Option.{ok_or, option_flatten, option_map}
use Rattle.ar_statement.specs.Claims.{is_party}
use Rattle.ar_statement.specs.declared.party.Party.{Party}
use Rattle.owner_core.specs.State as owners
use Rattle.ar_nodes.specs.Parties.{AuthorityNode, CheckParts, Forger}
use Rattle.ar_nodes.specs.declared.fault.WorldFault.{WorldFault}
use Rattle.ar_nodes.specs.declared.fault.WorldFault.TheVariants.{Absent}

-- the word with this number names something
abbrev pub named : {X : Type 0} → ℕ → Option X → Result X WorldFault
named word found = ok_or found (Absent word)

-- ---- parties

-- of logs or authorities, the honest one with this number
abbrev pub honest_in : {X : Type 0} → List (Option X) → ℕ → Option X
honest_in parties number = option_flatten (slice_get parties number)

-- an honest authority with the check that it has
abbrev pub with_check : AuthorityNode → Option (AuthorityNode × CheckParts)
with_check node = option_map (λ check. (node, check)) node.check

-- of these authorities, the honest one with this number, where it has not retired
abbrev pub checking_in : List (Option AuthorityNode) → ℕ → Option (AuthorityNode × CheckParts)
checking_in authorities number = option_and_then with_check (honest_in authorities number)

-- the owner with this number
abbrev pub is_owner : ℕ → owners.Owner → Bool
is_owner number owner = owner.number == number

-- the dishonest party
abbrev pub is_forger : Party → Forger → Bool
is_forger party forger = is_party party forger.party

-- ---- items in the place of others

-- the list with this item at a place, where there is one
abbrev pub set_if : {X : Type 0} → List X → Option ℕ → X → List X
set_if xs None x = xs
set_if xs (Some place) x = slice_set xs place x
