use Rattle.std.proofs.Common.{◌≡◌, sym, subst, List}
use Rattle.std.specs.Prelude.{Contains}
use Rattle.ar_safety.specs.Held.{verdict_on}
use Rattle.process_safety.specs.Network.{ClientAct, after_acts, new_clients}
use Rattle.process_safety.proofs.Clients.{accepted-held}
use Rattle.process_safety.proofs.laws.what_clients_accepted_is_held.Goals as goal

pub returns : goal.returns
returns c n front rest t is taken =
    subst (λ (acts : List ClientAct). Contains (after_acts (new_clients n.directory) acts).judged t
    × (verdict_on (after_acts (new_clients n.directory) acts).directory t ≡ verdict_on (after_acts (new_clients n.directory) front).directory t)) (sym is)
    (accepted-held front rest (new_clients n.directory) t taken)
