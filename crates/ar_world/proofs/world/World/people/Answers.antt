use Rattle.std.proofs.Common.{rules, refl, ap, ◌≡◌, ◌∙◌}
use Rattle.std.specs.Vec.{vec_items}
use Rattle.ar_statement.specs.declared.party.Role.TheVariants.{LogServer}
use Rattle.ar_founding.specs.FirstKeys.{FirstKeys, first_of}
use Rattle.ar_nodes.specs.Parties.{checks_told}
use Rattle.ar_founding.specs.FirstKeys.{keys_for}
use Rattle.ar_world.specs.State.{World}
use Rattle.ar_world.specs.declared.phase.Phase.TheVariants as phase
use Rattle.ar_founding.proofs.FirstParties.{few-kept, put-first}
use Rattle.ar_world.proofs.FirstParties.{joined-world}
use Rattle.ar_world.proofs.world.World.people.Goals as goal

pub invariant_of-self : goal.invariant_of-self
invariant_of-self g c = record { keys = λ is. absurd cc; known = λ far. refl; serials = c.self.invariant.serials; few = few-kept _ _ _ _ (put-first _ _ _ c.requires.logs.0 c.join_logs.ensures) c.founded.view_is c.requires.own.few }

pub returns-clause-world : goal.returns-clause-world
returns-clause-world g c =
    let made : c.self.inside.phase ≡ phase.LogsMade = ap (λ (w : World). w.phase) c.self.view_is ∙ c.requires.phase in
    let keys : c.replace-keys.result ≡ first_of (keys_for c.self.inside.setup LogServer c.self.inside.setup.logs) = c.replace-keys.ensures.value ∙ c.self.invariant.keys made in
    joined-world _ _ _ _ _ _ _ _ _ _ (put-first _ _ _ c.requires.logs.0 c.join_logs.ensures) (put-first _ _ _ c.requires.authorities.0 c.join_authorities.ensures)
    (ap (λ (k : FirstKeys). k.rings) (c.keys.view_is ∙ keys)) (ap (λ (v : _). checks_told g.C.OwnerCheck.told g.C.OwnerCheck.answers (vec_items v)) c.replace-checks.ensures.value) c.founded.invariant (search rules) c.self.view_is c.founded.view_is
