use Rattle.std.proofs.Common.{ap, ◌∙◌}
use Rattle.ar_world.specs.Founding.{is_peopled}
use Rattle.ar_world.proofs.world.World.run.Goals as goal

-- there are directories, as before
pub invariant_of-self : goal.invariant_of-self
invariant_of-self g c = record {
  keys = λ is. absurd cc;
  known = λ running. c.self.invariant.known (ap (λ w. is_peopled w.phase) c.self.view_is ∙ c.requires);
  serials = c.self.invariant.serials;
  few = c.self.invariant.few;
}
