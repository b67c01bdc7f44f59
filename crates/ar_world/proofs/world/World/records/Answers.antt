-- The records are those of the world of which the parts are handed on.
use Rattle.std.proofs.Common.{◌≡◌, ap, subst, sym}
use Rattle.std.specs.Prelude.{IfOk}
use Rattle.ar_records.specs.ar_safety.Held.{Held}
use Rattle.ar_world.specs.Kept.{clients_in}
use Rattle.ar_world.proofs.Remembered.{held-so}
use Rattle.ar_world.proofs.world.World.records.Goals as goal

pub returns : goal.returns
returns g c =
    subst (λ (held : Held). IfOk c.of.result (λ records. records ≡ held))
    (held-so _ c.args.self.now _ _ _ _ _ _ c.self.view_is (sym (ap clients_in c.in-Some.is)) c.deref.ensures.value c.deref-2.ensures.value c.deref-3.ensures.value c.deref-4.ensures.value c.deref-5.ensures.value)
    c.of.ensures
