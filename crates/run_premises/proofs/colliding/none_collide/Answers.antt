-- The strings that are noted are all that are hashed.
use Rattle.std.proofs.Common.{[], ◌∙◌, ap}
use Rattle.ar_base.specs.Apart.{none_collide}
use Rattle.ar_safety.specs.Held.{Held}
use Rattle.run_premises.proofs.Hashing.{all-hashed}
use Rattle.run_premises.proofs.colliding.none_collide.Goals as goal

pub returns : goal.returns
returns c =
    let judged = ap (λ (h : Held). h.judged) c.records.view_is in
    c.is_apart.ensures _ (c.in_ok-note_logs.ensures _ (c.in_ok-note_judged.ensures [] c.new-noted.ensures))
    ∙ ap none_collide (all-hashed c.args.records.now _ judged)
