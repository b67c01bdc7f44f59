use Rattle.std.proofs.Common.{rules, ◌≡◌, true, is_some}
use Rattle.std.proofs.lemmas.List.{with_items_is}
use Rattle.ar_nodes.specs.Finding.{checking_in}
use Rattle.ar_world.proofs.Retold.{retire_steps}
use Rattle.ar_world.proofs.world.World.retire_line.Goals as goal

pub returns : goal.returns
returns g c =
    let there : is_some (checking_in c.deref_mut.result.now c.args.authority) ≡ true = search rules in
    let back = with_items_is c.self.inside.authorities c.retired.new.authorities (search rules) in
    rw (← c.self.view_is) (retire_steps c.retired.result _ c.args.authority c.deref_mut.result.now c.retired.new.authorities _
    c.deref_mut.ensures.value back there c.retired.ensures.ok c.retired.ensures.err)
