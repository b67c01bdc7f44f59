use Rattle.std.proofs.Common.{rules, ◌≡◌, true, is_some, find, Some}
use Rattle.std.specs.Option.{option_map}
use Rattle.std.proofs.lemmas.List.{with_items_is}
use Rattle.ar_nodes.specs.Finding.{checking_in, is_owner}
use Rattle.ar_nodes.specs.Owners.{known_key}
use Rattle.ar_world.proofs.Retold.{lesson_steps}
use Rattle.ar_world.proofs.world.World.lesson_line.Goals as goal

pub returns : goal.returns
returns g c =
    let there : is_some (checking_in c.deref_mut.result.now c.args.authority) ≡ true = search rules in
    let known : Some c.in-Some.key ≡ option_map known_key (find (is_owner c.args.owner) c.self.inside.owners.items) = search rules in
    let back = with_items_is c.self.inside.authorities c.instructed.new.authorities (search rules) in
    rw (← c.self.view_is) (lesson_steps c.instructed.result _ c.args.lesson c.args.authority c.args.owner c.args.name.now c.in-Some.key c.deref_mut.result.now c.instructed.new.authorities _
    c.deref_mut.ensures.value back there known c.instructed.ensures.ok c.instructed.ensures.err)
