use Rattle.ar_nodes.proofs.Settled.{noted_at}
use Rattle.ar_nodes.proofs.settling.note_at.Goals as goal

pub returns-in-Some-clause-ok : goal.returns-in-Some-clause-ok
returns-in-Some-clause-ok c =
    noted_at c.args.logs.now.items c.args.message c.args.number c.in-Some.slot.now c.note_there.new.slot c.note_there.result c.in-Some.ensures.value c.note_there.ensures.ok
