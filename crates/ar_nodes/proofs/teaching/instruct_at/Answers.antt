use Rattle.std.proofs.Common.{sym, ap, ◌∙◌, is_some}
use Rattle.ar_nodes.specs.Teaching.{retold, told_behind}
use Rattle.ar_nodes.proofs.Retold.{checking_there, made_there_ok}
use Rattle.ar_nodes.proofs.teaching.instruct_at.Goals as goal

pub instruct_there-requires : goal.instruct_there-requires
instruct_there-requires g c = ap is_some (sym (checking_there c.args.authorities.now c.args.number c.index-authorities-number.result c.requires)) ∙ c.requires

pub returns-clause-ok : goal.returns-clause-ok
returns-clause-ok g c = made_there_ok c.instruct_there.result c.args.authorities.now c.args.number c.index-authorities-number.result c.instruct_there.new.slot
    (retold (told_behind c.args.lesson c.args.name.now c.args.key.now)) c.requires c.instruct_there.ensures.ok
