use Rattle.std.proofs.Common.{sym, ap, ◌∙◌, is_some, None}
use Rattle.ar_nodes.proofs.Retold.{checking_there, made_there}
use Rattle.ar_nodes.proofs.teaching.retire_at.Goals as goal

pub retire_there-requires : goal.retire_there-requires
retire_there-requires g c = ap is_some (sym (checking_there c.args.authorities.now c.args.number c.index-authorities-number.result c.requires)) ∙ c.requires

pub returns-clause-set : goal.returns-clause-set
returns-clause-set g c = made_there c.args.authorities.now c.args.number c.index-authorities-number.result c.retire_there.new.slot (λ found. record found.0 { check = None }) c.requires c.retire_there.ensures
