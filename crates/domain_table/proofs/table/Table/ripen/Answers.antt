use Rattle.std.proofs.Common.{sym, ◌∙◌}
use Rattle.domain_table.proofs.Ripening.{unripe_view}
use Rattle.domain_table.proofs.table.Table.ripen.Goals as goal

pub returns-else-has_ripe-clause-ok : goal.returns-else-has_ripe-clause-ok
returns-else-has_ripe-clause-ok c =
    sym (unripe_view c.self.inside.rows.entries c.args.self.now c.args.epoch c.self.invariant.are c.self.view_is (sym c.has_ripe.ensures ∙ c.if-has_ripe.false))
