use Rattle.std.proofs.Common.{ap}
use Rattle.domain_table.specs.Rows.{by_name, data_in}
use Rattle.domain_table.proofs.Ripening.{kept_ripe}
use Rattle.domain_table.proofs.table.Table.ripened.Goals as goal

pub invariant_of-result : goal.invariant_of-result
invariant_of-result c =
    kept_ripe (data_in c.self.inside.rows.entries) (data_in c.in_ok-rows.rows.entries) (data_in c.ripen_rows.new.rows.entries) c.self.inside.trie c.ripen_rows.new.trie c.self.inside.kept c.self.inside.waiting c.in_ok-waiting.waiting c.args.epoch
    c.self.invariant (ap by_name c.in_ok-rows.ensures) c.in_ok-waiting.ensures.are c.in_ok-waiting.ensures.tree c.in_ok-waiting.ensures.ripe c.in_ok-waiting.ensures.wait
