use Rattle.std.proofs.Common.{◌||◌, sym, ap, ◌∙◌}
use Rattle.domain_table.proofs.Ripening.{ripe_in, ripe_in_all}
use Rattle.domain_table.proofs.ripe_rows.some_ripe.Goals as goal

pub loop-row-init : goal.loop-row-init
loop-row-init c = ap (ripe_in c.args.epoch) (c.into_iter-row-iterator.ensures.into_iter_gives ∙ c.values-row-items.ensures.rest) ∙ ripe_in_all c.args.epoch c.args.rows.now.entries

pub loop-row-preserved : goal.loop-row-preserved
loop-row-preserved c =
    sym (ap (λ b. b || ripe_in c.args.epoch c.next.new.self) (sym c.is_ripe.ensures ∙ c.if-is_ripe.false))
    ∙ ap (ripe_in c.args.epoch) (sym c.in-Some.ensures.steps)
    ∙ c.loop-row.invariant

pub returns-then-is_ripe : goal.returns-then-is_ripe
returns-then-is_ripe c =
    sym (ap (λ b. b || ripe_in c.args.epoch c.next.new.self) (sym c.is_ripe.ensures ∙ c.if-is_ripe.true))
    ∙ ap (ripe_in c.args.epoch) (sym c.in-Some.ensures.steps)
    ∙ c.loop-row.invariant
