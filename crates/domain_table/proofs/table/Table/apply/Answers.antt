use Rattle.std.proofs.Common.{◌≡◌, sym, ap, ◌∙◌, Some}
use Rattle.std.proofs.lemmas.Result.{on_ok_weaker}
use Rattle.domain_table.specs.Applying.{judge_ripe, taking_change}
use Rattle.domain_table.specs.Rows.{data_in, table_of}
use Rattle.domain_table.proofs.Ripening.{apply_one, judged_view, unripe_view}
use Rattle.domain_table.proofs.table.Table.apply.Goals as goal

pub take_judged-requires : goal.take_judged-requires
take_judged-requires c =
    ap (λ t. judge_ripe t c.args.change)
    (sym (unripe_view c.self.inside.rows.entries c.args.self.now c.args.epoch c.self.invariant.are c.self.view_is (sym c.has_ripe.ensures ∙ c.if-not-has_ripe.true)))
    ∙ judged_view c.args.self.now (table_of (data_in c.self.inside.rows.entries)) c.args.epoch c.args.change c.in-Ok.manner c.judged.result c.self.view_is c.judged.ensures c.in-Ok.is

pub returns-then-not-has_ripe-clause-ok : goal.returns-then-not-has_ripe-clause-ok
returns-then-not-has_ripe-clause-ok c =
    let judged = judged_view c.args.self.now (table_of (data_in c.self.inside.rows.entries)) c.args.epoch c.args.change c.in-Ok.manner c.judged.result c.self.view_is c.judged.ensures c.in-Ok.is in
    let unripe = unripe_view c.self.inside.rows.entries c.args.self.now c.args.epoch c.self.invariant.are c.self.view_is (sym c.has_ripe.ensures ∙ c.if-not-has_ripe.true) in
    on_ok_weaker c.take_judged.result
    (λ (is : c.take_judged.new.self ≡ taking_change c.args.self.now c.args.epoch c.args.change c.in-Ok.manner).
    ap (λ t. Some t) (is ∙ ap (λ t. taking_change t c.args.epoch c.args.change c.in-Ok.manner) (sym unripe)) ∙ sym (apply_one c.args.self.now c.args.epoch c.args.change c.in-Ok.manner judged))
    c.take_judged.ensures.ok

pub returns-clause-ok : goal.returns-clause-ok
returns-clause-ok c =
    let judged = judged_view c.args.self.now (table_of (data_in c.self.inside.rows.entries)) c.args.epoch c.args.change c.in-Ok.manner c.judged.result c.self.view_is c.judged.ensures c.in-Ok.is in
    ap (λ t. Some t) (c.ripe.view_is ∙ c.in_ok-take_judged.ensures.ok ∙ ap (λ t. taking_change t c.args.epoch c.args.change c.in-Ok.manner) c.in-Ok-ripened.ensures)
    ∙ sym (apply_one c.args.self.now c.args.epoch c.args.change c.in-Ok.manner judged)
