use Rattle.std.proofs.Common.{rules, ◌≡◌, ap, ◌∙◌}
use Rattle.serve_run.proofs.Rows.{taken_next}
use Rattle.serve_run.proofs.weaving.take_next.Goals as goal

pub returns : goal.returns
returns c =
    taken_next (λ r. r.items) c.args.rows.now c.args.row c.index-rows-row.result c.pop_front.new.self c.pop_front.result c.requires c.index-rows-row.is
    (ap (λ r. r.items) c.index-rows-row.is ∙ c.pop_front.ensures.items) (λ none. search rules)
