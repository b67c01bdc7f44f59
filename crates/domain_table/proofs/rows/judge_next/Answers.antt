use Rattle.std.proofs.Common.{◌≡◌, None, ◌∙◌, sym, ap, length, arith}
use Rattle.std.specs.Option.{option_map}
use Rattle.domain_table.specs.Tables.{newest}
use Rattle.domain_table.proofs.Newest.{none_there}
use Rattle.domain_table.proofs.rows.judge_next.Goals as goal

pub unreachable-requires-in_default-newest : goal.unreachable-requires-in_default-newest
unreachable-requires-in_default-newest c =
    let bare : newest c.args.row.now.chain.items ≡ None = ap newest (sym c.deref.ensures.value) ∙ sym c.newest.ensures ∙ ap (option_map (λ x. x.now.cert)) c.in_default-newest.is in
    let none = none_there c.args.row.now.chain.items bare in
    omega (arith, ap length none, c.requires)
