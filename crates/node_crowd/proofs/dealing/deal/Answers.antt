use Rattle.std.proofs.Common.{rules, ◌-◌, ◌<◌, arith}
use Rattle.std.specs.List.{AllZip}
use Rattle.node_crowd.specs.Stalls.{CanBeSplit, IsIdle}
use Rattle.node_crowd.proofs.RowsLemmas.{deals_shares, rows_more}
use Rattle.node_crowd.proofs.StallsLemmas.{base_idle, row_idle, split_left, wide_once}
use Rattle.node_crowd.proofs.dealing.deal.Goals as goal

pub loop-preserved : goal.loop-preserved
loop-preserved g c = (
  base_idle (λ booth. booth.node) c.args.booths.now _ _ _ c.in_ok-row.ensures.split,
  search rules,
  rows_more (λ row. row.stalls.items) (λ stalls. AllZip (λ booth stall. IsIdle booth.node stall) c.args.booths.now stalls) c.loop.rows.items _ c.in_ok-row.row (search rules)
      (row_idle (λ booth. booth.node) c.args.booths.now _ _ _ c.in_ok-row.ensures.split) c.loop.invariant.2,
  deals_shares (λ booth. booth.node) (λ row. row.stalls.items) c.args.booths.now c.args.base.now c.loop.base c.deal_row.new.base c.loop.rows.items _ c.in_ok-row.row (search rules) c.in_ok-row.ensures.split
      c.loop.invariant.3,
  λ wide. split_left (λ booth. booth.node) c.args.workers c.loop.counter c.args.booths.now _ _ _ (search rules) c.in_ok-row.ensures.split (c.loop.invariant.4 wide),
)

pub returns-in_err-row-clause-narrow : goal.returns-in_err-row-clause-narrow
returns-in_err-row-clause-narrow g c = λ wide.
    let lt : c.loop.counter < c.args.workers = search rules in
    let once : CanBeSplit 1 c.loop.base = wide_once (c.args.workers - c.loop.counter) c.loop.base (omega (arith, lt)) (c.loop.invariant.4 wide) in
    let memory = c.in_err-row.ensures.narrow once in
    search rules
