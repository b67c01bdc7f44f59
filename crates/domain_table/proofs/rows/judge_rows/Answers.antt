use Rattle.std.proofs.Common.{◌≡◌, ◌<◌, length, get_or, sym, ◌∙◌, subst, Some}
use Rattle.std.specs.FinMap.{get}
use Rattle.domain_table.specs.declared.row.Row.{Row}
use Rattle.domain_table.specs.Tables.{newest, chain_of}
use Rattle.domain_table.specs.Applying.{ripen, manner_of}
use Rattle.domain_table.specs.Rows.{IsMarked, RowData, data_in, data_of, table_of, newest_at, pending_at}
use Rattle.domain_table.proofs.ByName.{missing_found, of_row}
use Rattle.domain_table.proofs.Places.{one_of}
use Rattle.domain_table.proofs.RipeRows.{judged_row, judged_none}
use Rattle.domain_table.proofs.rows.judge_rows.Goals as goal

pub judge_next-requires : goal.judge_next-requires
judge_next-requires c =
    let es = c.args.rows.now.entries in
    let l = c.in-Some.ensures.found.0 in
    let d = one_of es c.in-Some.i l in
    subst (λ (r : Row). 0 < length r.chain.items) (sym (c.row_at.ensures d)) (of_row IsMarked es c.requires.marked c.in-Some.i d l).some

pub returns-in-Some : goal.returns-in-Some
returns-in-Some c =
    let es = c.args.rows.now.entries in
    let t = ripen (table_of (data_in es)) c.args.epoch in
    let l = c.in-Some.ensures.found.0 in
    let d = one_of es c.in-Some.i l in
    let e = get_or es c.in-Some.i d in
    let both =
    of_row (λ (r : RowData). (newest (chain_of t r.name) ≡ newest_at c.args.epoch (Some r)) × (get t.waiting r.name ≡ pending_at c.args.epoch (Some r))) es
    (λ k r m. judged_row (data_in es) c.args.epoch k r c.requires.rise m) c.in-Some.i d l in
    let name : e.0.items ≡ c.args.change.now.cert.name = c.in-Some.ensures.found.1 d ∙ c.name_of.ensures in
    c.judge_next.ensures e.0
    ∙ (λ k. manner_of (newest_at c.args.epoch (Some (data_of (e.0, c.row_at.ensures d k)))) (pending_at c.args.epoch (Some (data_of (e.0, c.row_at.ensures d k)))) c.args.change.now)
    ∙ (λ k. manner_of (sym both.0 k) (sym both.1 k) c.args.change.now)
    ∙ (λ k. manner_of (newest (chain_of t (name k))) (get t.waiting (name k)) c.args.change.now)

pub returns-in-None : goal.returns-in-None
returns-in-None c =
    let es = c.args.rows.now.entries in
    let t = ripen (table_of (data_in es)) c.args.epoch in
    let both = judged_none (data_in es) c.args.epoch c.name_of.result.now (missing_found es c.name_of.result.now c.in-None.ensures.absent) in
    c.judge_first.ensures
    ∙ (λ k. manner_of (sym both.0 k) (sym both.1 k) c.args.change.now)
    ∙ (λ k. manner_of (newest (chain_of t (c.name_of.ensures k))) (get t.waiting (c.name_of.ensures k)) c.args.change.now)
