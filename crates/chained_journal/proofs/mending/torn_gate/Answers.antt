use Rattle.std.proofs.Common.{rules, ◌≡◌, drop, sym, ap, ◌∙◌}
use Rattle.chained_journal.proofs.Mended.{header_unmended, is_not_torn, is_torn, is_whole, load_refused}
use Rattle.chained_journal.proofs.mending.torn_gate.Goals as goal

pub returns-in-Err-clause-refused : goal.returns-in-Err-clause-refused
returns-in-Err-clause-refused c = header_unmended c.args.title.now c.args.file.now c.in-Err.fault c.in-Err.ensures.refused

pub returns-in-Err-load-clause-refused : goal.returns-in-Err-load-clause-refused
returns-in-Err-load-clause-refused c = load_refused c.args.title.now c.of_nothing-witness.result _ c.args.file.now c.in-Err-load.fault c.in-Err-load.ensures.refused c.in-Err-load.ensures.of_records

pub returns-then-is_shut_at-clause-ok : goal.returns-then-is_shut_at-clause-ok
returns-then-is_shut_at-clause-ok c = is_whole _ _ _ c.args.title.now c.of_nothing-witness.result c.args.file.now c.in-Ok.loaded.0 c.in-Ok.loaded.1 c.check_header.ensures.titled c.in-Ok.ensures.ok _ (c.is_shut_at.ensures.yes (search rules))

pub returns-then-not-is_whole_end-clause-refused : goal.returns-then-not-is_whole_end-clause-refused
returns-then-not-is_whole_end-clause-refused c =
    let same : drop 8 (drop c.in-Ok.loaded.0.end c.args.file.now) ≡ c.split_at-2.result.1.now = ap (drop 8) (sym c.split_at.ensures.back) ∙ sym c.split_at-2.ensures.back in
    is_not_torn _ _ _ c.args.title.now c.of_nothing-witness.result c.args.file.now c.in-Ok.loaded.0 c.in-Ok.loaded.1 c.check_header.ensures.titled c.in-Ok.ensures.ok (c.is_shut_at.ensures.no (search rules)) (λ text short e. c.is_whole_end.ensures.no (search rules) text short (sym same ∙ e))

pub returns-clause-ok : goal.returns-clause-ok
returns-clause-ok c =
    let end = c.is_whole_end.ensures.yes (search rules) in
    let same : drop 8 (drop c.in-Ok.loaded.0.end c.args.file.now) ≡ c.split_at-2.result.1.now = ap (drop 8) (sym c.split_at.ensures.back) ∙ sym c.split_at-2.ensures.back in
    is_torn _ _ _ c.args.title.now c.of_nothing-witness.result c.args.file.now c.in-Ok.loaded.0 c.in-Ok.loaded.1 c.check_header.ensures.titled c.in-Ok.ensures.ok (c.is_shut_at.ensures.no (search rules)) (end.0, end.1, same ∙ end.2)
