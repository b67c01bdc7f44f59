use Rattle.std.proofs.Common.{◌+◌, ◌++◌, ◌∷◌, [], sym, ap, ◌∙◌, arith, length-append, None, Some}
use Rattle.domain_table.specs.Applying.{taking_change, takes_a_place}
use Rattle.domain_table.specs.Rows.{RowData, data_in, table_of}
use Rattle.domain_table.proofs.ChangedRow.{name_there, waits_there}
use Rattle.domain_table.proofs.Taking.{MayTake, counted_in, fewer_wait, full_in, kept_in, may_take, objected_in, recovery_in}
use Rattle.domain_table.proofs.take.take_behind.Goals as goal

pub counted-requires-clause-waiting : goal.counted-requires-clause-waiting
counted-requires-clause-waiting c =
    counted_in c.args.rows.now.entries c.args.trie.now c.args.i c.row_at.result.now c.count_waiting-waits.result c.args.counts.kept c.args.counts.waiting c.requires.kept c.requires.place c.row_at.ensures c.count_waiting-waits.ensures

pub counted-requires-clause-kept : goal.counted-requires-clause-kept
counted-requires-clause-kept c = fewer_wait (data_in c.args.rows.now.entries) c.args.trie.now c.args.counts.kept c.args.counts.waiting c.requires.kept

pub counted-requires-in-Recovery-clause-waiting : goal.counted-requires-in-Recovery-clause-waiting
counted-requires-in-Recovery-clause-waiting c =
    counted_in c.args.rows.now.entries c.args.trie.now c.args.i c.row_at.result.now c.count_waiting-waits.result c.args.counts.kept c.args.counts.waiting c.requires.kept c.requires.place c.row_at.ensures c.count_waiting-waits.ensures

pub counted-requires-in-Recovery-clause-kept : goal.counted-requires-in-Recovery-clause-kept
counted-requires-in-Recovery-clause-kept c = fewer_wait (data_in c.args.rows.now.entries) c.args.trie.now c.args.counts.kept c.args.counts.waiting c.requires.kept

pub counted-requires-in-Objected-clause-waiting : goal.counted-requires-in-Objected-clause-waiting
counted-requires-in-Objected-clause-waiting c =
    counted_in c.args.rows.now.entries c.args.trie.now c.args.i c.row_at.result.now c.count_waiting-waits.result c.args.counts.kept c.args.counts.waiting c.requires.kept c.requires.place c.row_at.ensures c.count_waiting-waits.ensures

pub counted-requires-in-Objected-clause-kept : goal.counted-requires-in-Objected-clause-kept
counted-requires-in-Objected-clause-kept c = fewer_wait (data_in c.args.rows.now.entries) c.args.trie.now c.args.counts.kept c.args.counts.waiting c.requires.kept

pub returns-in_ok-append-in-Full-clause-kept : goal.returns-in_ok-append-in-Full-clause-kept
returns-in_ok-append-in-Full-clause-kept c =
    let d : RowData = record { name = []; chain = []; waiting = None; marks = c.row_at.result.now.marks } in
    let may : MayTake (table_of (data_in c.args.rows.now.entries)) c.args.change c.args.manner = may_take (table_of (data_in c.args.rows.now.entries)) c.args.change c.args.manner c.requires.judged in
    let room = may.room (ap takes_a_place c.in-Full.is) in
    kept_in c.args.rows.now.entries c.append.new.rows.entries c.args.trie.now c.append.new.trie c.args.i d (λ r. r.chain ++ c.args.change ∷ []) None
    c.args.counts.kept c.args.counts.waiting c.counted.result.kept c.counted.result.waiting c.count_waiting-waits.result 1 c.requires.kept c.requires.place (c.in_ok-append-in-Full.ensures.ok d)
    (waits_there c.args.rows.now.entries c.args.i c.row_at.result.now c.count_waiting-waits.result d c.requires.place c.row_at.ensures c.count_waiting-waits.ensures)
    (λ r. omega (arith, length-append r.chain (c.args.change ∷ []))) c.counted.ensures.kept c.counted.ensures.waiting (omega (arith, room, c.requires.kept.count))

pub returns-in_ok-append-in-Full-clause-ok : goal.returns-in_ok-append-in-Full-clause-ok
returns-in_ok-append-in-Full-clause-ok c =
    let d : RowData = record { name = []; chain = []; waiting = None; marks = c.row_at.result.now.marks } in
    full_in c.args.rows.now.entries c.append.new.rows.entries c.append.new.trie c.args.i d c.args.epoch c.args.change c.requires.place c.requires.kept.are
    (name_there c.args.rows.now.entries c.args.i c.args.change.cert.name d c.requires.place c.requires.name) (c.in_ok-append-in-Full.ensures.ok d)
    ∙ ap (taking_change (table_of (data_in c.args.rows.now.entries)) c.args.epoch c.args.change) (sym c.in-Full.is)

pub returns-in_ok-wait-in-Recovery-clause-kept : goal.returns-in_ok-wait-in-Recovery-clause-kept
returns-in_ok-wait-in-Recovery-clause-kept c =
    let d : RowData = record { name = []; chain = []; waiting = None; marks = c.row_at.result.now.marks } in
    let may : MayTake (table_of (data_in c.args.rows.now.entries)) c.args.change c.args.manner = may_take (table_of (data_in c.args.rows.now.entries)) c.args.change c.args.manner c.requires.judged in
    let room = may.room (ap takes_a_place c.in-Recovery.is) in
    kept_in c.args.rows.now.entries c.wait.new.rows.entries c.args.trie.now c.wait.new.trie c.args.i d (λ r. r.chain) (Some (record { change = c.args.change; since = c.args.epoch }))
    c.args.counts.kept c.args.counts.waiting c.counted-in-Recovery.result.kept c.counted-in-Recovery.result.waiting c.count_waiting-waits.result 0 c.requires.kept c.requires.place (c.in_ok-wait-in-Recovery.ensures.ok d)
    (waits_there c.args.rows.now.entries c.args.i c.row_at.result.now c.count_waiting-waits.result d c.requires.place c.row_at.ensures c.count_waiting-waits.ensures)
    (λ r. omega arith) c.counted-in-Recovery.ensures.kept c.counted-in-Recovery.ensures.waiting (omega (arith, room, c.requires.kept.count))

pub returns-in_ok-wait-in-Recovery-clause-ok : goal.returns-in_ok-wait-in-Recovery-clause-ok
returns-in_ok-wait-in-Recovery-clause-ok c =
    let d : RowData = record { name = []; chain = []; waiting = None; marks = c.row_at.result.now.marks } in
    recovery_in c.args.rows.now.entries c.wait.new.rows.entries c.wait.new.trie c.args.i d c.args.epoch c.args.change c.requires.place c.requires.kept.are
    (name_there c.args.rows.now.entries c.args.i c.args.change.cert.name d c.requires.place c.requires.name) (c.in_ok-wait-in-Recovery.ensures.ok d)
    ∙ ap (taking_change (table_of (data_in c.args.rows.now.entries)) c.args.epoch c.args.change) (sym c.in-Recovery.is)

pub returns-in_ok-wait-in-Objected-clause-kept : goal.returns-in_ok-wait-in-Objected-clause-kept
returns-in_ok-wait-in-Objected-clause-kept c =
    let d : RowData = record { name = []; chain = []; waiting = None; marks = c.row_at.result.now.marks } in
    kept_in c.args.rows.now.entries c.wait-in-Objected.new.rows.entries c.args.trie.now c.wait-in-Objected.new.trie c.args.i d (λ r. r.chain) None
    c.args.counts.kept c.args.counts.waiting c.counted-in-Objected.result.kept c.counted-in-Objected.result.waiting c.count_waiting-waits.result 0 c.requires.kept c.requires.place (c.in_ok-wait-in-Objected.ensures.ok d)
    (waits_there c.args.rows.now.entries c.args.i c.row_at.result.now c.count_waiting-waits.result d c.requires.place c.row_at.ensures c.count_waiting-waits.ensures)
    (λ r. omega arith) c.counted-in-Objected.ensures.kept c.counted-in-Objected.ensures.waiting (omega (arith, c.requires.kept.most))

pub returns-in_ok-wait-in-Objected-clause-ok : goal.returns-in_ok-wait-in-Objected-clause-ok
returns-in_ok-wait-in-Objected-clause-ok c =
    let d : RowData = record { name = []; chain = []; waiting = None; marks = c.row_at.result.now.marks } in
    objected_in c.args.rows.now.entries c.wait-in-Objected.new.rows.entries c.wait-in-Objected.new.trie c.args.i d c.args.epoch c.args.change c.requires.place c.requires.kept.are
    (name_there c.args.rows.now.entries c.args.i c.args.change.cert.name d c.requires.place c.requires.name) (c.in_ok-wait-in-Objected.ensures.ok d)
    ∙ ap (taking_change (table_of (data_in c.args.rows.now.entries)) c.args.epoch c.args.change) (sym c.in-Objected.is)
