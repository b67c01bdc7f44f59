use Rattle.std.proofs.Common.{rules, ◌+◌, ℕ, Bool, arith, subst, sym}
use Rattle.chained_journal.proofs.Loading.{IsReading, few_read, is_not_taken, of_records, reads_on, replay_refused}
use Rattle.chained_journal.proofs.reading.load.Goals as goal

pub overflow_add-count : goal.overflow_add-count
overflow_add-count g c =
    let few = few_read g.P.Replay.takes c.args.title.now c.args.witness.now.count c.args.file.now c.args.party.now c.loop-ahead.party c.loop-ahead.rest.now c.loop-ahead.end c.loop-ahead.count c.loop-ahead.chain c.loop-ahead.at_witness c.loop-ahead.invariant in
    let fits = c.loop-ahead.auto.end-fits in
    omega (arith, few, fits)

pub loop-ahead-preserved : goal.loop-ahead-preserved
loop-ahead-preserved g c =
    let text = c.in-Some-record_in.record.0.now in
    let behind = c.in-Some-record_in.record.1.now in
    let taken : g.P.Replay.takes c.loop-ahead.party c.in-Some-record_in.record.0.now c.is_open.result c.replay_at.new.party = search rules in
    let step = subst (λ (b : Bool). g.P.Replay.takes c.loop-ahead.party text b c.replay_at.new.party) c.is_open.ensures taken in
    subst (λ (n : ℕ). IsReading g.P.Replay.takes c.args.title.now c.args.witness.now.count c.args.file.now c.args.party.now c.replay_at.new.party behind (c.loop-ahead.end + (8 + n)) (c.loop-ahead.count + 1) c.in-Some-record_in.record.2 c.noted-at_witness.result)
    (sym c.record_len.ensures)
    (reads_on g.P.Replay.takes c.args.title.now c.args.witness.now.count c.args.file.now c.args.party.now c.loop-ahead.party c.replay_at.new.party c.loop-ahead.rest.now c.in-Some.ahead.now text behind c.loop-ahead.end c.loop-ahead.count
    c.loop-ahead.chain c.in-Some-record_in.record.2 c.loop-ahead.at_witness c.noted-at_witness.result c.loop-ahead.invariant c.in-Some.ensures.open c.in-Some-record_in.ensures.whole.0 c.in-Some-record_in.ensures.whole.1
    c.in-Some-record_in.ensures.whole.2 c.in-Some-record_in.ensures.whole.3 c.noted-at_witness.ensures.below c.noted-at_witness.ensures.beyond step)

pub returns-in-Err-clause-refused : goal.returns-in-Err-clause-refused
returns-in-Err-clause-refused g c =
    replay_refused g.P.Replay.takes c.args.title.now c.args.witness.now c.args.file.now c.args.party.now c.in-Err.fault c.loop-ahead.end _ c.in-Err.ensures.refused
    (λ stuck. is_not_taken g.P.Replay.takes c.args.title.now c.args.witness.now.count c.args.file.now c.args.party.now c.loop-ahead.party c.loop-ahead.rest.now c.in-Some.ahead.now c.in-Some-record_in.record.0.now c.in-Some-record_in.record.1.now
    c.loop-ahead.end c.loop-ahead.count c.loop-ahead.chain c.loop-ahead.at_witness c.loop-ahead.invariant c.in-Some.ensures.open c.in-Some-record_in.ensures.whole.0 c.in-Some-record_in.ensures.whole.1 c.in-Some-record_in.ensures.whole.2
    (subst (λ (b : Bool). (later : g.row.P.Denot) → ¬ g.P.Replay.takes c.loop-ahead.party c.in-Some-record_in.record.0.now b later) c.is_open.ensures stuck))

pub returns-in-Err-clause-of_records : goal.returns-in-Err-clause-of_records
returns-in-Err-clause-of_records g c = of_records c.in-Err.fault c.loop-ahead.end _ c.in-Err.ensures.refused
