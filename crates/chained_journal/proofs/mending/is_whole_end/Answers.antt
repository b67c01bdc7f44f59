use Rattle.std.proofs.Common.{◌≡◌, [], length, ap, arith}
use Rattle.chained_journal.specs.Journal.{shut_gate}
use Rattle.chained_journal.proofs.Mended.{not_whole_end}
use Rattle.chained_journal.proofs.mending.is_whole_end.Goals as goal

pub returns-then-record-eq-GATE_LEN-clause-no : goal.returns-then-record-eq-GATE_LEN-clause-no
returns-then-record-eq-GATE_LEN-clause-no c = λ is text short e. c.begins.ensures.no is [] (not_whole_end c.args.chain.now c.args.bytes.now text c.in-Some.record.0.now c.in-Some.record.1.now c.in-Some.ensures.whole.2 c.in-Some.ensures.whole.0 short e)

pub returns-else-record-eq-GATE_LEN-clause-no : goal.returns-else-record-eq-GATE_LEN-clause-no
returns-else-record-eq-GATE_LEN-clause-no c = λ is text short e.
    let same : c.in-Some.record.1.now ≡ shut_gate = not_whole_end c.args.chain.now c.args.bytes.now text c.in-Some.record.0.now c.in-Some.record.1.now c.in-Some.ensures.whole.2 c.in-Some.ensures.whole.0 short e in
    absurd (omega (arith, ap length same, c.if-record-eq-GATE_LEN.false))
