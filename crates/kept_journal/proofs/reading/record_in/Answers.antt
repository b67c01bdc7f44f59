use Rattle.kept_journal.proofs.Rereading.{record_is}
use Rattle.kept_journal.proofs.reading.record_in.Goals as goal

pub returns-clause-whole : goal.returns-clause-whole
returns-clause-whole c =
    record_is c.args.bytes.now c.in_ok-text.text.now c.left.result.now c.in_ok-len.len c.new-fields.result c.u32.new.self c.bytes.new.self c.at_end.result
    c.are_bytes.ensures c.new-fields.ensures c.in_ok-len.ensures.field c.in_ok-text.ensures.field c.at_end.ensures c.if-at_end.false c.left.ensures
