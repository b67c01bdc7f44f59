use Rattle.std.proofs.Common.{rules}
use Rattle.chained_journal.proofs.Recording.{few_bytes, no_record, short_text, whole_record}
use Rattle.chained_journal.proofs.reading.record_in.Goals as goal

pub returns-in_err-parts-clause-none : goal.returns-in_err-parts-clause-none
returns-in_err-parts-clause-none c = λ is. few_bytes c.args.chain.now c.args.bytes.now (c.in_err-parts.ensures.none (search rules))

pub returns-then-not-is_spelled-clause-none : goal.returns-then-not-is_spelled-clause-none
returns-then-not-is_spelled-clause-none c = λ is.
    no_record c.args.bytes.now c.in_ok-parts.parts.len.now c.in_ok-parts.parts.complement.now c.in_ok-parts.parts.text.now c.in_ok-parts.parts.filling.now c.in_ok-parts.parts.chain.now c.in_ok-parts.parts.behind.now
    c.in_ok-parts.ensures.parts c.are_bytes.ensures c.args.chain.now c.link-next.result c.link-next.ensures (c.is_spelled.ensures.no (search rules))

pub returns-clause-whole : goal.returns-clause-whole
returns-clause-whole c = (
  whole_record c.args.bytes.now c.in_ok-parts.parts.len.now c.in_ok-parts.parts.complement.now c.in_ok-parts.parts.text.now c.in_ok-parts.parts.filling.now c.in_ok-parts.parts.chain.now c.in_ok-parts.parts.behind.now
      c.in_ok-parts.ensures.parts c.are_bytes.ensures c.args.chain.now c.link-next.result c.link-next.ensures (c.is_spelled.ensures.yes (search rules)),
  c.in_ok-parts.ensures.parts.some,
  short_text c.args.bytes.now c.in_ok-parts.parts.len.now c.in_ok-parts.parts.complement.now c.in_ok-parts.parts.text.now c.in_ok-parts.parts.filling.now c.in_ok-parts.parts.chain.now c.in_ok-parts.parts.behind.now
      c.in_ok-parts.ensures.parts c.are_bytes.ensures,
  c.link-next.ensures,
)
