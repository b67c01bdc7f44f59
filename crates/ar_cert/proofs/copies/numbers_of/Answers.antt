use Rattle.ar_cert.proofs.Numbers.{numbers_more, numbers_all}
use Rattle.ar_cert.proofs.copies.numbers_of.Goals as goal

pub loop-i-preserved : goal.loop-i-preserved
loop-i-preserved c = rw (c.in_ok-push.ensures.items, c.from_be_bytes.ensures) (numbers_more c.loop-i.numbers.items c.args.bytes.now c.loop-i.i _ c.loop-i-test.true c.loop-i.invariant)

pub returns : goal.returns
returns c = numbers_all c.loop-i.numbers.items c.args.bytes.now c.loop-i.i _ c.loop-i-test.false c.loop-i.invariant
