use Rattle.std.proofs.Common.{rules, [], ◌∷◌, ap, inr, length-append, arith}
use Rattle.ar_base.specs.Gives.{with_error}
use Rattle.ar_lines.specs.declared.refusal.LineFault.TheVariants.{Refused}
use Rattle.arpki_ask.proofs.KeyLines.{key_more, key_gives_up, keys_all}
use Rattle.arpki_ask.proofs.readers.keys.Goals as goal

pub loop-preserved : goal.loop-preserved
loop-preserved c = record {
  reads = rw c.in_ok-push.ensures.items (key_more c.loop.keys.items c.args.count c.loop.counter c.loop.lines c.key.new.lines c.in_ok-next.next _ c.loop-test.true c.in_ok-next.ensures c.loop.invariant.reads);
  len = rw c.in_ok-push.ensures.items (omega (arith, length-append c.loop.keys.items (c.in_ok-next.next ∷ []), c.loop.invariant.len));
}

pub returns-in_err-next-clause-tells : goal.returns-in_err-next-clause-tells
returns-in_err-next-clause-tells c =
    let fails = key_gives_up c.loop.keys.items c.args.count c.loop.counter c.loop.lines (Refused c.in_err-next.field-0.0) _ c.loop-test.true (inr (ap (with_error Refused) c.in_err-next.ensures)) c.loop.invariant.reads in
    search (rules, fails)

pub returns-clause-tells : goal.returns-clause-tells
returns-clause-tells c = ap (with_error Refused) (keys_all c.loop.keys.items c.args.count c.loop.counter c.loop.lines _ c.loop-test.false c.loop.invariant.reads)
