use Rattle.std.proofs.Common.{rules, ◌≡◌, true, false, Ok, ap, codes}
use Rattle.ar_base.specs.Gives.{with_error}
use Rattle.ar_lines.specs.Rows.{is_next}
use Rattle.ar_lines.specs.declared.refusal.LineFault.TheVariants.{Refused}
use Rattle.review.specs.Follows.{link_at, most_link_lines}
use Rattle.review.proofs.LinkLines.{link_gives_up, link_more, links_all, no_link}
use Rattle.review.proofs.follows.links.Goals as goal

pub loop-preserved : goal.loop-preserved
loop-preserved c =
    let read : link_at c.loop.lines ≡ Ok (c.in_ok-next.next, c.link.new.lines) = search rules in
    let is : is_next (codes "link") c.loop.lines ≡ true = search rules in
    rw c.in_ok-push.ensures.items (link_more most_link_lines c.loop.counter c.loop.links.items c.in_ok-next.next c.loop.lines c.link.new.lines _ c.loop-test.true is read c.loop.invariant)

pub returns-in_err-next : goal.returns-in_err-next
returns-in_err-next c =
    let is : is_next (codes "link") c.loop.lines ≡ true = search rules in
    let fails = link_gives_up most_link_lines c.loop.counter c.loop.links.items c.loop.lines c.in_err-next.field-0.0 _ c.loop-test.true is c.in_err-next.ensures c.loop.invariant in
    search (rules, fails)

pub returns-then-not-is_next : goal.returns-then-not-is_next
returns-then-not-is_next c =
    let no_more : is_next (codes "link") c.loop.lines ≡ false = search rules in
    ap (with_error Refused) (no_link most_link_lines c.loop.counter c.loop.links.items c.loop.lines _ c.loop-test.true no_more c.loop.invariant)

pub returns : goal.returns
returns c = ap (with_error Refused) (links_all most_link_lines c.loop.counter c.loop.links.items c.loop.lines _ c.loop-test.false c.loop.invariant)
