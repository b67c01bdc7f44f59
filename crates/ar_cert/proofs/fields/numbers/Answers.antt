use Rattle.std.proofs.Common.{◌≡◌, ◌*◌, List, ℕ, length, take, Ok, subst, sym, ap, ◌∙◌, arith}
use Rattle.std.proofs.lemmas.List.{length-take}
use Rattle.ar_bytes.specs.Ascending.{numbers_text}
use Rattle.ar_cert.specs.Lists.{numbers_in}
use Rattle.ar_base.specs.Bytes.{AreBytes}
use Rattle.ar_cert.proofs.Numbers.{numbers_here}
use Rattle.ar_cert.proofs.fields.numbers.Goals as goal

pub slice_bounds-result-end : goal.slice_bounds-result-end
slice_bounds-result-end c =
    let are = subst AreBytes c.left-left.ensures c.are_bytes.ensures in
    let read = c.in_ok-check_ascending.ensures.ok in
    let here = numbers_here c.args.count c.args.fields.now c.check_ascending.new.fields read.0 are read.1 in
    omega (arith, here.0, ap length c.left-left.ensures, length-take (2 * c.args.count) c.left-left.result.now)

pub returns-clause-tells : goal.returns-clause-tells
returns-clause-tells c =
    let are = subst AreBytes c.left-left.ensures c.are_bytes.ensures in
    let read = c.in_ok-check_ascending.ensures.ok in
    let here = numbers_here c.args.count c.args.fields.now c.check_ascending.new.fields read.0 are read.1 in
    let front = ap (take (2 * c.args.count)) c.left-left.ensures ∙ here.1 in
    let numbers : numbers_in (take (2 * c.args.count) c.left-left.result.now) ≡ read.0 = ap numbers_in front ∙ here.2 in
    read.1 ∙ ap (λ (ns : List ℕ). Ok (ns, c.check_ascending.new.fields)) (sym numbers)

pub returns-clause-numbers : goal.returns-clause-numbers
returns-clause-numbers c =
    let are = subst AreBytes c.left-left.ensures c.are_bytes.ensures in
    let read = c.in_ok-check_ascending.ensures.ok in
    let here = numbers_here c.args.count c.args.fields.now c.check_ascending.new.fields read.0 are read.1 in
    let front = ap (take (2 * c.args.count)) c.left-left.ensures ∙ here.1 in
    ap (λ (bytes : List ℕ). numbers_text (numbers_in bytes)) front ∙ ap numbers_text here.2 ∙ sym front
