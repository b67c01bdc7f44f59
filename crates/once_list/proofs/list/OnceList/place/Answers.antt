use Rattle.std.proofs.Common.{◌≡◌, ◌∙◌, ap, sym, rules, nat_eq, position, Some, None, eq-eqb}
use Rattle.once_list.proofs.First.{begins, neither}
use Rattle.once_list.proofs.list.OnceList.place.Goals as goal

pub walk-requires : goal.walk-requires
walk-requires g c =
    let sought = c.args.sought.now in
    let print = g.T.Printed.print in
    let printed = g.T.Printed.sought_print sought in
    let items = c.self.inside.items.items in
    let index = c.self.invariant.2 printed in
    let has : position (λ item. nat_eq printed (print item)) items ≡ Some c.in-Some.first.now = search (rules, index, c.sought_print.ensures, c.in-Some.ensures.value) in
    let first = begins (g.T.Printed.same sought) (λ item. nat_eq printed (print item)) (λ item same. eq-eqb printed (print item) (g.met.T.Printed.alike sought item same)) items c.in-Some.first.now has in
    search (rules, first, c.deref.ensures.value)

pub returns-in-None : goal.returns-in-None
returns-in-None g c =
    let sought = c.args.sought.now in
    let print = g.T.Printed.print in
    let printed = g.T.Printed.sought_print sought in
    let items = c.self.inside.items.items in
    let index = c.self.invariant.2 printed in
    let has : position (λ item. nat_eq printed (print item)) items ≡ None = search (rules, index, c.sought_print.ensures, c.in-None.ensures.value) in
    let none = neither (g.T.Printed.same sought) (λ item. nat_eq printed (print item)) (λ item same. eq-eqb printed (print item) (g.met.T.Printed.alike sought item same)) items has in
    sym none ∙ ap (λ l. position (g.T.Printed.same sought) l.items) c.self.view_is
