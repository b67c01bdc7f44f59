use Rattle.std.proofs.Common.{rules, nat_eq}
use Rattle.once_list.proofs.First.{pushed}
use Rattle.once_list.proofs.list.OnceList.push.Goals as goal

pub invariant_of-self : goal.invariant_of-self
invariant_of-self g c = (
  search rules,
  search rules,
  λ k.
      let more = pushed (λ item. nat_eq k (g.T.Printed.print item)) c.self.inside.items.items c.args.item in
      let noted = c.note.ensures.index k in
      let index = c.self.invariant.2 k in
      search (rules, more, noted, index, c.print.ensures, c.len-place.ensures, c.push_reserved.ensures.items),
)
