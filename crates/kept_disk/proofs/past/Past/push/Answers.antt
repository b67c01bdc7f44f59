use Rattle.std.proofs.Common.{sym, arith}
use Rattle.kept_disk.proofs.Events.{grown, pushed}
use Rattle.kept_disk.proofs.past.Past.push.Goals as goal

pub invariant_of-self : goal.invariant_of-self
invariant_of-self c =
    let more = grown c.self.inside.changes.items _ c.self.inside.over.items _ c.args.change c.args.bytes.now
    c.append_both.ensures.changes c.append_both.ensures.over c.self.invariant.0 c.requires.over in (
      more.0,
      omega (arith, c.append_both.ensures.changes_len, c.append_both.ensures.changes_capacity, c.requires.free, c.self.invariant.1),
      omega (arith, c.append_both.ensures.over_len, c.append_both.ensures.over_capacity, c.requires.room, c.self.invariant.2),
    )

pub returns : goal.returns
returns c =
    let more = grown c.self.inside.changes.items _ c.self.inside.over.items _ c.args.change c.args.bytes.now
    c.append_both.ensures.changes c.append_both.ensures.over c.self.invariant.0 c.requires.over in
    pushed c.args.self.now _ _ _ _ _ _ (sym c.self.view_is) more.1
