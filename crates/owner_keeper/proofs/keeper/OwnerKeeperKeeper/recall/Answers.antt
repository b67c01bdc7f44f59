use Rattle.std.proofs.Common.{◌≡◌, Ok, sym, subst, ◌∙◌}
use Rattle.owner_keeper.specs.Keeping.{OwnerStanding, order_row}
use Rattle.owner_keeper.specs.Texts.{kept_order}
use Rattle.owner_keeper.proofs.Counted.{authorities_kept}
use Rattle.owner_keeper.proofs.Told.{said}
use Rattle.owner_keeper.proofs.keeper.OwnerKeeperKeeper.recall.Goals as goal

pub invariant_of-self : goal.invariant_of-self
invariant_of-self c = c.self.invariant ∙ sym (authorities_kept c.self.inside.knowing c.act.new.self c.in-Ok.order c.act.result c.act.ensures)

pub returns-in-Ok-act-clause-taken : goal.returns-in-Ok-act-clause-taken
returns-in-Ok-act-clause-taken c = record {
  order = c.in-Ok.order;
  says = said (kept_order c.args.text.now) c.in-Ok.order c.in-Ok.ensures;
  answer = subst (λ (p : OwnerStanding). order_row p c.in-Ok.order ≡ Ok (c.in-Ok-act.reply, c.act.new.self)) c.self.view_is c.in-Ok-act.ensures;
}
