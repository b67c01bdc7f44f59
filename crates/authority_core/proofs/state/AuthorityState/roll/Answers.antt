use Rattle.authority_core.specs.State.{AuthorityState}
use Rattle.authority_core.proofs.Rows.{rolled-keeps}
use Rattle.authority_core.proofs.state.AuthorityState.roll.Goals as goal

pub invariant_of-self : goal.invariant_of-self
invariant_of-self c =
    let s : AuthorityState = record { me = c.self.inside.me; keys = c.self.inside.keys; signature_len = c.self.inside.signature_len; past = c.self.inside.past } in
    rolled-keeps s c.roll.result c.roll.new.self c.roll.new.keys c.args.next.now c.self.invariant c.key_told.ensures.text c.key_told.ensures.widths c.roll.ensures
