use Rattle.authority_core.specs.State.{AuthorityState}
use Rattle.authority_core.proofs.Rows.{learnt-keeps}
use Rattle.authority_core.proofs.state.AuthorityState.roll_note.Goals as goal

pub invariant_of-self : goal.invariant_of-self
invariant_of-self c =
    let s : AuthorityState = record { me = c.self.inside.me; keys = c.self.inside.keys; signature_len = c.self.inside.signature_len; past = c.self.inside.past } in
    learnt-keeps s c.learn.result c.learn.new.self c.learn.new.keys c.args.announced.now c.self.invariant c.learn.ensures

pub invariant_of-self-2 : goal.invariant_of-self-2
invariant_of-self-2 c =
    let s : AuthorityState = record { me = c.self.inside.me; keys = c.self.inside.keys; signature_len = c.self.inside.signature_len; past = c.self.inside.past } in
    learnt-keeps s c.learn.result c.learn.new.self c.learn.new.keys c.args.announced.now c.self.invariant c.learn.ensures
