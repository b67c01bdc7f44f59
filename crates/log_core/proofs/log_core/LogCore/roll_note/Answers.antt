-- The core behind the step is the row's, whether or not the key is learnt.
use Rattle.std.proofs.Common.{◌≡◌, ap, ◌∙◌}
use Rattle.party_keys.specs.Learning.{Announced}
use Rattle.log_core.specs.State.{CoreState}
use Rattle.log_core.specs.Steps.{noted}
use Rattle.log_core.proofs.Stepping.{note-keeps, note-step}
use Rattle.log_core.proofs.log_core.LogCore.roll_note.Goals as goal

pub invariant_of-self : goal.invariant_of-self
invariant_of-self c =
    note-keeps (record { log = c.self.inside.log.state; keys = c.self.inside.log.keys; queue = c.self.inside.queue.items; signature_len = c.self.inside.signature_len })
    c.args.announced.now
    c.learn-learned.result c.learn-learned.new.self c.self.invariant c.learn-learned.ensures.answer c.learn-learned.ensures.ok c.learn-learned.ensures.err

pub returns : goal.returns
returns c =
    let was : CoreState = record { log = c.self.inside.log.state; keys = c.self.inside.log.keys; queue = c.self.inside.queue.items; signature_len = c.self.inside.signature_len } in
    let told : c.noted.result ≡ noted c.learn-learned.result c.args.announced.now.party c.args.announced.now.generation =
    c.noted.ensures ∙ ap (λ (a : Announced). noted c.learn-learned.result a.party a.generation) c.announced.view_is in
    let step = note-step was c.args.announced.now
    c.learn-learned.result c.learn-learned.new.self c.noted.result told c.learn-learned.ensures.answer c.learn-learned.ensures.ok c.learn-learned.ensures.err in
    rw (← c.self.view_is) step
