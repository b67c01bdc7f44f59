use Rattle.std.proofs.Common.{◌≡◌, Ok, false, subst, sym, ◌∙◌, ap, ◌++◌, ◌∷◌, [], List}
use Rattle.ar_cert.specs.Changes.{Change}
use Rattle.log_core.specs.State.{CoreState}
use Rattle.log_core.specs.Submit.{submit_judged}
use Rattle.log_core.proofs.Submitted.{enqueued-keeps, may-enqueue}
use Rattle.log_core.proofs.log_core.LogCore.enqueue.Goals as goal

pub endorsed-requires : goal.endorsed-requires
endorsed-requires c =
    let was : CoreState = record { log = c.self.inside.log.state; keys = c.self.inside.log.keys; queue = c.self.inside.queue.items; signature_len = c.self.inside.signature_len } in
    let judged : submit_judged was c.args.change ≡ Ok false = subst (λ (s : CoreState). submit_judged s c.args.change ≡ Ok false) (sym c.self.view_is) c.requires in
    may-enqueue was c.args.change false c.self.invariant judged

pub invariant_of-self-2 : goal.invariant_of-self-2
invariant_of-self-2 c =
    let was : CoreState = record { log = c.self.inside.log.state; keys = c.self.inside.log.keys; queue = c.self.inside.queue.items; signature_len = c.self.inside.signature_len } in
    let judged : submit_judged was c.args.change ≡ Ok false = subst (λ (s : CoreState). submit_judged s c.args.change ≡ Ok false) (sym c.self.view_is) c.requires in
    enqueued-keeps was c.args.change c.endorsed.new.self c.push_reserved.new.self.items c.self.invariant c.told.ensures judged c.in_ok-endorsed.ensures.ok
    (c.push_reserved.ensures.items ∙ ap (λ (q : List Change). q ++ c.args.change ∷ []) c.in_ok-reserve.ensures.items)
