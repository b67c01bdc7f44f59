use Rattle.std.proofs.Common.{rules, ◌≡◌, ◌++◌, ◌∷◌, [], Some, Ok, Err, refl, subst}
use Rattle.lms_tree.specs.Key.{public_of}
use Rattle.lms_tree.specs.KeyParts.{KeyParts}
use Rattle.log_core.specs.Row.{row}
use Rattle.log_core.specs.State.{rolls}
use Rattle.ar_nodes.specs.Acting.{log_does}
use Rattle.ar_nodes.specs.Parties.{next_of}
use Rattle.ar_nodes.specs.Parties.{LogNode}
use Rattle.ar_nodes.specs.declared.event.LogEvent.TheVariants as events
use Rattle.ar_nodes.specs.declared.fault.WorldFault.TheVariants.{Memory}
use Rattle.ar_nodes.proofs.Nodes.{has_more, log-of, log_rolled_so, log_stayed, log_waited}
use Rattle.ar_nodes.proofs.parties.HonestLog.roll.Goals as goal

pub invariant_of-self-in-Ok : goal.invariant_of-self-in-Ok
invariant_of-self-in-Ok c = has_more c.self.inside.log.ring.keys c.roll.new.self.ring.keys c.self.invariant c.in-Ok.ensures.ok

pub returns-in-Ok-clause-row : goal.returns-in-Ok-clause-row
returns-in-Ok-clause-row c =
    let old : LogNode = log-of c.self.inside.log.core c.self.inside.log.ring.keys c.self.inside.taken.items
    in subst (λ (n : LogNode). (next : KeyParts) → next_of n.keys ≡ Some next
    → log_does n (n.keys ++ next ∷ []) events.Roll (row n.core (rolls (public_of next))) ≡ (log-of c.roll.new.self.core c.roll.new.self.ring.keys c.push_reserved.new.self.items, Ok c.in-Ok.sent))
    c.self.view_is
    (λ next e. log_rolled_so old next c.roll.new.self.core c.roll.new.self.ring.keys c.push_reserved.new.self.items c.in-Ok.sent e c.in-Ok.ensures.row c.in-Ok.ensures.ok (search rules))

pub returns-in-Err-Memory-clause-row : goal.returns-in-Err-Memory-clause-row
returns-in-Err-Memory-clause-row c =
    let old : LogNode = log-of c.self.inside.log.core c.self.inside.log.ring.keys c.self.inside.taken.items
    in subst (λ (n : LogNode). (next : KeyParts) → next_of n.keys ≡ Some next → (Memory ≡ Memory) × (log-of c.roll.new.self.core c.roll.new.self.ring.keys c.reserve.new.self.items ≡ n))
    c.self.view_is
    (λ next e. (refl, log_waited old next c.roll.new.self.core c.roll.new.self.ring.keys c.reserve.new.self.items _ e c.in-Err-Memory.ensures.row c.in-Err-Memory.ensures.err (search rules)))

pub returns-in-Err : goal.returns-in-Err
returns-in-Err c = record {
  row =
      let old : LogNode = log-of c.self.inside.log.core c.self.inside.log.ring.keys c.self.inside.taken.items
      in subst (λ (n : LogNode). (next : KeyParts) → next_of n.keys ≡ Some next
      → log_does n (n.keys ++ next ∷ []) events.Roll (row n.core (rolls (public_of next))) ≡ (log-of c.roll.new.self.core c.roll.new.self.ring.keys c.reserve.new.self.items, Err c.log_code.result))
      c.self.view_is
      (λ next e. rw c.log_code.ensures (log_stayed old next c.roll.new.self.core c.roll.new.self.ring.keys c.reserve.new.self.items c.in-Err.refusal e c.in-Err.ensures.row c.in-Err.ensures.err (search rules) (search rules)));
  few = tt;
}
