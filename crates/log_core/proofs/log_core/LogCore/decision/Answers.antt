use Rattle.std.proofs.Common.{◌≡◌, ◌∙◌, ap, List, Ok, Some, subst, sym, ◌⊎◌, Err}
use Rattle.std.specs.Prelude.{All}
use Rattle.std.proofs.lemmas.List.Elements.{All-from_recursion}
use Rattle.ar_cert.specs.Changes.{Change, IsChange}
use Rattle.ar_message.specs.declared.lists.Vote.{Vote}
use Rattle.ar_message.specs.Filling.{only_ended}
use Rattle.domain_table.specs.Applying.{apply}
use Rattle.epoch_log.specs.Ending.{may_end}
use Rattle.epoch_log.specs.State.{epoch_of, table_of}
use Rattle.epoch_log.specs.Telling.{votes_in}
use Rattle.ar_base.specs.FirstFailing.{first_error}
use Rattle.log_core.specs.Decided.{Decision, decision_checks}
use Rattle.log_core.specs.State.{CoreState}
use Rattle.log_sending.specs.declared.refusal.LogRefusal.TheVariants as refusals
use Rattle.log_core.proofs.Decisions.{can-decide, decision-ends, decision-keeps, decision-refused, is-decided, log-decided, queue-if, queue-is}
use Rattle.log_core.proofs.log_core.LogCore.decision.Goals as goal

pub returns-in-Err : goal.returns-in-Err
returns-in-Err c =
    let d : Decision = record { epoch = c.args.epoch; value = c.args.value; changes = c.args.changes.items; votes = c.args.votes } in
    let refused : (c.in-Err.refusal ≡ refusals.Memory) ⊎ (first_error (decision_checks c.args.self.now d) ≡ Err c.in-Err.refusal) =
    subst (λ (vs : List Vote). (c.in-Err.refusal ≡ refusals.Memory)
    ⊎ (first_error (decision_checks c.args.self.now (record { epoch = c.args.epoch; value = c.args.value; changes = c.args.changes.items; votes = vs })) ≡ Err c.in-Err.refusal)) c.as_slice.ensures
    (subst (λ (l : List Change). (c.in-Err.refusal ≡ refusals.Memory)
    ⊎ (first_error (decision_checks c.args.self.now (record { epoch = c.args.epoch; value = c.args.value; changes = l; votes = c.as_slice.result.now })) ≡ Err c.in-Err.refusal))
    c.deref.ensures.value c.in-Err.ensures.checked) in
    decision-refused c.args.self.now d c.in-Err.refusal refused

pub decide-requires-clause-can : goal.decide-requires-clause-can
decide-requires-clause-can c =
    let was : CoreState = record { log = c.self.inside.log.state; keys = c.self.inside.log.keys; queue = c.self.inside.queue.items; signature_len = c.self.inside.signature_len } in
    let d : Decision = record { epoch = c.args.epoch; value = c.args.value; changes = c.args.changes.items; votes = c.args.votes } in
    let checked : first_error (decision_checks was d) ≡ Ok tt =
    subst (λ (s : CoreState). first_error (decision_checks s d) ≡ Ok tt) (sym c.self.view_is)
    (subst (λ (vs : List Vote). first_error (decision_checks c.args.self.now (record { epoch = c.args.epoch; value = c.args.value; changes = c.args.changes.items; votes = vs })) ≡ Ok tt) c.as_slice.ensures
    (subst (λ (l : List Change). first_error (decision_checks c.args.self.now (record { epoch = c.args.epoch; value = c.args.value; changes = l; votes = c.as_slice.result.now })) ≡ Ok tt)
    c.deref.ensures.value c.in-Ok.ensures.checked)) in
    let are : All IsChange d.changes = All-from_recursion IsChange d.changes c.requires.changes.1 in
    can-decide was d (votes_in c.in_ok-votes.votes.items) c.self.invariant c.value_told.ensures are c.requires.votes checked c.in_ok-votes.ensures

pub decide-requires-clause-table : goal.decide-requires-clause-table
decide-requires-clause-table c =
    subst (λ (s : CoreState). apply (table_of s.log) (epoch_of s.log) c.args.changes.items ≡ Some c.in-Ok.table) (sym c.self.view_is)
    (subst (λ (l : List Change). apply (table_of c.args.self.now.log) (epoch_of c.args.self.now.log) l ≡ Some c.in-Ok.table) c.deref.ensures.value c.in-Ok.ensures.table)

pub invariant_of-self-2 : goal.invariant_of-self-2
invariant_of-self-2 c =
    let was : CoreState = record { log = c.self.inside.log.state; keys = c.self.inside.log.keys; queue = c.self.inside.queue.items; signature_len = c.self.inside.signature_len } in
    let d : Decision = record { epoch = c.args.epoch; value = c.args.value; changes = c.args.changes.items; votes = c.args.votes } in
    let checked : first_error (decision_checks was d) ≡ Ok tt =
    subst (λ (s : CoreState). first_error (decision_checks s d) ≡ Ok tt) (sym c.self.view_is)
    (subst (λ (vs : List Vote). first_error (decision_checks c.args.self.now (record { epoch = c.args.epoch; value = c.args.value; changes = c.args.changes.items; votes = vs })) ≡ Ok tt) c.as_slice.ensures
    (subst (λ (l : List Change). first_error (decision_checks c.args.self.now (record { epoch = c.args.epoch; value = c.args.value; changes = l; votes = c.as_slice.result.now })) ≡ Ok tt)
    c.deref.ensures.value c.in-Ok.ensures.checked)) in
    let are : All IsChange d.changes = All-from_recursion IsChange d.changes c.requires.changes.1 in
    let news : c.decide.new.self ≡ log-decided was d =
    is-decided was d (votes_in c.in_ok-votes.votes.items) c.decide.new.self c.self.invariant c.value_told.ensures are c.requires.votes checked c.in_ok-votes.ensures c.in_ok-decide.ensures.ok in
    let queues : c.keep_if.new.queue.items ≡ queue-if (may_end was.log.past) c.decide.new.self.state was.queue =
    queue-is was d.value.root c.decide.new.self.state c.keep_if.new.queue.items c.is_some.result c.ended_epoch-decided.result c.is_some.ensures c.ended_epoch-decided.ensures c.keep_if.ensures in
    decision-keeps was d c.decide.new.self c.keep_if.new.queue.items c.self.invariant c.value_told.ensures are c.requires.votes checked news queues

pub returns : goal.returns
returns c =
    let was : CoreState = record { log = c.self.inside.log.state; keys = c.self.inside.log.keys; queue = c.self.inside.queue.items; signature_len = c.self.inside.signature_len } in
    let d : Decision = record { epoch = c.args.epoch; value = c.args.value; changes = c.args.changes.items; votes = c.args.votes } in
    let checked : first_error (decision_checks was d) ≡ Ok tt =
    subst (λ (s : CoreState). first_error (decision_checks s d) ≡ Ok tt) (sym c.self.view_is)
    (subst (λ (vs : List Vote). first_error (decision_checks c.args.self.now (record { epoch = c.args.epoch; value = c.args.value; changes = c.args.changes.items; votes = vs })) ≡ Ok tt) c.as_slice.ensures
    (subst (λ (l : List Change). first_error (decision_checks c.args.self.now (record { epoch = c.args.epoch; value = c.args.value; changes = l; votes = c.as_slice.result.now })) ≡ Ok tt)
    c.deref.ensures.value c.in-Ok.ensures.checked)) in
    let are : All IsChange d.changes = All-from_recursion IsChange d.changes c.requires.changes.1 in
    let news : c.decide.new.self ≡ log-decided was d =
    is-decided was d (votes_in c.in_ok-votes.votes.items) c.decide.new.self c.self.invariant c.value_told.ensures are c.requires.votes checked c.in_ok-votes.ensures c.in_ok-decide.ensures.ok in
    let queues : c.keep_if.new.queue.items ≡ queue-if (may_end was.log.past) c.decide.new.self.state was.queue =
    queue-is was d.value.root c.decide.new.self.state c.keep_if.new.queue.items c.is_some.result c.ended_epoch-decided.result c.is_some.ensures c.ended_epoch-decided.ensures c.keep_if.ensures in
    let ends = decision-ends was d c.decide.new.self c.keep_if.new.queue.items c.ended.result checked news queues
    (c.ended.ensures ∙ ap only_ended c.ended_epoch-decided.ensures) in
    rw (← c.self.view_is) ends
