use Rattle.std.proofs.Common.{◌≡◌, ◌∷◌, List, Ok, Some, subst, sym}
use Rattle.ar_cert.specs.Changes.{Change}
use Rattle.vote_quorum.specs.declared.value.Value.{Value}
use Rattle.domain_table.specs.Applying.{apply}
use Rattle.epoch_log.specs.Calls.{after_propose}
use Rattle.epoch_log.specs.State.{epoch_of, table_of}
use Rattle.log_sending.specs.Closings.{closing_drafts}
use Rattle.log_core.specs.Proposing.{proposal_draft, proposing_judged, proposing_row}
use Rattle.log_sending.specs.Sending.{none_composed, with_drafts}
use Rattle.log_core.specs.State.{CoreState}
use Rattle.log_core.proofs.Proposals.{may-propose, propose-keeps, propose-made}
use Rattle.log_core.proofs.log_core.LogCore.make_proposal.Goals as goal
use Rattle.log_core.proofs.Replies.{core-of, made}

pub propose-requires-clause-turn : goal.propose-requires-clause-turn
propose-requires-clause-turn c =
    let was : CoreState = record { log = c.self.inside.log.state; keys = c.self.inside.log.keys; queue = c.self.inside.queue.items; signature_len = c.self.inside.signature_len } in
    let judged : proposing_judged was ≡ Ok (c.args.walked.value, c.args.walked.changes.items) =
    subst (λ (s : CoreState). proposing_judged s ≡ Ok (c.args.walked.value, c.args.walked.changes.items)) (sym c.self.view_is) c.requires.judged in
    (may-propose was c.args.walked.value c.args.walked.changes.items c.self.invariant judged).turn

pub propose-requires-clause-open : goal.propose-requires-clause-open
propose-requires-clause-open c =
    let was : CoreState = record { log = c.self.inside.log.state; keys = c.self.inside.log.keys; queue = c.self.inside.queue.items; signature_len = c.self.inside.signature_len } in
    let judged : proposing_judged was ≡ Ok (c.args.walked.value, c.args.walked.changes.items) =
    subst (λ (s : CoreState). proposing_judged s ≡ Ok (c.args.walked.value, c.args.walked.changes.items)) (sym c.self.view_is) c.requires.judged in
    (may-propose was c.args.walked.value c.args.walked.changes.items c.self.invariant judged).opens

pub propose-requires-clause-tried : goal.propose-requires-clause-tried
propose-requires-clause-tried c =
    subst (λ (s : CoreState). apply (table_of s.log) (epoch_of s.log) c.args.walked.changes.items ≡ Some c.args.walked.table) (sym c.self.view_is) c.requires.table

pub propose-requires-clause-endorsed : goal.propose-requires-clause-endorsed
propose-requires-clause-endorsed c =
    let was : CoreState = record { log = c.self.inside.log.state; keys = c.self.inside.log.keys; queue = c.self.inside.queue.items; signature_len = c.self.inside.signature_len } in
    let judged : proposing_judged was ≡ Ok (c.args.walked.value, c.args.walked.changes.items) =
    subst (λ (s : CoreState). proposing_judged s ≡ Ok (c.args.walked.value, c.args.walked.changes.items)) (sym c.self.view_is) c.requires.judged in
    (may-propose was c.args.walked.value c.args.walked.changes.items c.self.invariant judged).endorsed

pub invariant_of-self : goal.invariant_of-self
invariant_of-self c =
    let was : CoreState = record { log = c.self.inside.log.state; keys = c.self.inside.log.keys; queue = c.self.inside.queue.items; signature_len = c.self.inside.signature_len } in
    let value : Value = c.args.walked.value in
    let changes : List Change = c.args.walked.changes.items in
    let judged : proposing_judged was ≡ Ok (value, changes) = subst (λ (s : CoreState). proposing_judged s ≡ Ok (value, changes)) (sym c.self.view_is) c.requires.judged in
    let readied : c.args.ready ≡ with_drafts none_composed (proposal_draft was value changes ∷ closing_drafts (after_propose was.log value changes).1 was.signature_len was.log (after_propose was.log value changes).0) =
    subst (λ (s : CoreState). c.args.ready ≡ with_drafts none_composed (proposal_draft s value changes ∷ closing_drafts (after_propose s.log value changes).1 s.signature_len s.log (after_propose s.log value changes).0))
    (sym c.self.view_is) c.requires.ready in
    propose-keeps was value changes c.args.ready c.close.result c.propose.new.self c.close.new.queue.items c.in-Ok.due c.in-Ok.closing c.epoch-epoch.result
    c.self.invariant judged readied c.in-Ok.ensures.answer c.in-Ok.ensures.ok c.epoch-epoch.ensures c.close.ensures.queue c.close.ensures.sent

pub returns-in-Ok : goal.returns-in-Ok
returns-in-Ok c =
    let was : CoreState = record { log = c.self.inside.log.state; keys = c.self.inside.log.keys; queue = c.self.inside.queue.items; signature_len = c.self.inside.signature_len } in
    let value : Value = c.args.walked.value in
    let changes : List Change = c.args.walked.changes.items in
    let judged : proposing_judged was ≡ Ok (value, changes) = subst (λ (s : CoreState). proposing_judged s ≡ Ok (value, changes)) (sym c.self.view_is) c.requires.judged in
    let readied : c.args.ready ≡ with_drafts none_composed (proposal_draft was value changes ∷ closing_drafts (after_propose was.log value changes).1 was.signature_len was.log (after_propose was.log value changes).0) =
    subst (λ (s : CoreState). c.args.ready ≡ with_drafts none_composed (proposal_draft s value changes ∷ closing_drafts (after_propose s.log value changes).1 s.signature_len s.log (after_propose s.log value changes).0))
    (sym c.self.view_is) c.requires.ready in
    let step : proposing_row was ≡ made c.close.result (core-of was c.propose.new.self c.close.new.queue.items) =
    propose-made was value changes c.args.ready c.close.result c.propose.new.self c.close.new.queue.items c.in-Ok.due c.in-Ok.closing c.epoch-epoch.result
    judged readied c.in-Ok.ensures.answer c.in-Ok.ensures.ok c.epoch-epoch.ensures c.close.ensures.queue c.close.ensures.sent in
    subst (λ (s : CoreState). proposing_row s ≡ made c.close.result (core-of was c.propose.new.self c.close.new.queue.items)) c.self.view_is step
