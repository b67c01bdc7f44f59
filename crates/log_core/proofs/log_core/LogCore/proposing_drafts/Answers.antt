use Rattle.std.proofs.Common.{◌≡◌, ℕ, ◌∙◌, ◌∷◌, ap, subst, sym, List, Ok}
use Rattle.std.specs.Prelude.{IfOk}
use Rattle.ar_cert.specs.Changes.{Change}
use Rattle.ar_message.specs.declared.address.Address.TheVariants.{Logs}
use Rattle.ar_message.specs.declared.message.Message.TheVariants.{Propose}
use Rattle.ar_message.specs.Filling.{zeros}
use Rattle.ar_statement.specs.Claims.{propose, text_of}
use Rattle.vote_quorum.specs.declared.value.Value.{Value}
use Rattle.epoch_log.specs.Calls.{after_propose}
use Rattle.log_sending.specs.Closings.{closing_drafts}
use Rattle.log_core.specs.Proposing.{proposal_draft, proposing_judged}
use Rattle.log_sending.specs.Sending.{DraftMessage, draft_with, none_composed, with_draft, with_drafts}
use Rattle.log_core.specs.State.{CoreState}
use Rattle.log_core.proofs.Proposals.{may-propose, propose-told, ready-composed}
use Rattle.log_core.proofs.log_core.LogCore.proposing_drafts.Goals as goal

pub add_proposal-requires-clause-changes : goal.add_proposal-requires-clause-changes
add_proposal-requires-clause-changes c =
    let was : CoreState = record { log = c.self.inside.log.state; keys = c.self.inside.log.keys; queue = c.self.inside.queue.items; signature_len = c.self.inside.signature_len } in
    let judged : proposing_judged was ≡ Ok (c.args.value.now, c.args.changes.now) =
    subst (λ (s : CoreState). proposing_judged s ≡ Ok (c.args.value.now, c.args.changes.now)) (sym c.self.view_is) c.requires in
    (may-propose was c.args.value.now c.args.changes.now c.self.invariant judged).are

pub foresee_propose-requires : goal.foresee_propose-requires
foresee_propose-requires c =
    let was : CoreState = record { log = c.self.inside.log.state; keys = c.self.inside.log.keys; queue = c.self.inside.queue.items; signature_len = c.self.inside.signature_len } in
    let judged : proposing_judged was ≡ Ok (c.args.value.now, c.args.changes.now) =
    subst (λ (s : CoreState). proposing_judged s ≡ Ok (c.args.value.now, c.args.changes.now)) (sym c.self.view_is) c.requires in
    (may-propose was c.args.value.now c.args.changes.now c.self.invariant judged).opens.not_voted

pub add_closing-requires : goal.add_closing-requires
add_closing-requires c =
    let was : CoreState = record { log = c.self.inside.log.state; keys = c.self.inside.log.keys; queue = c.self.inside.queue.items; signature_len = c.self.inside.signature_len } in
    let judged : proposing_judged was ≡ Ok (c.args.value.now, c.args.changes.now) =
    subst (λ (s : CoreState). proposing_judged s ≡ Ok (c.args.value.now, c.args.changes.now)) (sym c.self.view_is) c.requires in
    propose-told was c.args.value.now c.args.changes.now c.in_ok-foreseen.foreseen c.self.invariant judged c.in_ok-foreseen.ensures

pub returns : goal.returns
returns c =
    let was : CoreState = record { log = c.self.inside.log.state; keys = c.self.inside.log.keys; queue = c.self.inside.queue.items; signature_len = c.self.inside.signature_len } in
    let value : Value = c.args.value.now in
    let changes : List Change = c.args.changes.now in
    let len : ℕ = c.self.inside.signature_len in
    let draft : ℕ → ℕ → DraftMessage = λ n e. draft_with Logs (Propose n e value.base value.root changes (zeros len)) len 0 (text_of (propose n e value.base value.root)) in
    let drafted : draft c.number.result c.epoch.result ≡ proposal_draft was value changes =
    ap (λ (n : ℕ). draft n c.epoch.result) c.number.ensures ∙ ap (λ (e : ℕ). draft was.log.me e) c.epoch.ensures in
    subst (λ (s : CoreState). IfOk c.ready.result (λ ready. ready ≡ with_drafts none_composed (proposal_draft s value changes
    ∷ closing_drafts (after_propose s.log value changes).1 s.signature_len s.log (after_propose s.log value changes).0))) c.self.view_is
    (ready-composed c.ready.result c.new-drafts.result c.add_proposal.new.drafts c.add_closing.new.drafts (proposal_draft was value changes)
    (closing_drafts (after_propose was.log value changes).1 len was.log (after_propose was.log value changes).0)
    c.ready.ensures (c.in_ok-add_closing.ensures (after_propose was.log value changes) c.in_ok-foreseen.ensures)
    (c.in_ok-add_proposal.ensures ∙ ap (with_draft c.new-drafts.result) drafted) c.new-drafts.ensures)
