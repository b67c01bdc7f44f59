use Rattle.std.proofs.Common.{◌≡◌, ℕ, [], ◌∷◌, ◌∙◌, ap, subst, List}
use Rattle.ar_council.specs.Values.{vote_claim}
use Rattle.ar_statement.specs.Claims.{claim_of, propose, text_of}
use Rattle.vote_quorum.specs.declared.value.Value.{Value}
use Rattle.epoch_log.specs.Calls.{own_vote_text, propose_claim, proposal_texts}
use Rattle.epoch_log.specs.Record.{LogRecord}
use Rattle.log_sending.specs.Checks.{leaves_left}
use Rattle.log_core.specs.State.{CoreState}
use Rattle.log_core.proofs.log_core.LogCore.judge_leaves.Goals as goal

pub returns : goal.returns
returns c =
    let was : CoreState = record { log = c.self.inside.log.state; keys = c.self.inside.log.keys; queue = c.self.inside.queue.items; signature_len = c.self.inside.signature_len } in
    let value : Value = c.args.value.now in
    let first : text_of (claim_of c.propose_statement.result) ≡ text_of (propose_claim was.log value) =
    ap text_of (c.propose_statement.ensures ∙ ap (λ (n : ℕ). propose n c.epoch-epoch.result value.base value.root) c.number-log.ensures
    ∙ ap (λ (e : ℕ). propose was.log.me e value.base value.root) c.epoch-epoch.ensures) in
    let second : text_of (claim_of c.vote_statement.result) ≡ own_vote_text was.log value =
    ap text_of (c.vote_statement.ensures ∙ ap (λ (n : ℕ). vote_claim n c.epoch-epoch.result value) c.number-log.ensures ∙ ap (λ (e : ℕ). vote_claim was.log.me e value) c.epoch-epoch.ensures) in
    let holds : c.leaves_left.result ≡ leaves_left was.log.past.signed (proposal_texts was.log value) =
    c.leaves_left.ensures
    ∙ ap (λ (r : LogRecord). leaves_left r.signed (text_of (claim_of c.propose_statement.result) ∷ (text_of (claim_of c.vote_statement.result) ∷ []))) c.record.ensures
    ∙ ap (λ (t : List ℕ). leaves_left was.log.past.signed (t ∷ (text_of (claim_of c.vote_statement.result) ∷ []))) first
    ∙ ap (λ (t : List ℕ). leaves_left was.log.past.signed (text_of (propose_claim was.log value) ∷ (t ∷ []))) second in
    subst (λ (s : CoreState). c.leaves_left.result ≡ leaves_left s.log.past.signed (proposal_texts s.log value)) c.self.view_is holds
