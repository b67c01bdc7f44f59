use Rattle.std.proofs.Common.{◌≡◌, ◌∙◌, ap, Ok, Err, List, Result, Some, subst, sym, ◌⊎◌}
use Rattle.std.proofs.lemmas.List.Elements.{All-from_recursion}
use Rattle.ar_cert.specs.Changes.{Change, IsChange}
use Rattle.ar_message.specs.declared.unsigned.Unsigned.{Unsigned}
use Rattle.domain_table.specs.Applying.{apply}
use Rattle.epoch_log.specs.State.{epoch_of, table_of}
use Rattle.log_core.specs.Proposed.{Proposal, proposed_judged, proposed_row}
use Rattle.log_core.specs.State.{CoreState}
use Rattle.log_core.specs.Steps.{IsStep}
use Rattle.log_sending.specs.declared.refusal.LogRefusal.{LogRefusal}
use Rattle.log_sending.specs.declared.refusal.LogRefusal.TheVariants as refusals
use Rattle.log_core.proofs.Stepping.{core-with}
use Rattle.log_core.proofs.Voting.{may-propose, may-vote, vote-keeps, vote-refused, vote-sends, vote-wants}
use Rattle.log_core.proofs.log_core.LogCore.proposed.Goals as goal
use Rattle.log_core.proofs.log_core.LogCore.proposed.Goals.{in-Ok-vote, in-Err-vote}

pub returns-in-Err : goal.returns-in-Err
returns-in-Err c =
    let p : Proposal = record { log = c.args.log; epoch = c.args.epoch; value = c.args.value; changes = c.args.changes.items; signature = c.args.signature.now } in
    let refused : (c.in-Err.refusal ≡ refusals.Memory) ⊎ (proposed_judged c.args.self.now p ≡ Err c.in-Err.refusal) =
    subst (λ (l : List Change). (c.in-Err.refusal ≡ refusals.Memory) ⊎ (proposed_judged c.args.self.now (record { log = c.args.log; epoch = c.args.epoch; value = c.args.value; changes = l; signature = c.args.signature.now }) ≡ Err c.in-Err.refusal))
    c.deref.ensures.value c.in-Err.ensures.judged in
    vote-refused c.args.self.now p c.in-Err.refusal refused

pub vote-requires-clause-open : goal.vote-requires-clause-open
vote-requires-clause-open c =
    let was : CoreState = record { log = c.self.inside.log.state; keys = c.self.inside.log.keys; queue = c.self.inside.queue.items; signature_len = c.self.inside.signature_len } in
    let p : Proposal = record { log = c.args.log; epoch = c.args.epoch; value = c.args.value; changes = c.args.changes.items; signature = c.args.signature.now } in
    let judged : proposed_judged was p ≡ Ok c.in-Ok.made.0 =
    subst (λ (s : CoreState). proposed_judged s p ≡ Ok c.in-Ok.made.0) (sym c.self.view_is)
    (subst (λ (l : List Change). proposed_judged c.args.self.now (record { log = c.args.log; epoch = c.args.epoch; value = c.args.value; changes = l; signature = c.args.signature.now }) ≡ Ok c.in-Ok.made.0)
    c.deref.ensures.value c.in-Ok.ensures.judged) in
    may-vote was p c.in-Ok.made.0 c.value_told.ensures (All-from_recursion IsChange p.changes c.requires.1) judged

pub vote-requires-clause-tried : goal.vote-requires-clause-tried
vote-requires-clause-tried c =
    subst (λ (s : CoreState). apply (table_of s.log) (epoch_of s.log) c.args.changes.items ≡ Some c.in-Ok.made.1) (sym c.self.view_is)
    (subst (λ (l : List Change). apply (table_of c.args.self.now.log) (epoch_of c.args.self.now.log) l ≡ Some c.in-Ok.made.1) c.deref.ensures.value c.in-Ok.ensures.table)

pub vote-requires-clause-proposal : goal.vote-requires-clause-proposal
vote-requires-clause-proposal c =
    let was : CoreState = record { log = c.self.inside.log.state; keys = c.self.inside.log.keys; queue = c.self.inside.queue.items; signature_len = c.self.inside.signature_len } in
    let p : Proposal = record { log = c.args.log; epoch = c.args.epoch; value = c.args.value; changes = c.args.changes.items; signature = c.args.signature.now } in
    let judged : proposed_judged was p ≡ Ok c.in-Ok.made.0 =
    subst (λ (s : CoreState). proposed_judged s p ≡ Ok c.in-Ok.made.0) (sym c.self.view_is)
    (subst (λ (l : List Change). proposed_judged c.args.self.now (record { log = c.args.log; epoch = c.args.epoch; value = c.args.value; changes = l; signature = c.args.signature.now }) ≡ Ok c.in-Ok.made.0)
    c.deref.ensures.value c.in-Ok.ensures.judged) in
    may-propose was p c.in-Ok.made.0 c.self.invariant judged

pub invariant_of-self : goal.invariant_of-self
invariant_of-self c =
    let was : CoreState = record { log = c.self.inside.log.state; keys = c.self.inside.log.keys; queue = c.self.inside.queue.items; signature_len = c.self.inside.signature_len } in
    let p : Proposal = record { log = c.args.log; epoch = c.args.epoch; value = c.args.value; changes = c.args.changes.items; signature = c.args.signature.now } in
    let judged : proposed_judged was p ≡ Ok c.in-Ok.made.0 =
    subst (λ (s : CoreState). proposed_judged s p ≡ Ok c.in-Ok.made.0) (sym c.self.view_is)
    (subst (λ (l : List Change). proposed_judged c.args.self.now (record { log = c.args.log; epoch = c.args.epoch; value = c.args.value; changes = l; signature = c.args.signature.now }) ≡ Ok c.in-Ok.made.0)
    c.deref.ensures.value c.in-Ok.ensures.judged) in
    vote-keeps was p c.in-Ok.made.0 c.vote.result c.vote.new.self c.self.invariant c.value_told.ensures c.requires judged
    c.vote.ensures.ok c.vote.ensures.err

pub returns : goal.returns
returns c =
    let was : CoreState = record { log = c.self.inside.log.state; keys = c.self.inside.log.keys; queue = c.self.inside.queue.items; signature_len = c.self.inside.signature_len } in
    let p : Proposal = record { log = c.args.log; epoch = c.args.epoch; value = c.args.value; changes = c.args.changes.items; signature = c.args.signature.now } in
    let judged : proposed_judged was p ≡ Ok c.in-Ok.made.0 =
    subst (λ (s : CoreState). proposed_judged s p ≡ Ok c.in-Ok.made.0) (sym c.self.view_is)
    (subst (λ (l : List Change). proposed_judged c.args.self.now (record { log = c.args.log; epoch = c.args.epoch; value = c.args.value; changes = l; signature = c.args.signature.now }) ≡ Ok c.in-Ok.made.0)
    c.deref.ensures.value c.in-Ok.ensures.judged) in
    let is-step : IsStep c.match-vote.result was (core-with was c.vote.new.self) (proposed_row was p) = elim c.match-vote.branch [
      | in-Ok-vote w ↦
          subst (λ (r : Result Unsigned LogRefusal). IsStep r was (core-with was c.vote.new.self) (proposed_row was p)) (sym w.result-is)
          (vote-sends was p c.in-Ok.made.0 c.vote.new.self w.seal.result judged w.in-Ok-vote.ensures.ok w.seal.ensures)
      | in-Err-vote w ↦
          subst (λ (r : Result Unsigned LogRefusal). IsStep r was (core-with was c.vote.new.self) (proposed_row was p))
          (sym (w.result-is ∙ ap (λ (e : LogRefusal). let r : Result Unsigned LogRefusal = Err e in r) w.book_refusal.ensures))
          (vote-wants was p c.in-Ok.made.0 w.in-Err-vote.fault c.vote.new.self c.self.invariant judged w.in-Err-vote.ensures.answer w.in-Err-vote.ensures.err)
    ] in
    rw (← c.self.view_is) is-step
