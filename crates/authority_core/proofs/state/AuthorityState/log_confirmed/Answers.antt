use Rattle.std.proofs.Common.{◌≡◌, Ok, ap, sym, ◌∙◌, subst}
use Rattle.authority_core.specs.ConfirmRows.{log_confirmed_row}
use Rattle.authority_core.specs.Confirming.{votes_claimed}
use Rattle.party_keys.specs.Directory.{Directory}
use Rattle.party_keys.specs.Signers.{all_signed}
use Rattle.authority_core.specs.State.{AuthorityState, IsAuthority, StepsBy}
use Rattle.authority_core.proofs.Rows.{log-row-keeps, steps-keep}
use Rattle.authority_core.proofs.Verified.{log-voted}
use Rattle.authority_core.proofs.Sending.{log_steps}
use Rattle.authority_core.proofs.state.AuthorityState.log_confirmed.Goals as goal

pub returns : goal.returns
returns c =
    let s : AuthorityState = record { me = c.self.inside.me; keys = c.keep.new.self; signature_len = c.self.inside.signature_len; past = c.self.inside.past } in
    let same : s ≡ c.args.self.now = ap (λ (keys : Directory). record { me = c.self.inside.me; keys = keys; signature_len = c.self.inside.signature_len; past = c.self.inside.past }) c.keep.ensures ∙ c.self.view_is in
    log_steps s c.args.self.now c.args.part c.deref.result.now c.in_ok-kept.kept c.in_ok-ready.ready c.confirm-entered.result c.confirm-entered.new.self c.send_entered.result same c.in_ok-kept.ensures
    (c.in_ok-seen.ensures ∙ ap Ok (sym c.deref.ensures.value)) c.in_ok-ready.ensures c.confirm-entered.ensures c.send_entered.ensures

pub invariant_of-self : goal.invariant_of-self
invariant_of-self c =
    let s : AuthorityState = record { me = c.self.inside.me; keys = c.keep.new.self; signature_len = c.self.inside.signature_len; past = c.self.inside.past } in
    let same : s ≡ c.args.self.now = ap (λ (keys : Directory). record { me = c.self.inside.me; keys = keys; signature_len = c.self.inside.signature_len; past = c.self.inside.past }) c.keep.ensures ∙ c.self.view_is in
    let later : AuthorityState = record s { past = c.confirm-entered.new.self } in
    let steps : StepsBy c.send_entered.result c.args.self.now later (log_confirmed_row c.args.self.now c.args.part) =
    log_steps s c.args.self.now c.args.part c.deref.result.now c.in_ok-kept.kept c.in_ok-ready.ready c.confirm-entered.result c.confirm-entered.new.self c.send_entered.result same c.in_ok-kept.ensures
    (c.in_ok-seen.ensures ∙ ap Ok (sym c.deref.ensures.value)) c.in_ok-ready.ensures c.confirm-entered.ensures c.send_entered.ensures in
    let is : IsAuthority c.args.self.now = subst IsAuthority c.self.view_is c.self.invariant in
    steps-keep c.send_entered.result c.args.self.now later (log_confirmed_row c.args.self.now c.args.part) is steps (log-row-keeps c.args.self.now c.args.part is c.requires)

pub keep-requires : goal.keep-requires
keep-requires c =
    ap (all_signed c.self.inside.keys) c.in_ok-verified.ensures
    ∙ subst (λ (n : AuthorityState). all_signed n.keys (votes_claimed c.args.part) ≡ Ok tt) (sym c.self.view_is) (log-voted c.args.self.now c.args.part _ c.in_ok-seen.ensures)
