use Rattle.std.specs.Prelude.{map}
use Rattle.std.specs.Result.{result_and}
use Rattle.std.proofs.Common.{◌≡◌, ℕ, List, Ok, ap, sym, ◌∙◌, subst}
use Rattle.party_keys.specs.Signers.{all_signed, seen_in}
use Rattle.authority_core.specs.ConfirmRows.{half_claims, half_confirmed_row}
use Rattle.authority_core.specs.Confirming.{confirming_checks, parties_of, votes_claimed}
use Rattle.party_keys.specs.Directory.{Directory}
use Rattle.authority_core.specs.State.{AuthorityState, IsAuthority, StepsBy}
use Rattle.authority_core.proofs.Rows.{half-row-keeps, steps-keep}
use Rattle.authority_core.proofs.Verified.{half-voted}
use Rattle.authority_core.proofs.Sending.{half_steps}
use Rattle.authority_core.proofs.state.AuthorityState.half_confirmed.Goals as goal

pub returns : goal.returns
returns c =
    let s : AuthorityState = record { me = c.self.inside.me; keys = c.keep.new.self; signature_len = c.self.inside.signature_len; past = c.self.inside.past } in
    let same : s ≡ c.args.self.now = ap (λ (keys : Directory). record { me = c.self.inside.me; keys = keys; signature_len = c.self.inside.signature_len; past = c.self.inside.past }) c.keep.ensures ∙ c.self.view_is in
    half_steps s c.args.self.now c.args.part c.args.first_signature c.deref.result.now c.in_ok-kept.kept c.in_ok-ready.ready c.confirm-entered.result c.confirm-entered.new.self c.send_entered.result same c.in_ok-kept.ensures
    (subst (λ (signature : List ℕ). result_and (confirming_checks c.args.self.now c.args.part.second (parties_of c.args.part c.args.part.first) (half_claims c.args.part signature) c.args.part)
    (Ok (map seen_in (half_claims c.args.part signature))) ≡ Ok c.deref.result.now) c.as_slice.ensures.bytes
    (c.in_ok-seen.ensures ∙ ap Ok (sym c.deref.ensures.value))) c.in_ok-ready.ensures c.confirm-entered.ensures c.send_entered.ensures

pub invariant_of-self : goal.invariant_of-self
invariant_of-self c =
    let s : AuthorityState = record { me = c.self.inside.me; keys = c.keep.new.self; signature_len = c.self.inside.signature_len; past = c.self.inside.past } in
    let same : s ≡ c.args.self.now = ap (λ (keys : Directory). record { me = c.self.inside.me; keys = keys; signature_len = c.self.inside.signature_len; past = c.self.inside.past }) c.keep.ensures ∙ c.self.view_is in
    let later : AuthorityState = record s { past = c.confirm-entered.new.self } in
    let steps : StepsBy c.send_entered.result c.args.self.now later (half_confirmed_row c.args.self.now c.args.part c.args.first_signature) =
    half_steps s c.args.self.now c.args.part c.args.first_signature c.deref.result.now c.in_ok-kept.kept c.in_ok-ready.ready c.confirm-entered.result c.confirm-entered.new.self c.send_entered.result same c.in_ok-kept.ensures
    (subst (λ (signature : List ℕ). result_and (confirming_checks c.args.self.now c.args.part.second (parties_of c.args.part c.args.part.first) (half_claims c.args.part signature) c.args.part)
    (Ok (map seen_in (half_claims c.args.part signature))) ≡ Ok c.deref.result.now) c.as_slice.ensures.bytes
    (c.in_ok-seen.ensures ∙ ap Ok (sym c.deref.ensures.value))) c.in_ok-ready.ensures c.confirm-entered.ensures c.send_entered.ensures in
    let is : IsAuthority c.args.self.now = subst IsAuthority c.self.view_is c.self.invariant in
    steps-keep c.send_entered.result c.args.self.now later (half_confirmed_row c.args.self.now c.args.part c.args.first_signature) is steps
    (half-row-keeps c.args.self.now c.args.part c.args.first_signature is c.requires)

pub keep-requires : goal.keep-requires
keep-requires c =
    ap (all_signed c.self.inside.keys) c.in_ok-verified.ensures
    ∙ subst (λ (n : AuthorityState). all_signed n.keys (votes_claimed c.args.part) ≡ Ok tt) (sym c.self.view_is) (half-voted c.args.self.now c.args.part _ _ c.in_ok-seen.ensures)
