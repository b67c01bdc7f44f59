use Rattle.std.proofs.Common.{◌<◌, subst, sym}
use Rattle.epoch_log.specs.Calls.{after_ballot}
use Rattle.log_core.specs.State.{CoreState}
use Rattle.log_sending.proofs.Sendable.{ballot-can, told-can}
use Rattle.log_core.proofs.log_core.LogCore.ballot_drafts.Goals as goal

pub add_closing-requires : goal.add_closing-requires
add_closing-requires c =
    let member = subst (λ (s : CoreState). c.args.log < s.log.council.logs) (sym c.self.view_is) c.requires.log in
    told-can c.self.inside.signature_len c.self.inside.log.state.council.logs (after_ballot c.self.inside.log.state c.args.log c.args.value.now c.args.signature.now) c.in_ok-foreseen.foreseen
    c.self.invariant.len c.self.invariant.sendable.logs
    (ballot-can c.self.inside.log.state c.args.log c.args.value.now c.args.signature.now c.self.invariant.sendable member c.requires.signature) c.in_ok-foreseen.ensures
