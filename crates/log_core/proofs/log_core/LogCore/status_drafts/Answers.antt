use Rattle.std.proofs.Common.{◌<◌, Some, subst, sym}
use Rattle.epoch_log.specs.Calls.{after_status_seen}
use Rattle.log_core.specs.State.{CoreState}
use Rattle.log_sending.proofs.Sendable.{status-seen-can, told-can}
use Rattle.log_core.proofs.log_core.LogCore.status_drafts.Goals as goal

pub add_closing-requires : goal.add_closing-requires
add_closing-requires c =
    let member = subst (λ (s : CoreState). c.args.log < s.log.council.logs) (sym c.self.view_is) c.requires.log in
    told-can c.self.inside.signature_len c.self.inside.log.state.council.logs (after_status_seen c.self.inside.log.state c.args.log c.args.value.now (Some c.args.signature.now)) c.in_ok-foreseen.foreseen
    c.self.invariant.len c.self.invariant.sendable.logs
    (status-seen-can c.self.inside.log.state c.args.log c.args.value.now (Some c.args.signature.now) c.self.invariant.sendable member c.optional_value_told.ensures c.requires.signature) c.in_ok-foreseen.ensures
