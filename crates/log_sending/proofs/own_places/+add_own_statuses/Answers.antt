use Rattle.std.proofs.Common.{is_none, length, ap}
use Rattle.ar_message.specs.Lists.{status_text}
use Rattle.ar_statement.specs.Claims.{text_of}
use Rattle.ar_council.specs.Values.{status_claim}
use Rattle.epoch_log.specs.State.{CountedStatus}
use Rattle.log_sending.specs.Sending.{sent_status}
use Rattle.log_sending.proofs.OwnPlaces.{own_step}
use Rattle.log_sending.proofs.own_places.+add_own_statuses.Goals as goal

pub returns-in_ok-add_own_statuses : goal.returns-in_ok-add_own_statuses
returns-in_ok-add_own_statuses t c =
    own_step (λ (v : CountedStatus). is_none v.2) (λ (v : CountedStatus). length (status_text (sent_status c.args.len v))) c.args.len
    (text_of (status_claim c.args.log c.args.epoch c.args.value.now)) c.args.at c.args.statuses.now c.status-item.result c.args.own.now.items
    _ _ _ _ _ _ c.in-len1-up.len_at_least c.status-item.is
    c.status_len.ensures c.is_own.ensures c.saturating_sub.ensures (ap text_of c.status_statement-statement.ensures) c.in_ok-add_own.ensures c.in_ok-add_own_statuses.ensures
