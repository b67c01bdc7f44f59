use Rattle.ar_message.specs.Lists.{IsStatus}
use Rattle.log_sending.specs.Sending.{sent_statuses}
use Rattle.log_sending.proofs.Ascending.{each-fits}
use Rattle.log_sending.proofs.own_places.sent_statuses.Goals as goal

pub add_statuses-requires : goal.add_statuses-requires
add_statuses-requires c = each-fits (λ x. x.log) IsStatus 0 (sent_statuses c.args.len c.args.statuses.now) c.requires.1
