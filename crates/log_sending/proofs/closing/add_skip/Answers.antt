use Rattle.std.proofs.Common.{rules, ◌≡◌, ◌≤◌, length, subst, sym, ap, ◌∙◌}
use Rattle.std.specs.List.{flat_map}
use Rattle.ar_message.specs.Lists.{status_text}
use Rattle.log_sending.specs.Sending.{sent_statuses}
use Rattle.log_sending.proofs.ZeroBytes.{statuses_within}
use Rattle.log_sending.proofs.closing.add_skip.Goals as goal

pub own_statuses-requires : goal.own_statuses-requires
own_statuses-requires c =
    let many : c.len.result ≡ length c.in_ok-bytes.bytes.items = search rules in
    subst (λ n. length (flat_map status_text (sent_statuses c.args.len c.args.statuses.now)) ≤ n) (sym (many ∙ ap length c.in_ok-bytes.ensures))
    (statuses_within c.args.len _ c.args.statuses.now)
