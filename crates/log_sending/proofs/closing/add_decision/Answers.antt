use Rattle.std.proofs.Common.{rules, ◌≡◌, ◌≤◌, length, subst, sym, ap, ◌∙◌}
use Rattle.std.specs.List.{flat_map}
use Rattle.ar_message.specs.Lists.{vote_text}
use Rattle.ar_message.specs.Messages.{message_text}
use Rattle.log_sending.specs.Closings.{decision_of}
use Rattle.log_sending.specs.Sending.{sent_votes}
use Rattle.log_sending.proofs.ZeroBytes.{votes_within}
use Rattle.log_sending.proofs.closing.add_decision.Goals as goal

pub own_votes-requires : goal.own_votes-requires
own_votes-requires c =
    let many : c.len.result ≡ length c.in_ok-bytes.bytes.items = search rules in
    subst (λ n. length (flat_map vote_text (sent_votes c.args.len c.as_slice.result.now)) ≤ n) (sym (many ∙ ap length c.in_ok-bytes.ensures))
    (subst (λ votes. length (flat_map vote_text (sent_votes c.args.len votes)) ≤ length (message_text (decision_of c.args.len c.args.newest.now c.args.changes))) (sym c.as_slice.ensures)
    (votes_within c.args.len c.args.newest.now c.args.changes))
