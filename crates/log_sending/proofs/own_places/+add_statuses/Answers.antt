use Rattle.std.proofs.Common.{◌≡◌, ◌∙◌, ◌-◌, ◌≤◌, ◌∷◌, ◌++◌, List, [], ap, append_assoc, arith, drop, get_or, length, map, take}
use Rattle.std.proofs.Math.Seq.{take-length}
use Rattle.std.specs.Prelude.{unwrap_or}
use Rattle.ar_message.specs.Filling.{zeros}
use Rattle.ar_message.specs.declared.lists.LogStatus.{LogStatus}
use Rattle.epoch_log.specs.State.{CountedStatus}
use Rattle.log_sending.specs.Sending.{sent_status}
use Rattle.log_sending.proofs.own_places.+add_statuses.Goals as goal

-- the first of a list, and the others
each : (f : CountedStatus → LogStatus) (l : List CountedStatus) (s : CountedStatus) → 1 ≤ length l → s ≡ get_or l 0 s → f s ∷ map f (take (length l - 1) (drop 1 l)) ≡ map f l
each f [] s some is = absurd (omega (arith, some))
each f (x ∷ l) s some is =
    let less : length (x ∷ l) - 1 ≡ length l = omega arith in
    let rest : take (length (x ∷ l) - 1) l ≡ l = ap (λ n. take n l) less ∙ take-length l in
    ap (λ (k : List CountedStatus). f s ∷ map f k) rest ∙ ap (λ (y : CountedStatus). f y ∷ map f l) is

pub returns-in_ok-add_statuses : goal.returns-in_ok-add_statuses
returns-in_ok-add_statuses t c =
    let rest : List LogStatus = map (sent_status c.args.len) (take (length c.args.statuses.now - 1) (drop 1 c.args.statuses.now)) in
    let before : List LogStatus = c.args.sent.now.items in
    let signature : c.in_ok-signature.signature ≡ unwrap_or c.status-item.result.2 (zeros c.args.len) = c.in_ok-signature.ensures in
    c.in_ok-add_statuses.ensures ∙ ap (λ (l : List LogStatus). l ++ rest) c.in_ok-push.ensures.items
    ∙ (λ i. (before ++ record { log = c.status-item.result.0; value = c.status-item.result.1; signature = signature i } ∷ []) ++ rest)
    ∙ append_assoc before (sent_status c.args.len c.status-item.result ∷ []) rest
    ∙ ap (λ (l : List LogStatus). before ++ l) (each (sent_status c.args.len) c.args.statuses.now c.status-item.result c.in-len1-up.len_at_least c.status-item.is)
