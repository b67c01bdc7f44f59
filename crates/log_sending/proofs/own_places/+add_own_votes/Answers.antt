use Rattle.std.proofs.Common.{ℕ, List, Option, is_none, length, ap}
use Rattle.ar_message.specs.Lists.{vote_text}
use Rattle.ar_statement.specs.Claims.{text_of}
use Rattle.ar_council.specs.Values.{vote_claim}
use Rattle.log_sending.specs.Sending.{sent_vote}
use Rattle.log_sending.proofs.OwnPlaces.{own_step}
use Rattle.log_sending.proofs.own_places.+add_own_votes.Goals as goal

pub returns-in_ok-add_own_votes : goal.returns-in_ok-add_own_votes
returns-in_ok-add_own_votes t c =
    own_step (λ (v : ℕ × Option (List ℕ)). is_none v.1) (λ (v : ℕ × Option (List ℕ)). length (vote_text (sent_vote c.args.len v))) c.args.len
    (text_of (vote_claim c.args.log c.args.epoch c.args.value.now)) c.args.at c.args.votes.now c.vote-item.result c.args.own.now.items
    _ _ _ _ _ _ c.in-len1-up.len_at_least c.vote-item.is
    c.vote_len.ensures c.is_own.ensures c.saturating_sub.ensures (ap text_of c.vote_statement-statement.ensures) c.in_ok-add_own.ensures c.in_ok-add_own_votes.ensures
