-- Behind a decision that another log tells of, what a log may have to send fits into messages.
use Rattle.std.proofs.Common.{◌≡◌, ℕ, suc, ◌+◌, List, [], ◌∷◌, length, refl, ap, arith, Bool, true, false, cond, Option, Some}
use Rattle.std.specs.Prelude.{map}
use Rattle.ar_bytes.specs.Ascending.{Ascend}
use Rattle.ar_cert.specs.Changes.{Change}
use Rattle.ar_message.specs.Lists.{AreVotes, IsVote}
use Rattle.ar_message.specs.declared.lists.Vote.{Vote}
use Rattle.ar_statement.specs.declared.text.SeenText.{SeenText}
use Rattle.vote_quorum.specs.declared.value.Value.{Value}
use Rattle.epoch_log.specs.Calls.{after_decide, decision_seen, seeing}
use Rattle.epoch_log.specs.Ending.{decided, may_end}
use Rattle.epoch_log.specs.State.{LogState}
use Rattle.log_core.specs.Decided.{plain_votes}
use Rattle.log_sending.specs.Sendable.{CanBeSent, IsVoice}
use Rattle.log_sending.proofs.Sendable.{seeing-can}

abbrev voices-of : List Vote → List (ℕ × Option (List ℕ))
voices-of votes = map (λ (v : ℕ × List ℕ). (v.0, Some v.1)) (plain_votes votes)

voices-ascend : (least : ℕ) (votes : List Vote) → Ascend (λ (v : Vote). v.log) IsVote least votes → Ascend (λ (v : ℕ × Option (List ℕ)). v.0) IsVoice least (voices-of votes)
voices-ascend least [] asc = tt
voices-ascend least (v ∷ votes) asc = (asc.0, (asc.1.0, asc.1.1), voices-ascend (v.log + 1) votes asc.2)

voices-many : (votes : List Vote) → length (voices-of votes) ≡ length votes
voices-many [] = refl
voices-many (v ∷ votes) = ap suc (voices-many votes)

pub decide-can : (s : LogState) (value : Value) (changes : List Change) (votes : List Vote) → CanBeSent s → AreVotes votes
    → CanBeSent (after_decide s value changes (plain_votes votes))
decide-can s value changes votes can are = by (may_end s.past)
  where
    more : List SeenText
    more = decision_seen s value changes (plain_votes votes)

    by : (b : Bool) → CanBeSent (cond b (decided (seeing s more) changes value (voices-of votes)) (seeing s more))
    by true =
        record { logs = can.logs; votes = tt; statuses = tt; newest = (omega (arith, voices-many votes, are.0), voices-ascend 0 votes are.1); voted = can.voted }
    by false = seeing-can s more can
