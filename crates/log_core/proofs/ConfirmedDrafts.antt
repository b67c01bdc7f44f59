-- A confirmation has zero bytes where a signature of the log's own is due, one such place behind the other.
use Rattle.std.proofs.Common.{◌≡◌, ℕ, ◌+◌, ◌-◌, ◌≤◌, List, [], ◌∷◌, ◌++◌, length, sym, ap, ◌∙◌, subst, arith, append_assoc}
use Rattle.std.specs.Prelude.{flat_map}
use Rattle.std.specs.Int.{w8, w16}
use Rattle.std.proofs.lemmas.List.{length-append, length-replicate}
use Rattle.ar_bytes.specs.RoundTrip.{counted_text, number_text}
use Rattle.ar_bytes.proofs.Passing.{length-number_text}
use Rattle.ar_message.specs.Confirmation.{signed_text}
use Rattle.ar_message.specs.Lists.{vote_text, votes_text}
use Rattle.ar_message.specs.Messages.{confirmed_text, confirming_text, fields_text, message_text, signed_in}
use Rattle.ar_message.specs.declared.message.Confirming.{Confirming}
use Rattle.ar_message.specs.declared.message.Message.TheVariants.{LogConfirmed}
use Rattle.ar_message.specs.Filling.{zeros}
use Rattle.epoch_log.specs.Calls.{confirmation_text}
use Rattle.epoch_log.specs.declared.entries.Newest.{Newest}
use Rattle.log_sending.specs.Blanks.{IsDraft, StandsAt}
use Rattle.log_core.specs.Confirming.{ConfirmQuestion, confirmed_draft, confirming_of, newest_vote_text}
use Rattle.log_sending.specs.Sending.{own_votes, place_for, sent_votes}
use Rattle.log_core.specs.State.{CoreState}
use Rattle.log_sending.proofs.Apart.{lie-both, lie-one}
use Rattle.log_sending.proofs.Blanks.{EndsIn, ends-behind, ends-itself, stands-end}
use Rattle.log_sending.proofs.ZeroBytes.{votes-lie, votes-stand, within}
use Rattle.ar_base.proofs.Lists.{both-lists}

-- what stands behind the votes: the log's number and signature, and the two authorities
abbrev behind-votes : Confirming → List ℕ
behind-votes part = signed_text (signed_in part.log part.signature) ++ (number_text w16 part.first ++ number_text w16 part.second)

abbrev authorities : Confirming → List ℕ
authorities part = number_text w16 part.first ++ number_text w16 part.second

signed-is : (part : Confirming) → behind-votes part ≡ number_text w16 part.log ++ (number_text w16 (length part.signature) ++ (part.signature ++ authorities part))
signed-is part =
    append_assoc (number_text w16 part.log) (counted_text part.signature) (authorities part)
    ∙ ap (λ l. number_text w16 part.log ++ l) (append_assoc (number_text w16 (length part.signature)) part.signature (authorities part))

two : (n : ℕ) → length (number_text w16 n) ≡ 2
two n = length-number_text w16 n

four : (part : Confirming) → length (authorities part) ≡ 4
four part =
    let both = length-append (number_text w16 part.first) (number_text w16 part.second) in
    omega (arith, both, two part.first, two part.second)

behind-len : (part : Confirming) → length (behind-votes part) ≡ length part.signature + 8
behind-len part =
    let log : List ℕ = number_text w16 part.log in
    let count : List ℕ = number_text w16 (length part.signature) in
    let one = ap length (signed-is part) in
    let first = length-append log (count ++ (part.signature ++ authorities part)) in
    let second = length-append count (part.signature ++ authorities part) in
    let third = length-append part.signature (authorities part) in
    omega (arith, one, first, second, third, two part.log, two (length part.signature), four part)

votes-end : (part : Confirming) → EndsIn (flat_map vote_text part.votes ++ behind-votes part) (message_text (LogConfirmed part))
unfolding message_text fields_text confirming_text
votes-end part =
    let entries : List ℕ = flat_map vote_text part.votes in
    let tail : List ℕ = entries ++ behind-votes part in
    let count : List ℕ = number_text w8 (length part.votes) in
    ends-behind (number_text w8 10) tail _ (ends-behind (confirmed_text part) tail _
    (subst (EndsIn tail) (sym (append_assoc count entries (behind-votes part))) (ends-behind count tail tail (ends-itself tail))))

signature-end : (part : Confirming) → EndsIn (part.signature ++ authorities part) (message_text (LogConfirmed part))
unfolding message_text fields_text confirming_text
signature-end part =
    let tail : List ℕ = part.signature ++ authorities part in
    ends-behind (number_text w8 10) tail _ (ends-behind (confirmed_text part) tail _ (ends-behind (votes_text part.votes) tail _
    (subst (EndsIn tail) (sym (signed-is part))
    (ends-behind (number_text w16 part.log) tail _ (ends-behind (number_text w16 (length part.signature)) tail tail (ends-itself tail))))))

-- the votes, and what stands behind them, are within the message
pub confirmed_within : (s : CoreState) (w : Newest) (asked : ConfirmQuestion)
    → length (flat_map vote_text (sent_votes s.signature_len w.votes)) + (s.signature_len + 8) ≤ length (message_text (LogConfirmed (confirming_of s w asked)))
confirmed_within s w asked =
    let part : Confirming = confirming_of s w asked in
    let entries : List ℕ = flat_map vote_text part.votes in
    let zero : length (zeros s.signature_len) ≡ s.signature_len = length-replicate s.signature_len 0 in
    let all = within (entries ++ behind-votes part) (message_text (LogConfirmed part)) (votes-end part) in
    let both = length-append entries (behind-votes part) in
    omega (arith, all, both, behind-len part, zero)

pub confirmed-is_draft : (s : CoreState) (w : Newest) (asked : ConfirmQuestion) → IsDraft s.signature_len (confirmed_draft s w asked)
confirmed-is_draft s w asked =
    let part : Confirming = confirming_of s w asked in
    let len : ℕ = s.signature_len in
    let whole : List ℕ = message_text (LogConfirmed part) in
    let many : ℕ = length whole in
    let zero : length (zeros len) ≡ len = length-replicate len 0 in
    let behind : length (behind-votes part) ≡ length (zeros len) + 8 = behind-len part in
    let ends = votes-end part in
    let all = ap length ends.is ∙ length-append ends.front (flat_map vote_text part.votes ++ behind-votes part) in
    let rest = length-append (flat_map vote_text part.votes) (behind-votes part) in
    let fits = confirmed_within s w asked in
    record {
      zero_bytes = both-lists (λ p. StandsAt (zeros len) p.at whole)
          (own_votes len (newest_vote_text s.log w) (many - (len + 8)) w.votes) (place_for (many - (len + 4)) (confirmation_text s.log w asked.name) ∷ [])
          (votes-stand len (newest_vote_text s.log w) whole (behind-votes part) (many - (len + 8)) w.votes ends (omega (arith, all, rest, behind, zero)))
          (stands-end len 4 (authorities part) whole (signature-end part) (four part), tt);
      behind = lie-both len 0 (many - (len + 8)) many
          (own_votes len (newest_vote_text s.log w) (many - (len + 8)) w.votes) (place_for (many - (len + 4)) (confirmation_text s.log w asked.name) ∷ [])
          (votes-lie len (newest_vote_text s.log w) (many - (len + 8)) w.votes (omega (arith, fits)))
          (lie-one len (many - (len + 8)) many (many - (len + 4)) (confirmation_text s.log w asked.name) (omega arith) (omega (arith, fits)));
    }
