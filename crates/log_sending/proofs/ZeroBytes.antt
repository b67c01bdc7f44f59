-- Each message that a row sends has zero bytes where a signature of the log's own is due, one such place behind the other.
use Rattle.std.proofs.Common.{◌≡◌, ℕ, ◌+◌, ◌-◌, ◌≤◌, List, [], ◌∷◌, ◌++◌, length, refl, sym, ap, ◌∙◌, subst, arith, true, Option, Some, None}
use Rattle.std.specs.Prelude.{flat_map, is_none, unwrap_or}
use Rattle.std.specs.List.{AllByRecursion}
use Rattle.std.specs.Int.{w8, w16, w32, w64}
use Rattle.std.proofs.lemmas.List.{append-nil, length-append, length-replicate}
use Rattle.ar_bytes.specs.Joined.{optional_text}
use Rattle.ar_bytes.specs.RoundTrip.{counted_text, number_text}
use Rattle.ar_cert.specs.Changes.{Change}
use Rattle.ar_message.specs.Lists.{changes_text, status_text, vote_text}
use Rattle.ar_message.specs.Messages.{fields_text, message_text}
use Rattle.ar_message.specs.declared.address.Address.{Address}
use Rattle.ar_message.specs.declared.lists.LogStatus.{LogStatus}
use Rattle.ar_message.specs.declared.lists.Vote.{Vote}
use Rattle.ar_message.specs.declared.message.Message.{Message}
use Rattle.ar_message.specs.declared.message.Message.TheVariants.{Ballot, Decision, Propose, RollNote, SkipNote, StatusNote}
use Rattle.ar_message.specs.Filling.{zeros}
use Rattle.ar_statement.specs.declared.party.Party.{Party}
use Rattle.ar_statement.specs.Claims.{party_text, value_text, value_with}
use Rattle.lms_tree.specs.PublicKey.{key_text}
use Rattle.lms_tree.specs.declared.public_key.LmsPublic.{LmsPublic}
use Rattle.vote_quorum.specs.declared.value.Value.{Value}
use Rattle.epoch_log.specs.State.{CountedStatus}
use Rattle.epoch_log.specs.declared.entries.Newest.{Newest}
use Rattle.log_sending.specs.Blanks.{IsDraft, LieBetween, StandsAt}
use Rattle.log_sending.specs.Closings.{decision_draft, decision_of, skip_draft, skip_of}
use Rattle.log_sending.specs.Sending.{draft_with, own_statuses, own_votes, sent_status, sent_statuses, sent_vote, sent_votes}
use Rattle.log_sending.proofs.Apart.{lie-later, lie-one, own-lie}
use Rattle.log_sending.proofs.Blanks.{EndsIn, ends-behind, ends-itself, own-stand, stands-end}

-- what a text ends in is no longer
pub within : (tail whole : List ℕ) → EndsIn tail whole → length tail ≤ length whole
within tail whole ends =
    let all : length whole ≡ length ends.front + length tail = ap length ends.is ∙ length-append ends.front tail in
    omega (arith, all)

-- and so many zero bytes are no more than a text that ends in them
zeros-within : (len : ℕ) (whole : List ℕ) → EndsIn (zeros len) whole → len ≤ length whole
zeros-within len whole ends =
    let zero : length (zeros len) ≡ len = length-replicate len 0 in
    omega (arith, zero, within (zeros len) whole ends)

-- zero bytes and nothing behind
nothing-behind : (len : ℕ) (whole : List ℕ) → EndsIn (zeros len) whole → EndsIn (zeros len ++ []) whole
nothing-behind len whole ends = subst (λ tail. EndsIn tail whole) (sym (append-nil (zeros len))) ends

-- ---- messages that end in a signature

counted-ends : (tail : List ℕ) → EndsIn tail (counted_text tail)
counted-ends tail = ends-behind (number_text w16 (length tail)) tail tail (ends-itself tail)

propose-ends : (log epoch : ℕ) (base root : List ℕ) (changes : List Change) (tail : List ℕ) → EndsIn tail (message_text (Propose log epoch base root changes tail))
unfolding message_text fields_text
propose-ends log epoch base root changes tail =
    ends-behind (number_text w8 4) tail _ (ends-behind (number_text w16 log) tail _ (ends-behind (number_text w64 epoch) tail _
    (ends-behind (value_text (value_with base root)) tail _ (ends-behind (changes_text changes) tail _ (counted-ends tail)))))

ballot-ends : (log epoch : ℕ) (base root tail : List ℕ) → EndsIn tail (message_text (Ballot log epoch base root tail))
unfolding message_text fields_text
ballot-ends log epoch base root tail =
    ends-behind (number_text w8 5) tail _ (ends-behind (number_text w16 log) tail _ (ends-behind (number_text w64 epoch) tail _
    (ends-behind (value_text (value_with base root)) tail _ (counted-ends tail))))

status-ends : (log epoch : ℕ) (value : Option Value) (tail : List ℕ) → EndsIn tail (message_text (StatusNote log epoch value tail))
unfolding message_text fields_text
status-ends log epoch value tail =
    ends-behind (number_text w8 6) tail _ (ends-behind (number_text w16 log) tail _ (ends-behind (number_text w64 epoch) tail _
    (ends-behind (optional_text value_text value) tail _ (counted-ends tail))))

roll-ends : (party : Party) (generation : ℕ) (key : LmsPublic) (tail : List ℕ) → EndsIn tail (message_text (RollNote party generation key tail))
unfolding message_text fields_text
roll-ends party generation key tail =
    ends-behind (number_text w8 13) tail _ (ends-behind (party_text party) tail _ (ends-behind (number_text w32 generation) tail _
    (ends-behind (key_text key) tail _ (counted-ends tail))))

-- a draft of a message that ends in a signature
ending-draft : (to : Address) (message : Message) (len : ℕ) (text : List ℕ) → EndsIn (zeros len) (message_text message) → IsDraft len (draft_with to message len 0 text)
ending-draft to message len text ends =
    let whole : ℕ = length (message_text message) in
    let fits : len ≤ whole = zeros-within len (message_text message) ends in
    record {
      zero_bytes = (stands-end len 0 [] (message_text message) (nothing-behind len (message_text message) ends) refl, tt);
      behind = lie-one len 0 whole (whole - (len + 0)) text (omega arith) (omega (arith, fits));
    }

pub propose-draft : (to : Address) (log epoch : ℕ) (base root : List ℕ) (changes : List Change) (len : ℕ) (text : List ℕ)
    → IsDraft len (draft_with to (Propose log epoch base root changes (zeros len)) len 0 text)
propose-draft to log epoch base root changes len text =
    ending-draft to (Propose log epoch base root changes (zeros len)) len text (propose-ends log epoch base root changes (zeros len))

pub ballot-is_draft : (to : Address) (log epoch : ℕ) (base root : List ℕ) (len : ℕ) (text : List ℕ) → IsDraft len (draft_with to (Ballot log epoch base root (zeros len)) len 0 text)
ballot-is_draft to log epoch base root len text = ending-draft to (Ballot log epoch base root (zeros len)) len text (ballot-ends log epoch base root (zeros len))

pub status-is_draft : (to : Address) (log epoch : ℕ) (value : Option Value) (len : ℕ) (text : List ℕ) → IsDraft len (draft_with to (StatusNote log epoch value (zeros len)) len 0 text)
status-is_draft to log epoch value len text = ending-draft to (StatusNote log epoch value (zeros len)) len text (status-ends log epoch value (zeros len))

pub roll-is_draft : (to : Address) (party : Party) (generation : ℕ) (key : LmsPublic) (len : ℕ) (text : List ℕ) → IsDraft len (draft_with to (RollNote party generation key (zeros len)) len 0 text)
roll-is_draft to party generation key len text = ending-draft to (RollNote party generation key (zeros len)) len text (roll-ends party generation key (zeros len))

-- ---- lists of votes and statuses

votes-flat : (len : ℕ) (votes : List (ℕ × Option (List ℕ))) → flat_map vote_text (sent_votes len votes) ≡ flat_map (λ v. vote_text (sent_vote len v)) votes
votes-flat len [] = refl
votes-flat len (v ∷ votes) = ap (λ l. vote_text (sent_vote len v) ++ l) (votes-flat len votes)

vote-ends : (len : ℕ) (v : ℕ × Option (List ℕ)) → is_none v.1 ≡ true → EndsIn (zeros len) (vote_text (sent_vote len v))
vote-ends len v own = by v.1 refl own
  where
    signature : List ℕ
    signature = unwrap_or v.1 (zeros len)

    by : (o : Option (List ℕ)) → v.1 ≡ o → is_none o ≡ true → EndsIn (zeros len) (vote_text (sent_vote len v))
    by None was none =
        subst (λ tail. EndsIn tail (vote_text (sent_vote len v))) (ap (λ (o : Option (List ℕ)). unwrap_or o (zeros len)) was)
        (ends-behind (number_text w16 v.0) signature (counted_text signature) (counted-ends signature))
    by (Some bytes) was none = absurd cc

-- the places of votes in front of a part
pub votes-stand : (len : ℕ) (text whole back : List ℕ) (end : ℕ) (votes : List (ℕ × Option (List ℕ))) → EndsIn (flat_map vote_text (sent_votes len votes) ++ back) whole
    → end + length back ≡ length whole → AllByRecursion (λ p. StandsAt (zeros len) p.at whole) (own_votes len text end votes)
votes-stand len text whole back end votes ends is =
    let entries : List ℕ = flat_map vote_text (sent_votes len votes) in
    let all : length whole ≡ length ends.front + length (entries ++ back) = ap length ends.is ∙ length-append ends.front (entries ++ back) in
    let rest : length (entries ++ back) ≡ length entries + length back = length-append entries back in
    own-stand (λ (v : ℕ × Option (List ℕ)). is_none v.1) (λ (v : ℕ × Option (List ℕ)). vote_text (sent_vote len v)) len text (vote-ends len) votes whole ends.front back
    (end - length entries) (ends.is ∙ ap (λ l. ends.front ++ (l ++ back)) (votes-flat len votes)) (omega (arith, all, rest, is))

-- they lie one behind the other in front of that part
pub votes-lie : (len : ℕ) (text : List ℕ) (end : ℕ) (votes : List (ℕ × Option (List ℕ))) → length (flat_map vote_text (sent_votes len votes)) ≤ end
    → LieBetween len 0 end (own_votes len text end votes)
votes-lie len text end votes fits =
    let start : ℕ = end - length (flat_map vote_text (sent_votes len votes)) in
    let same = ap length (votes-flat len votes) in
    let upto : start + length (flat_map (λ (v : ℕ × Option (List ℕ)). vote_text (sent_vote len v)) votes) ≡ end = omega (arith, same, fits) in
    lie-later len 0 start end (own_votes len text end votes) (omega arith)
    (subst (λ n. LieBetween len start n (own_votes len text end votes)) upto
    (own-lie (λ (v : ℕ × Option (List ℕ)). is_none v.1) (λ (v : ℕ × Option (List ℕ)). vote_text (sent_vote len v)) len text
    (λ v own. zeros-within len (vote_text (sent_vote len v)) (vote-ends len v own)) votes start))

statuses-flat : (len : ℕ) (statuses : List CountedStatus) → flat_map status_text (sent_statuses len statuses) ≡ flat_map (λ x. status_text (sent_status len x)) statuses
statuses-flat len [] = refl
statuses-flat len (x ∷ statuses) = ap (λ l. status_text (sent_status len x) ++ l) (statuses-flat len statuses)

counted-status-ends : (len : ℕ) (x : CountedStatus) → is_none x.2 ≡ true → EndsIn (zeros len) (status_text (sent_status len x))
counted-status-ends len x own = by x.2 refl own
  where
    signature : List ℕ
    signature = unwrap_or x.2 (zeros len)

    by : (o : Option (List ℕ)) → x.2 ≡ o → is_none o ≡ true → EndsIn (zeros len) (status_text (sent_status len x))
    by None was none =
        subst (λ tail. EndsIn tail (status_text (sent_status len x))) (ap (λ (o : Option (List ℕ)). unwrap_or o (zeros len)) was)
        (ends-behind (number_text w16 x.0) signature _ (ends-behind (optional_text value_text x.1) signature (counted_text signature) (counted-ends signature)))
    by (Some bytes) was none = absurd cc

statuses-stand : (len : ℕ) (text whole : List ℕ) (statuses : List CountedStatus) → EndsIn (flat_map status_text (sent_statuses len statuses)) whole
    → AllByRecursion (λ p. StandsAt (zeros len) p.at whole) (own_statuses len text (length whole) statuses)
statuses-stand len text whole statuses ends =
    let entries : List ℕ = flat_map status_text (sent_statuses len statuses) in
    let all : length whole ≡ length ends.front + length entries = ap length ends.is ∙ length-append ends.front entries in
    let same : ends.front ++ entries ≡ ends.front ++ (entries ++ []) = ap (λ l. ends.front ++ l) (sym (append-nil entries)) in
    own-stand (λ (x : CountedStatus). is_none x.2) (λ (x : CountedStatus). status_text (sent_status len x)) len text (counted-status-ends len) statuses whole ends.front []
    (length whole - length entries) (ends.is ∙ same ∙ ap (λ l. ends.front ++ (l ++ [])) (statuses-flat len statuses)) (omega (arith, all))

statuses-lie : (len : ℕ) (text : List ℕ) (end : ℕ) (statuses : List CountedStatus) → length (flat_map status_text (sent_statuses len statuses)) ≤ end
    → LieBetween len 0 end (own_statuses len text end statuses)
statuses-lie len text end statuses fits =
    let start : ℕ = end - length (flat_map status_text (sent_statuses len statuses)) in
    let same = ap length (statuses-flat len statuses) in
    let upto : start + length (flat_map (λ (x : CountedStatus). status_text (sent_status len x)) statuses) ≡ end = omega (arith, same, fits) in
    lie-later len 0 start end (own_statuses len text end statuses) (omega arith)
    (subst (λ n. LieBetween len start n (own_statuses len text end statuses)) upto
    (own-lie (λ (x : CountedStatus). is_none x.2) (λ (x : CountedStatus). status_text (sent_status len x)) len text
    (λ x own. zeros-within len (status_text (sent_status len x)) (counted-status-ends len x own)) statuses start))

-- ---- a decision, and a skip

decision-ends : (epoch : ℕ) (base root : List ℕ) (changes : List Change) (votes : List Vote) → EndsIn (flat_map vote_text votes) (message_text (Decision epoch base root changes votes))
unfolding message_text fields_text
decision-ends epoch base root changes votes =
    let tail : List ℕ = flat_map vote_text votes in
    ends-behind (number_text w8 7) tail _ (ends-behind (number_text w64 epoch) tail _ (ends-behind (value_text (value_with base root)) tail _
    (ends-behind (changes_text changes) tail _ (ends-behind (number_text w8 (length votes)) tail tail (ends-itself tail)))))

-- the votes are within the message that they end
pub votes_within : (len : ℕ) (w : Newest) (changes : List Change)
    → length (flat_map vote_text (sent_votes len w.votes)) ≤ length (message_text (decision_of len w changes))
votes_within len w changes =
    within (flat_map vote_text (sent_votes len w.votes)) (message_text (decision_of len w changes)) (decision-ends w.epoch w.base w.root changes (sent_votes len w.votes))

pub decision-is_draft : (len : ℕ) (text : List ℕ) (w : Newest) (changes : List Change) → IsDraft len (decision_draft len text w changes)
decision-is_draft len text w changes =
    let whole : List ℕ = message_text (decision_of len w changes) in
    let entries : List ℕ = flat_map vote_text (sent_votes len w.votes) in
    record {
      zero_bytes = votes-stand len text whole [] (length whole) w.votes
          (subst (λ tail. EndsIn tail whole) (sym (append-nil entries)) (decision-ends w.epoch w.base w.root changes (sent_votes len w.votes))) (omega arith);
      behind = votes-lie len text (length whole) w.votes (votes_within len w changes);
    }

skip-ends : (epoch : ℕ) (statuses : List LogStatus) → EndsIn (flat_map status_text statuses) (message_text (SkipNote epoch statuses))
unfolding message_text fields_text
skip-ends epoch statuses =
    let tail : List ℕ = flat_map status_text statuses in
    ends-behind (number_text w8 8) tail _ (ends-behind (number_text w64 epoch) tail _ (ends-behind (number_text w8 (length statuses)) tail tail (ends-itself tail)))

-- the statuses are within the message that they end
pub statuses_within : (len epoch : ℕ) (statuses : List CountedStatus)
    → length (flat_map status_text (sent_statuses len statuses)) ≤ length (message_text (skip_of len epoch statuses))
statuses_within len epoch statuses =
    within (flat_map status_text (sent_statuses len statuses)) (message_text (skip_of len epoch statuses)) (skip-ends epoch (sent_statuses len statuses))

pub skip-is_draft : (len : ℕ) (text : List ℕ) (epoch : ℕ) (statuses : List CountedStatus) → IsDraft len (skip_draft len text epoch statuses)
skip-is_draft len text epoch statuses =
    let whole : List ℕ = message_text (skip_of len epoch statuses) in
    record {
      zero_bytes = statuses-stand len text whole statuses (skip-ends epoch (sent_statuses len statuses));
      behind = statuses-lie len text (length whole) statuses (statuses_within len epoch statuses);
    }
