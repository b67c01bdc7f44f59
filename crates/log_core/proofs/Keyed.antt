-- The keys of a log stay those of its book: a step leaves the book its keys, and a Roll has one more.
use Rattle.std.proofs.Common.{◌≡◌, ℕ, ◌≤◌, length, ◌+◌, List, [], ◌∷◌, ◌++◌, Bool, true, false, cond, Option, Some, None, Result, Ok, Err, refl, sym, ap, ◌∙◌, subst}
use Rattle.std.specs.Prelude.{IfOk, OnOk, map}
use Rattle.ar_cert.specs.Changes.{Change}
use Rattle.ar_council.proofs.Readable.{readable}
use Rattle.ar_message.specs.Filling.{CanFill}
use Rattle.ar_message.specs.declared.lists.LogStatus.{LogStatus}
use Rattle.ar_message.specs.declared.sent.Sent.{Sent}
use Rattle.ar_message.specs.declared.unsigned.Unsigned.{Unsigned}
use Rattle.key_roll.specs.Book.{RollBook}
use Rattle.key_roll.specs.Entry.{after_entry, roll_text}
use Rattle.key_roll.specs.Ring.{IsNext, IsOfNext}
use Rattle.key_roll.proofs.Rings.{next_keys}
use Rattle.key_roll.proofs.Books.{IsSameBook, entry-same}
use Rattle.lms_tree.specs.Key.{public_of}
use Rattle.lms_tree.specs.KeyParts.{KeyParts}
use Rattle.lms_tree.specs.PublicKey.{HasWidths, key_text}
use Rattle.lms_tree.specs.declared.public_key.LmsPublic.{LmsPublic}
use Rattle.party_keys.specs.Learning.{Announced}
use Rattle.vote_quorum.specs.declared.value.Value.{Value}
use Rattle.epoch_log.specs.Calls.{after_status_seen, casting, counting_own, confirmation_text, decision_seen, is_turn, own_status_text, own_value, own_vote_text, propose_claim, proposing, seeing, stating, statuses_seen, vote_of}
use Rattle.epoch_log.specs.Ending.{closed, closed_by, closed_by_statuses, decided, excludes_all, has_quorum, may_end, own_vote, skipped, votes_for}
use Rattle.epoch_log.specs.State.{LogState, epoch_of, reports_of}
use Rattle.epoch_log.specs.Told.{value_of}
use Rattle.epoch_log.specs.declared.entries.Closing.{Closing}
use Rattle.epoch_log.specs.declared.entries.Closing.TheVariants as closings
use Rattle.epoch_log.specs.declared.entries.Newest.{Newest}
use Rattle.epoch_log.specs.declared.entries.Voted.{Voted}
use Rattle.ar_statement.specs.Claims.{log_party, text_of}
use Rattle.ar_statement.specs.Ranges.{IsKeyText}
use Rattle.log_core.specs.Balloted.{ballot_checks, ballot_reply, ballot_row}
use Rattle.log_core.specs.Confirming.{ConfirmQuestion, confirm_checks, confirm_reply, confirm_row}
use Rattle.log_core.specs.Decided.{Decision, decision_checks, decision_reply, decision_row, plain_votes}
use Rattle.keyed_core.specs.Signing.{IsSignedBy, signed}
use Rattle.keyed_core.proofs.Signed.{signed-sends}
use Rattle.keyed_core.proofs.Signed as signing
use Rattle.log_core.specs.Keyed.{IsOwn, IsPlain, IsRingOf, SendsBy, parts_of}
use Rattle.log_core.specs.Kept.{IsKeptCore}
use Rattle.log_core.specs.Learning.{roll_note_checks, roll_note_reply, roll_note_row}
use Rattle.log_core.specs.Passing.{passing_checks, passing_reply, passing_row}
use Rattle.log_core.specs.Proposed.{Proposal, proposed_checks, proposed_reply, proposed_row}
use Rattle.log_core.specs.Proposing.{proposal, proposed_value, proposing_checks, proposing_reply, proposing_row}
use Rattle.log_core.specs.Rolling.{rolling_checks, rolling_reply, rolling_row}
use Rattle.log_core.specs.Row.{IsLogInput, row}
use Rattle.log_core.specs.Skipped.{signed_statuses, skip_checks, skip_reply, skip_row}
use Rattle.log_core.specs.State.{LogAnswer, CoreState, Input, LogStep, most_sent, rolls}
use Rattle.log_core.specs.Steps.{IsStep}
use Rattle.log_core.specs.Stated.{status_checks, status_reply, status_row}
use Rattle.log_sending.specs.Queued.{is_queued}
use Rattle.log_core.specs.Submit.{queueing, submit_checks, submit_reply, submit_row}
use Rattle.log_sending.specs.declared.refusal.LogRefusal.{LogRefusal}
use Rattle.log_sending.specs.declared.refusal.LogRefusal.TheVariants.{Memory}
use Rattle.log_sending.proofs.Blanks.{composed-fill}
use Rattle.log_core.proofs.EachRow.{plain-gives}
use Rattle.log_core.proofs.Few.{rolling-few}
use Rattle.log_core.proofs.Passed.{passed}
use Rattle.log_core.proofs.Composed.{row-composed}
use Rattle.log_core.proofs.KeptEndings.{kept-row}

-- ---- keys that a log is asked to go on to

pub next_is_input : (key : LmsPublic) → IsKeyText (key_text key) → HasWidths key → IsLogInput (rolls key)
next_is_input key text widths = (text, readable key widths)

-- ---- what a step keeps of a log's book

itself : (book : RollBook) → IsSameBook book book
itself book = record { leaves = refl; newest = refl }

then-same : (one two three : RollBook) → IsSameBook one two → IsSameBook two three → IsSameBook one three
then-same one two three a b = record { leaves = b.leaves ∙ a.leaves; newest = b.newest ∙ a.newest }

closed-same : (s : LogState) → IsSameBook s.past.signed (closed s).0.past.signed
unfolding closed
closed-same s = may (may_end s.past)
  where
    statuses : (b : Bool) → IsSameBook s.past.signed (cond {A = LogState × Closing} b (skipped s (reports_of s.statuses), closings.Skipped s.statuses) (s, closings.Open)).0.past.signed
    statuses true = itself s.past.signed
    statuses false = itself s.past.signed

    vote : (v : Voted) (b : Bool)
        → IsSameBook s.past.signed (cond {A = LogState × Closing} b (decided s v.changes (value_of v) (votes_for s.votes (value_of v)), closings.Decided) (closed_by_statuses s)).0.past.signed
    vote v true = itself s.past.signed
    vote v false = statuses (excludes_all s.council (reports_of s.statuses))

    by : (v : Option Voted) → IsSameBook s.past.signed (closed_by s v).0.past.signed
    by None = statuses (excludes_all s.council (reports_of s.statuses))
    by (Some v) = vote v (has_quorum s v)

    may : (b : Bool) → IsSameBook s.past.signed (cond {A = LogState × Closing} b (closed_by s (own_vote s.past.voted (epoch_of s))) (s, closings.Open)).0.past.signed
    may true = by (own_vote s.past.voted (epoch_of s))
    may false = itself s.past.signed

-- ---- each row

-- the book has the same keys behind a step, whose signatures have as many bytes
pub record IsSameKeys (s later : CoreState) : Type 0 where
  pub book : IsSameBook s.log.past.signed later.log.past.signed
  pub len : later.signature_len ≡ s.signature_len

abbrev Same : CoreState → LogStep → Type 0
Same s reply = IsSameKeys s reply.after

of-book : (s later : CoreState) → IsSameBook s.log.past.signed later.log.past.signed → later.signature_len ≡ s.signature_len → IsSameKeys s later
of-book s later book len = record { book = book; len = len }

proposing-same : (s : CoreState) (reply : LogStep) → proposing_row s ≡ Ok reply → Same s reply
unfolding proposing_row
proposing-same s reply answer =
    let h = passed (proposing_checks s) (proposing_reply s) reply answer in
    let value : Value = proposed_value s in
    let book : RollBook = s.log.past.signed in
    let first : RollBook = after_entry book (text_of (propose_claim s.log value)) in
    let second : RollBook = after_entry first (own_vote_text s.log value) in
    let counted : LogState = counting_own (casting (proposing s.log value) (vote_of s.log value (proposal s))) value in
    let same : IsSameBook book (closed counted).0.past.signed =
    then-same book second (closed counted).0.past.signed
    (then-same book first second (entry-same book (text_of (propose_claim s.log value))) (entry-same first (own_vote_text s.log value))) (closed-same counted) in
    subst (Same s) h.1 (of-book s (proposing_reply s).after same refl)

passing-same : (s : CoreState) (reply : LogStep) → passing_row s ≡ Ok reply → Same s reply
unfolding passing_row
passing-same s reply answer =
    let h = passed (passing_checks s) (passing_reply s) reply answer in
    subst (Same s) h.1 (of-book s (passing_reply s).after (by (is_turn s.log.council s.log.me (epoch_of s.log + 1))) refl)
  where
    stated : IsSameBook s.log.past.signed (stating s.log).past.signed
    stated = entry-same s.log.past.signed (own_status_text s.log)

    by : (b : Bool) → IsSameBook s.log.past.signed
        (cond {A = LogState × Closing} b (after_status_seen (stating s.log) s.log.me (own_value s.log) None) (stating s.log, closings.Open)).0.past.signed
    by true = then-same s.log.past.signed (stating s.log).past.signed (after_status_seen (stating s.log) s.log.me (own_value s.log) None).0.past.signed
        stated (closed-same _)
    by false = stated

submit-same : (s : CoreState) (change : Change) (reply : LogStep) → submit_row s change ≡ Ok reply → Same s reply
unfolding submit_row
submit-same s change reply answer =
    let h = passed (submit_checks s change) (submit_reply s change) reply answer in
    subst (Same s) h.1 (by (is_queued s.queue change))
  where
    by : (b : Bool) → IsSameKeys s (cond b s (queueing s change))
    by true = of-book s s (itself s.log.past.signed) refl
    by false = of-book s (queueing s change) (itself s.log.past.signed) refl

proposed-same : (s : CoreState) (p : Proposal) (reply : LogStep) → proposed_row s p ≡ Ok reply → Same s reply
unfolding proposed_row
proposed-same s p reply answer =
    let h = passed (proposed_checks s p) (proposed_reply s p) reply answer in
    subst (Same s) h.1 (of-book s (proposed_reply s p).after (entry-same s.log.past.signed (own_vote_text s.log p.value)) refl)

ballot-same : (s : CoreState) (log epoch : ℕ) (value : Value) (signature : List ℕ) (reply : LogStep) → ballot_row s log epoch value signature ≡ Ok reply → Same s reply
unfolding ballot_row
ballot-same s log epoch value signature reply answer =
    let h = passed (ballot_checks s log epoch value signature) (ballot_reply s log value signature) reply answer in
    subst (Same s) h.1 (of-book s (ballot_reply s log value signature).after (closed-same _) refl)

status-same : (s : CoreState) (log epoch : ℕ) (value : Option Value) (signature : List ℕ) (reply : LogStep) → status_row s log epoch value signature ≡ Ok reply → Same s reply
unfolding status_row
status-same s log epoch value signature reply answer =
    let h = passed (status_checks s log epoch value signature) (status_reply s log value signature) reply answer in
    subst (Same s) h.1 (of-book s (status_reply s log value signature).after (closed-same _) refl)

decision-same : (s : CoreState) (d : Decision) (reply : LogStep) → decision_row s d ≡ Ok reply → Same s reply
unfolding decision_row
decision-same s d reply answer =
    let h = passed (decision_checks s d) (decision_reply s d) reply answer in
    subst (Same s) h.1 (of-book s (decision_reply s d).after (by (may_end s.log.past)) refl)
  where
    seen : LogState
    seen = seeing s.log (decision_seen s.log d.value d.changes (plain_votes d.votes))

    by : (b : Bool) → IsSameBook s.log.past.signed
        (cond b (decided seen d.changes d.value (map (λ v. (v.0, Some v.1)) (plain_votes d.votes))) seen).past.signed
    by true = itself s.log.past.signed
    by false = itself s.log.past.signed

skip-same : (s : CoreState) (epoch : ℕ) (statuses : List LogStatus) (reply : LogStep) → skip_row s epoch statuses ≡ Ok reply → Same s reply
unfolding skip_row
skip-same s epoch statuses reply answer =
    let h = passed (skip_checks s epoch statuses) (skip_reply s statuses) reply answer in
    subst (Same s) h.1 (of-book s (skip_reply s statuses).after (by (may_end s.log.past)) refl)
  where
    seen : LogState
    seen = seeing s.log (statuses_seen (epoch_of s.log) (signed_statuses statuses))

    by : (b : Bool) → IsSameBook s.log.past.signed (cond b (skipped seen (reports_of (signed_statuses statuses))) seen).past.signed
    by true = itself s.log.past.signed
    by false = itself s.log.past.signed

confirm-same : (s : CoreState) (asked : ConfirmQuestion) (reply : LogStep) → confirm_row s asked ≡ Ok reply → Same s reply
unfolding confirm_row
confirm-same s asked reply answer =
    let h = passed (confirm_checks s asked) (confirm_reply s s.log.newest asked) reply answer in
    subst (Same s) h.1 (by s.log.newest)
  where
    by : (newest : Option Newest) → Same s (confirm_reply s newest asked)
    by None = of-book s s (itself s.log.past.signed) refl
    by (Some w) = of-book s (confirm_reply s (Some w) asked).after (entry-same s.log.past.signed (confirmation_text s.log w asked.name)) refl

roll_note-same : (s : CoreState) (a : Announced) (reply : LogStep) → roll_note_row s a ≡ Ok reply → Same s reply
unfolding roll_note_row
roll_note-same s a reply answer =
    let h = passed (roll_note_checks s a) (roll_note_reply s a) reply answer in
    subst (Same s) h.1 (of-book s (roll_note_reply s a).after (itself s.log.past.signed) refl)

row-same : (s : CoreState) (input : Input) (reply : LogStep) → IsPlain input → row s input ≡ Ok reply → Same s reply
row-same s input reply plain answer = plain-gives (Same s) s (record {
  submit = submit-same s;
  proposed = proposed-same s;
  ballot = ballot-same s;
  status = status-same s;
  decision = decision-same s;
  skip = skip-same s;
  confirm = confirm-same s;
  roll_note = roll_note-same s;
  proposing = proposing-same s;
  passing = passing-same s;
}) input plain reply answer

-- ---- the keys

keys-stay : (s later : CoreState) (keys : List KeyParts) → IsRingOf s keys → IsSameKeys s later → IsRingOf later keys
keys-stay s later keys is same =
    signing.keys-stay s.log.past.signed later.log.past.signed keys s.signature_len later.signature_len same.book same.len is

abbrev reply-of : Unsigned → CoreState → LogStep
reply-of unsigned later = record { unsigned = unsigned; after = later }

row-fills : (s : CoreState) (input : Input) (keys : List KeyParts) (later : CoreState) (unsigned : Unsigned) → IsKeptCore s → IsLogInput input
    → row s input ≡ Ok (record { unsigned = unsigned; after = later }) → IsRingOf later keys → CanFill keys unsigned
row-fills s input keys later unsigned kept is answer are =
    composed-fill later.log.past.signed later.signature_len keys unsigned
    (kept-row s input (reply-of unsigned later) kept is answer).log.honest.signs_what_it_tells.sound are (row-composed s input (reply-of unsigned later) answer)

-- a step with no other key
pub plain-signs : (s : CoreState) (input : Input) (keys : List KeyParts) (later : CoreState) (unsigned : Unsigned) → IsKeptCore s → IsLogInput input → IsPlain input
    → IsRingOf s keys → row s input ≡ Ok (record { unsigned = unsigned; after = later }) → IsSignedBy keys later.log.past.signed later.signature_len unsigned
plain-signs s input keys later unsigned kept is plain are answer =
    let stays : IsRingOf later keys = keys-stay s later keys are (row-same s input (reply-of unsigned later) plain answer) in
    record { fills = row-fills s input keys later unsigned kept is answer stays; stays = stays }

-- the keys with the next behind them are those of the log that rolled
rolled-ring : (s : CoreState) (key : LmsPublic) (keys : List KeyParts) (next : KeyParts) → IsRingOf s keys → IsNext keys next
    → IsRingOf (rolling_reply s key).after (keys ++ next ∷ [])
rolled-ring s key keys next are behind =
    next_keys s.log.past.signed (roll_text (log_party s.log.me) s.log.past.signed.newest key) s.signature_len keys next are behind

rolled-is : (s : CoreState) (key : LmsPublic) (reply : LogStep) → rolling_row s key ≡ Ok reply → rolling_reply s key ≡ reply
unfolding rolling_row
rolled-is s key reply answer = (passed (rolling_checks s) (rolling_reply s key) reply answer).1

rolls-row : (s : CoreState) (key : LmsPublic) → row s (rolls key) ≡ rolling_row s key
unfolding row
rolls-row s key = refl

-- ---- the order to roll, with the keys that have the next behind them

pub rolled-signs : (s : CoreState) (keys more : List KeyParts) (next : KeyParts) (later : CoreState) (unsigned : Unsigned) → IsKeptCore s
    → IsLogInput (rolls (public_of next)) → IsRingOf s keys → IsNext keys next → more ≡ keys ++ next ∷ []
    → rolling_row s (public_of next) ≡ Ok (record { unsigned = unsigned; after = later }) → IsSignedBy more later.log.past.signed later.signature_len unsigned
rolled-signs s keys more next later unsigned kept is are behind more-is answer =
    let after : IsRingOf (rolling_reply s (public_of next)).after (keys ++ next ∷ []) = rolled-ring s (public_of next) keys next are behind in
    let stays : IsRingOf later (keys ++ next ∷ []) =
    subst (λ (r : LogStep). IsRingOf r.after (keys ++ next ∷ [])) (rolled-is s (public_of next) (reply-of unsigned later) answer) after in
    let fills : CanFill (keys ++ next ∷ []) unsigned =
    row-fills s (rolls (public_of next)) (keys ++ next ∷ []) later unsigned kept is (rolls-row s (public_of next) ∙ answer) stays in
    subst (λ (k : List KeyParts). IsSignedBy k later.log.past.signed later.signature_len unsigned) (sym more-is) (record { fills = fills; stays = stays })

pub roll-signs : (result : Result Unsigned LogRefusal) (s later : CoreState) (key : LmsPublic) (keys : List KeyParts) (next : KeyParts) → IsKeptCore s → IsLogInput (rolls key)
    → IsStep result s later (rolling_row s key) → IsRingOf s keys → IsNext keys next → key ≡ public_of next
    → IfOk result (λ unsigned. IsSignedBy (keys ++ next ∷ []) later.log.past.signed later.signature_len unsigned)
roll-signs (Ok unsigned) s later key keys next kept input step are behind is =
    let input : IsLogInput (rolls (public_of next)) = subst (λ (k : LmsPublic). IsLogInput (rolls k)) is input in
    let answer : rolling_row s (public_of next) ≡ Ok (reply-of unsigned later) = subst (λ (k : LmsPublic). rolling_row s k ≡ Ok (reply-of unsigned later)) is step in
    rolled-signs s keys (keys ++ next ∷ []) next later unsigned kept input are behind refl answer
roll-signs (Err refusal) s later key keys next kept input step are behind is = tt

pub roll-sends : (keys : List KeyParts) (result : Result Unsigned LogRefusal) (s later : CoreState) (key : LmsPublic) → IsStep result s later (rolling_row s key)
    → SendsBy keys (signed keys result) s later (rolling_row s key)
roll-sends keys result s later key step =
    signed-sends Memory (λ after unsigned. record { unsigned = unsigned; after = after }) parts_of (λ after unsigned. refl) keys result s later (rolling_row s key) step

pub roll-few : (result : Result Unsigned LogRefusal) (s later : CoreState) (key : LmsPublic) → IsStep result s later (rolling_row s key)
    → IfOk result (λ unsigned. length unsigned.sent.messages ≤ most_sent)
roll-few (Ok unsigned) s later key step = rolling-few s key (reply-of unsigned later) step
roll-few (Err refusal) s later key step = tt

-- the order to roll as an input: the key is that of the next one
pub rolls-sends : (keys later : List KeyParts) (input : Input) (key : LmsPublic) (old new : CoreState) (result : Result Sent LogRefusal) → input ≡ rolls key → IsOwn keys input
    → ((next : KeyParts) → IsNext keys next → SendsBy (keys ++ next ∷ []) result old new (rolling_row old (public_of next)))
    → OnOk result ((next : KeyParts) → IsNext keys next → later ≡ keys ++ next ∷ []) → SendsBy later result old new (row old input)
rolls-sends keys later input key old new result is own sends later-is =
    let of-next : IsOfNext keys key = subst (λ (i : Input). IsOwn keys i) is own in
    let of-key : SendsBy (keys ++ of-next.next ∷ []) result old new (rolling_row old key) =
    subst (λ (k : LmsPublic). SendsBy (keys ++ of-next.next ∷ []) result old new (rolling_row old k)) (sym of-next.is) (sends of-next.next of-next.is_next) in
    let of-input : SendsBy (keys ++ of-next.next ∷ []) result old new (row old input) =
    subst (λ (a : LogAnswer). SendsBy (keys ++ of-next.next ∷ []) result old new a) (sym (ap (row old) is ∙ rolls-row old key)) of-key in
    by result of-next of-input later-is
  where
    by : (r : Result Sent LogRefusal) (o : IsOfNext keys key) → SendsBy (keys ++ o.next ∷ []) r old new (row old input)
        → OnOk r ((next : KeyParts) → IsNext keys next → later ≡ keys ++ next ∷ []) → SendsBy later r old new (row old input)
    by (Ok sent) o h later-is = subst (λ (k : List KeyParts). SendsBy k (Ok sent) old new (row old input)) (sym (later-is o.next o.is_next)) h
    by (Err refusal) o h later-is = h
