-- Whatever a log newly sees is its own and signed, or is a claim of what it takes that it verified.
use Rattle.std.proofs.Common.{◌≡◌, ◌⊎◌, ℕ, ◌+◌, List, [], ◌∷◌, refl, sym, ◌∙◌, subst, Bool, true, false, cond, Option, Some, None, inl, inr, ⊎_elim}
use Rattle.std.specs.Prelude.{Contains, Ok, Err, Result, flat_map, map}
use Rattle.std.specs.List.{AllByRecursion}
use Rattle.std.proofs.lemmas.List.Elements.{All-contains, All-from_recursion}
use Rattle.key_roll.specs.Book.{RollBook, texts_of}
use Rattle.key_roll.specs.Entry.{after_entry}
use Rattle.key_roll.specs.Rolls.{plain_count}
use Rattle.lms_tree.specs.declared.public_key.LmsPublic.{LmsPublic}
use Rattle.std.proofs.lemmas.Bool.{leb-true}
use Rattle.std.specs.Result.{result_and}
use Rattle.ar_base.proofs.Giving.{no-error, order-then}
use Rattle.ar_base.proofs.Lists.{both-lists, of-both-lists}
use Rattle.ar_cert.specs.Certificate.{digest_of}
use Rattle.ar_cert.specs.Changes.{Change, Endorsement}
use Rattle.ar_claims.specs.Claimed.{claimed_by, claimed_in, claimed_in_bytes}
use Rattle.ar_claims.specs.Verified.{IsVerifiedIn}
use Rattle.ar_claims.proofs.Verified.{IsIn, all-in, announced_in, each-signed, in-seen, learnt-signed}
use Rattle.ar_council.proofs.Books.{entry-has, second-room}
use Rattle.ar_council.proofs.Seeing.{seen-exactly}
use Rattle.ar_council.specs.Room.{HasRoom, has_leaves, new_count}
use Rattle.ar_council.specs.Seen.{seen_after}
use Rattle.ar_council.specs.Values.{status_claim, vote_claim}
use Rattle.ar_message.specs.Messages.{message_in}
use Rattle.ar_message.specs.declared.lists.LogStatus.{LogStatus}
use Rattle.ar_message.specs.declared.lists.Vote.{Vote}
use Rattle.ar_message.specs.declared.message.Message.{Message}
use Rattle.ar_message.specs.declared.message.Message.TheVariants as messages
use Rattle.ar_statement.specs.declared.party.Party.{Party}
use Rattle.ar_statement.specs.declared.text.SeenText.{SeenText}
use Rattle.ar_statement.specs.Claims.{authority_party, endorse, log_party, propose, text_of, value_with}
use Rattle.party_keys.specs.Directory.{Directory}
use Rattle.party_keys.specs.Learning.{Announced, learned, roll_claim}
use Rattle.party_keys.specs.Seen.{seen_of}
use Rattle.party_keys.specs.Signers.{Claimed, all_known, all_signed, seen_in, signed_by}
use Rattle.party_keys.specs.declared.fault.LearnFault.{LearnFault}
use Rattle.party_keys.specs.declared.learning.Learned.{Learned}
use Rattle.vote_quorum.specs.declared.value.Value.{Value}
use Rattle.epoch_log.specs.Calls.{after_status_seen, casting, counting_own, counting_status, counting_vote, decision_seen, endorsements_of, is_turn, own_status_text, own_value, own_vote_text, proposal_of, proposal_texts, propose_claim, proposing, seeing, stating, statuses_seen, vote_of, votes_seen}
use Rattle.epoch_log.specs.Ending.{closed, closed_by, closed_by_statuses, decided, excludes_all, has_quorum, may_end, own_vote, skipped, votes_for}
use Rattle.epoch_log.specs.State.{LogState, epoch_of, reports_of}
use Rattle.epoch_log.specs.Told.{value_of}
use Rattle.epoch_log.specs.declared.entries.Closing.{Closing}
use Rattle.epoch_log.specs.declared.entries.Closing.TheVariants as closings
use Rattle.epoch_log.specs.declared.entries.Newest.{Newest}
use Rattle.epoch_log.specs.declared.entries.Voted.{Voted}
use Rattle.log_core.specs.Balloted.{ballot_checks, ballot_reply, ballot_row}
use Rattle.log_core.specs.Claimed.{IsOwnSigned, SeesClaims, claims_of}
use Rattle.log_core.specs.Confirming.{ConfirmQuestion, confirm_checks, confirm_reply, confirm_row}
use Rattle.log_core.specs.Decided.{Decision, decision_checks, decision_reply, decision_row, decision_signers, plain_votes}
use Rattle.log_core.specs.Learning.{is_learned, roll_note_checks, roll_note_reply, roll_note_row}
use Rattle.log_core.specs.Passing.{passing_checks, passing_reply, passing_row}
use Rattle.log_core.specs.Proposed.{Proposal, proposal_signers, proposed_checks, proposed_reply, proposed_row}
use Rattle.log_core.specs.Proposing.{proposal, proposed_value, proposing_checks, proposing_reply, proposing_row}
use Rattle.log_core.specs.Rolling.{rolling_checks, rolling_reply, rolling_row}
use Rattle.log_core.specs.Row.{message_row, read_row, row}
use Rattle.log_core.specs.Skipped.{signed_statuses, skip_checks, skip_reply, skip_row}
use Rattle.log_core.specs.State.{CoreState, Input, LogStep, passes, proposes, rolls, takes}
use Rattle.log_core.specs.Stated.{status_checks, status_reply, status_row}
use Rattle.log_core.specs.Submit.{queueing, submit_checks, submit_reply, submit_row}
use Rattle.log_core.proofs.KeptCore.{closed-same}
use Rattle.log_core.proofs.Passed.{passed}
use Rattle.log_sending.specs.Checks.{leaves_left}
use Rattle.log_sending.specs.Queued.{is_queued}
use Rattle.ar_claims.specs.Lists.{endorsements_in, claimed_statuses, claimed_votes}
use Rattle.log_sending.specs.Signers.{of_signers, signers}
use Rattle.log_sending.specs.declared.refusal.LogRefusal.TheVariants as refusals
use Rattle.log_sending.proofs.Checked.{holds, same-epoch}

-- ---- what comes behind

-- it is the log's own and signed, or one of the claims that were verified
abbrev New : Directory → ℕ → RollBook → List Claimed → SeenText → Type 0
New keys me signed claims t = IsOwnSigned me signed t ⊎ IsVerifiedIn keys claims t

-- one claim that was verified
one-new : (keys : Directory) (me : ℕ) (signed : RollBook) (claims : List Claimed) (c : Claimed) → IsIn keys claims c → New keys me signed claims (seen_in c)
one-new keys me signed claims c is = inr (in-seen keys claims c is)

nothing-new : (keys : Directory) (me : ℕ) (signed : RollBook) (claims : List Claimed) (seen : List SeenText) → SeesClaims keys me signed claims seen seen
nothing-new keys me signed claims seen t there = inl there

these-new : (keys : Directory) (me : ℕ) (signed : RollBook) (claims : List Claimed) (seen more : List SeenText) → AllByRecursion (New keys me signed claims) more
    → SeesClaims keys me signed claims seen (seen_after seen more)
these-new keys me signed claims seen more all t there =
    ⊎_elim (λ (old : Contains seen t). inl old)
    (λ (new : Contains more t). inr (All-contains (New keys me signed claims) more t (All-from_recursion (New keys me signed claims) more all) new))
    ((seen-exactly seen more t).0 there)

-- ---- what signers vouch for

-- each claim whose signers are accepted
each-valid : (keys : Directory) (claims : List Claimed) → signers keys claims ≡ Ok tt → AllByRecursion (IsIn keys claims) claims
each-valid keys claims is =
    let known = all_known keys (map (λ c. c.party) claims) in
    all-in keys claims
    (each-signed keys claims (order-then known (all_signed keys claims) tt (no-error of_signers (result_and known (all_signed keys claims)) tt is)))

endorsements-new : (keys : Directory) (me : ℕ) (signed : RollBook) (claims : List Claimed) (cert : List ℕ) (es : List Endorsement)
    → AllByRecursion (IsIn keys claims) (map (λ (e : Endorsement). signed_by (authority_party e.authority) (endorse e.authority cert) e.signature) es)
    → AllByRecursion (New keys me signed claims) (map (λ a. seen_of (authority_party a) (endorse a cert)) (map (λ (e : Endorsement). e.authority) es))
endorsements-new keys me signed claims cert [] all = tt
endorsements-new keys me signed claims cert (e ∷ es) all =
    (one-new keys me signed claims (signed_by (authority_party e.authority) (endorse e.authority cert) e.signature) all.0, endorsements-new keys me signed claims cert es all.1)

change-new : (keys : Directory) (me : ℕ) (signed : RollBook) (claims : List Claimed) (change : Change) → AllByRecursion (IsIn keys claims) (endorsements_in change)
    → AllByRecursion (New keys me signed claims) (endorsements_of change)
change-new keys me signed claims change all = endorsements-new keys me signed claims (digest_of change.cert) change.endorsements all

changes-new : (keys : Directory) (me : ℕ) (signed : RollBook) (claims : List Claimed) (changes : List Change) → AllByRecursion (IsIn keys claims) (flat_map endorsements_in changes)
    → AllByRecursion (New keys me signed claims) (flat_map endorsements_of changes)
changes-new keys me signed claims [] all = tt
changes-new keys me signed claims (change ∷ changes) all =
    let parts = of-both-lists (IsIn keys claims) (endorsements_in change) (flat_map endorsements_in changes) all in
    both-lists (New keys me signed claims) (endorsements_of change) (flat_map endorsements_of changes) (change-new keys me signed claims change parts.0)
    (changes-new keys me signed claims changes parts.1)

votes-new : (keys : Directory) (me : ℕ) (signed : RollBook) (claims : List Claimed) (epoch : ℕ) (value : Value) (votes : List Vote)
    → AllByRecursion (IsIn keys claims) (claimed_votes epoch value votes) → AllByRecursion (New keys me signed claims) (votes_seen epoch value (plain_votes votes))
votes-new keys me signed claims epoch value [] all = tt
votes-new keys me signed claims epoch value (v ∷ votes) all =
    (one-new keys me signed claims (signed_by (log_party v.log) (vote_claim v.log epoch value) v.signature) all.0, votes-new keys me signed claims epoch value votes all.1)

statuses-new : (keys : Directory) (me : ℕ) (signed : RollBook) (claims : List Claimed) (epoch : ℕ) (statuses : List LogStatus)
    → AllByRecursion (IsIn keys claims) (claimed_statuses epoch statuses) → AllByRecursion (New keys me signed claims) (statuses_seen epoch (signed_statuses statuses))
statuses-new keys me signed claims epoch [] all = tt
statuses-new keys me signed claims epoch (x ∷ statuses) all =
    (one-new keys me signed claims (signed_by (log_party x.log) (status_claim x.log epoch x.value) x.signature) all.0, statuses-new keys me signed claims epoch statuses all.1)

-- ---- each row

abbrev Sees : CoreState → List Claimed → LogStep → Type 0
Sees s claims reply = SeesClaims s.keys s.log.me reply.after.log.past.signed claims s.log.past.seen reply.after.log.past.seen

-- what is seen behind a step is what stands here
closed-sees : (s : CoreState) (claims : List Claimed) (counted : LogState) (more : List SeenText) → counted.past.seen ≡ seen_after s.log.past.seen more
    → AllByRecursion (New s.keys s.log.me (closed counted).0.past.signed claims) more
    → SeesClaims s.keys s.log.me (closed counted).0.past.signed claims s.log.past.seen (closed counted).0.past.seen
closed-sees s claims counted more is all =
    subst (SeesClaims s.keys s.log.me (closed counted).0.past.signed claims s.log.past.seen) (sym ((closed-same counted).1 ∙ is))
    (these-new s.keys s.log.me (closed counted).0.past.signed claims s.log.past.seen more all)

submit-sees : (s : CoreState) (change : Change) (reply : LogStep) → submit_row s change ≡ Ok reply → Sees s (endorsements_in change) reply
unfolding submit_row
submit-sees s change reply answer =
    let h = passed (submit_checks s change) (submit_reply s change) reply answer in
    subst (Sees s claims) h.1 (by (is_queued s.queue change) (each-valid s.keys claims h.0.0))
  where
    claims : List Claimed
    claims = endorsements_in change

    by : (b : Bool) → AllByRecursion (IsIn s.keys claims) claims
        → SeesClaims s.keys s.log.me (cond b s (queueing s change)).log.past.signed claims s.log.past.seen (cond b s (queueing s change)).log.past.seen
    by true all = nothing-new s.keys s.log.me s.log.past.signed claims s.log.past.seen
    by false all =
        these-new s.keys s.log.me s.log.past.signed claims s.log.past.seen (endorsements_of change) (change-new s.keys s.log.me s.log.past.signed claims change all)

proposed-sees : (s : CoreState) (p : Proposal) (reply : LogStep) → proposed_row s p ≡ Ok reply → Sees s (proposal_signers p) reply
unfolding proposed_row
proposed-sees s p reply answer =
    subst (Sees s claims) h.1
    (these-new s.keys s.log.me signed claims s.log.past.seen (proposal_of s.log p.log p.value p.changes) (first, changes-new s.keys s.log.me signed claims p.changes valid.1))
  where
    claims : List Claimed
    claims = proposal_signers p

    signed : RollBook
    signed = (proposed_reply s p).after.log.past.signed

    h : AllByRecursion (λ c. c ≡ Ok tt) (proposed_checks s p) × (proposed_reply s p ≡ reply)
    h = passed (proposed_checks s p) (proposed_reply s p) reply answer

    valid : AllByRecursion (IsIn s.keys claims) claims
    valid = each-valid s.keys claims h.0.0

    now : p.epoch ≡ epoch_of s.log
    now = same-epoch s.log p.epoch h.0.1.0

    first : New s.keys s.log.me signed claims (seen_of (log_party p.log) (propose p.log (epoch_of s.log) p.value.base p.value.root))
    first = subst (λ n. New s.keys s.log.me signed claims (seen_of (log_party p.log) (propose p.log n p.value.base p.value.root))) now
        (one-new s.keys s.log.me signed claims (signed_by (log_party p.log) (propose p.log p.epoch p.value.base p.value.root) p.signature) valid.0)

ballot-sees : (s : CoreState) (log epoch : ℕ) (value : Value) (signature : List ℕ) (reply : LogStep) → ballot_row s log epoch value signature ≡ Ok reply
    → Sees s (signed_by (log_party log) (vote_claim log epoch value) signature ∷ []) reply
unfolding ballot_row
ballot-sees s log epoch value signature reply answer =
    let h = passed (ballot_checks s log epoch value signature) (ballot_reply s log value signature) reply answer in
    let c : Claimed = signed_by (log_party log) (vote_claim log epoch value) signature in
    let claims : List Claimed = c ∷ [] in
    let valid = each-valid s.keys claims h.0.0 in
    let more : List SeenText = seen_of (log_party log) (vote_claim log (epoch_of s.log) value) ∷ [] in
    let counted : LogState = counting_vote (seeing s.log more) (log, value, Some signature) in
    let signed : RollBook = (closed counted).0.past.signed in
    let one : New s.keys s.log.me signed claims (seen_of (log_party log) (vote_claim log (epoch_of s.log) value)) =
    subst (λ n. New s.keys s.log.me signed claims (seen_of (log_party log) (vote_claim log n value))) (same-epoch s.log epoch h.0.1.0)
    (one-new s.keys s.log.me signed claims c valid.0) in
    subst (Sees s claims) h.1 (closed-sees s claims counted more refl (one, tt))

status-sees : (s : CoreState) (log epoch : ℕ) (value : Option Value) (signature : List ℕ) (reply : LogStep) → status_row s log epoch value signature ≡ Ok reply
    → Sees s (signed_by (log_party log) (status_claim log epoch value) signature ∷ []) reply
unfolding status_row
status-sees s log epoch value signature reply answer =
    let h = passed (status_checks s log epoch value signature) (status_reply s log value signature) reply answer in
    let c : Claimed = signed_by (log_party log) (status_claim log epoch value) signature in
    let claims : List Claimed = c ∷ [] in
    let valid = each-valid s.keys claims h.0.0 in
    let more : List SeenText = seen_of (log_party log) (status_claim log (epoch_of s.log) value) ∷ [] in
    let counted : LogState = counting_status (seeing s.log more) (log, value, Some signature) in
    let signed : RollBook = (closed counted).0.past.signed in
    let one : New s.keys s.log.me signed claims (seen_of (log_party log) (status_claim log (epoch_of s.log) value)) =
    subst (λ n. New s.keys s.log.me signed claims (seen_of (log_party log) (status_claim log n value))) (same-epoch s.log epoch h.0.1.0)
    (one-new s.keys s.log.me signed claims c valid.0) in
    subst (Sees s claims) h.1 (closed-sees s claims counted more refl (one, tt))

decision-sees : (s : CoreState) (d : Decision) (reply : LogStep) → decision_row s d ≡ Ok reply → Sees s (decision_signers d) reply
unfolding decision_row
decision-sees s d reply answer = subst (Sees s claims) h.1 (by (may_end s.log.past))
  where
    claims : List Claimed
    claims = decision_signers d

    h : AllByRecursion (λ c. c ≡ Ok tt) (decision_checks s d) × (decision_reply s d ≡ reply)
    h = passed (decision_checks s d) (decision_reply s d) reply answer

    valid : AllByRecursion (IsIn s.keys claims) (claimed_votes d.epoch d.value d.votes) × AllByRecursion (IsIn s.keys claims) (flat_map endorsements_in d.changes)
    valid = of-both-lists (IsIn s.keys claims) (claimed_votes d.epoch d.value d.votes) (flat_map endorsements_in d.changes) (each-valid s.keys claims h.0.0)

    signed : RollBook
    signed = s.log.past.signed

    votes : AllByRecursion (New s.keys s.log.me signed claims) (votes_seen (epoch_of s.log) d.value (plain_votes d.votes))
    votes = subst (λ n. AllByRecursion (New s.keys s.log.me signed claims) (votes_seen n d.value (plain_votes d.votes))) (same-epoch s.log d.epoch h.0.1.0)
        (votes-new s.keys s.log.me signed claims d.epoch d.value d.votes valid.0)

    more : List SeenText
    more = decision_seen s.log d.value d.changes (plain_votes d.votes)

    all : SeesClaims s.keys s.log.me signed claims s.log.past.seen (seen_after s.log.past.seen more)
    all = these-new s.keys s.log.me signed claims s.log.past.seen more
        (both-lists (New s.keys s.log.me signed claims) (votes_seen (epoch_of s.log) d.value (plain_votes d.votes)) (flat_map endorsements_of d.changes) votes
        (changes-new s.keys s.log.me signed claims d.changes valid.1))

    after : Bool → LogState
    after b = cond b (decided (seeing s.log more) d.changes d.value (map (λ (v : ℕ × List ℕ). (v.0, Some v.1)) (plain_votes d.votes))) (seeing s.log more)

    by : (b : Bool) → SeesClaims s.keys s.log.me (after b).past.signed claims s.log.past.seen (after b).past.seen
    by true = all
    by false = all

skip-sees : (s : CoreState) (epoch : ℕ) (statuses : List LogStatus) (reply : LogStep) → skip_row s epoch statuses ≡ Ok reply → Sees s (claimed_statuses epoch statuses) reply
unfolding skip_row
skip-sees s epoch statuses reply answer = subst (Sees s claims) h.1 (by (may_end s.log.past))
  where
    claims : List Claimed
    claims = claimed_statuses epoch statuses

    h : AllByRecursion (λ c. c ≡ Ok tt) (skip_checks s epoch statuses) × (skip_reply s statuses ≡ reply)
    h = passed (skip_checks s epoch statuses) (skip_reply s statuses) reply answer

    signed : RollBook
    signed = s.log.past.signed

    more : List SeenText
    more = statuses_seen (epoch_of s.log) (signed_statuses statuses)

    all : SeesClaims s.keys s.log.me signed claims s.log.past.seen (seen_after s.log.past.seen more)
    all = these-new s.keys s.log.me signed claims s.log.past.seen more
        (subst (λ n. AllByRecursion (New s.keys s.log.me signed claims) (statuses_seen n (signed_statuses statuses))) (same-epoch s.log epoch h.0.1.0)
        (statuses-new s.keys s.log.me signed claims epoch statuses (each-valid s.keys claims h.0.0)))

    after : Bool → LogState
    after b = cond b (skipped (seeing s.log more) (reports_of (signed_statuses statuses))) (seeing s.log more)

    by : (b : Bool) → SeesClaims s.keys s.log.me (after b).past.signed claims s.log.past.seen (after b).past.seen
    by true = all
    by false = all

confirm-sees : (s : CoreState) (asked : ConfirmQuestion) (reply : LogStep) → confirm_row s asked ≡ Ok reply → Sees s [] reply
unfolding confirm_row
confirm-sees s asked reply answer =
    let h = passed (confirm_checks s asked) (confirm_reply s s.log.newest asked) reply answer in subst (Sees s []) h.1 (by s.log.newest)
  where
    by : (newest : Option Newest) → Sees s [] (confirm_reply s newest asked)
    by None = nothing-new s.keys s.log.me s.log.past.signed [] s.log.past.seen
    by (Some w) = nothing-new s.keys s.log.me (confirm_reply s (Some w) asked).after.log.past.signed [] s.log.past.seen

-- what is learnt
learnt : (r : Result Learned LearnFault) (party : Party) (generation : ℕ) → is_learned r party generation ≡ Ok tt → (how : Learned) × (r ≡ Ok how)
learnt (Ok how) party generation is = (how, refl)
learnt (Err fault) party generation is = absurd cc

roll_note-sees : (s : CoreState) (a : Announced) (reply : LogStep) → roll_note_row s a ≡ Ok reply → Sees s (announced_in a) reply
unfolding roll_note_row
roll_note-sees s a reply answer =
    let h = passed (roll_note_checks s a) (roll_note_reply s a) reply answer in
    let how = learnt (learned s.keys a) a.party a.generation h.0.0 in
    let claims : List Claimed = announced_in a in
    let valid = all-in s.keys claims (learnt-signed s.keys a how.0 how.1, tt) in
    let more : List SeenText = seen_of a.party (roll_claim a) ∷ [] in
    subst (Sees s claims) h.1
    (these-new s.keys s.log.me s.log.past.signed claims s.log.past.seen more
    (one-new s.keys s.log.me s.log.past.signed claims (signed_by a.party (roll_claim a) a.signature) valid.0, tt))

rolling-sees : (s : CoreState) (key : LmsPublic) (reply : LogStep) → rolling_row s key ≡ Ok reply → Sees s [] reply
unfolding rolling_row
rolling-sees s key reply answer =
    let h = passed (rolling_checks s) (rolling_reply s key) reply answer in
    subst (Sees s []) h.1 (nothing-new s.keys s.log.me (rolling_reply s key).after.log.past.signed [] s.log.past.seen)

-- ---- the log's own vote and status

-- where leaves are left for texts
room-left : (book : RollBook) (texts : List (List ℕ)) → leaves_left book texts ≡ Ok tt → HasRoom book texts
room-left book texts is =
    leb-true (plain_count book.newest book.list + new_count book texts + 1) book.leaves (holds (has_leaves book texts) refusals.Spent is)

own-new : (s : CoreState) (counted : LogState) (t : SeenText) → t.party ≡ log_party s.log.me → Contains (texts_of counted.past.signed) t.text
    → New s.keys s.log.me (closed counted).0.past.signed [] t
own-new s counted t own there = inl (own, subst (λ (book : RollBook). Contains (texts_of book) t.text) (sym (closed-same counted).2) there)

proposing-sees : (s : CoreState) (reply : LogStep) → proposing_row s ≡ Ok reply → Sees s [] reply
unfolding proposing_row
proposing-sees s reply answer =
    let h = passed (proposing_checks s) (proposing_reply s) reply answer in
    let value : Value = proposed_value s in
    let one : SeenText = seen_of (log_party s.log.me) (vote_claim s.log.me (epoch_of s.log) value) in
    let first : List ℕ = text_of (propose_claim s.log value) in
    let room : HasRoom s.log.past.signed (proposal_texts s.log value) = room-left s.log.past.signed (proposal_texts s.log value) h.0.1.1.1.0 in
    let counted : LogState = counting_own (casting (proposing s.log value) (vote_of s.log value (proposal s))) value in
    let there : Contains (texts_of counted.past.signed) one.text =
    entry-has (after_entry s.log.past.signed first) (own_vote_text s.log value) (second-room s.log.past.signed first (own_vote_text s.log value) room) in
    subst (Sees s []) h.1 (closed-sees s [] counted (one ∷ []) refl (own-new s counted one refl there, tt))

passing-sees : (s : CoreState) (reply : LogStep) → passing_row s ≡ Ok reply → Sees s [] reply
unfolding passing_row
passing-sees s reply answer = subst (Sees s []) h.1 (by (is_turn s.log.council s.log.me (epoch_of s.log + 1)))
  where
    h : AllByRecursion (λ c. c ≡ Ok tt) (passing_checks s) × (passing_reply s ≡ reply)
    h = passed (passing_checks s) (passing_reply s) reply answer

    one : SeenText
    one = seen_of (log_party s.log.me) (status_claim s.log.me (epoch_of s.log) (own_value s.log))

    counted : LogState
    counted = counting_status (seeing (stating s.log) (one ∷ [])) (s.log.me, own_value s.log, None)

    there : Contains (texts_of counted.past.signed) one.text
    there = entry-has s.log.past.signed (own_status_text s.log) (room-left s.log.past.signed (own_status_text s.log ∷ []) h.0.1.0)

    after : Bool → LogState
    after b = (cond {A = LogState × Closing} b (after_status_seen (stating s.log) s.log.me (own_value s.log) None) (stating s.log, closings.Open)).0

    by : (b : Bool) → SeesClaims s.keys s.log.me (after b).past.signed [] s.log.past.seen (after b).past.seen
    by true = closed-sees s [] counted (one ∷ []) refl (own-new s counted one refl there, tt)
    by false = nothing-new s.keys s.log.me (after false).past.signed [] s.log.past.seen

-- ---- each input

message-sees : (s : CoreState) (m : Message) (reply : LogStep) → message_row s m ≡ Ok reply → Sees s (claimed_in m) reply
message-sees s (messages.EndorseAsk owner cert) reply answer = absurd cc
message-sees s (messages.Endorsed owner authority certificate signature) reply answer = absurd cc
message-sees s (messages.Submit change) reply answer = submit-sees s change reply answer
message-sees s (messages.Propose log epoch base root changes signature) reply answer =
    proposed-sees s (record { log = log; epoch = epoch; value = value_with base root; changes = changes; signature = signature }) reply answer
message-sees s (messages.Ballot log epoch base root signature) reply answer = ballot-sees s log epoch (value_with base root) signature reply answer
message-sees s (messages.StatusNote log epoch value signature) reply answer = status-sees s log epoch value signature reply answer
message-sees s (messages.Decision epoch base root changes votes) reply answer =
    decision-sees s (record { epoch = epoch; value = value_with base root; changes = changes; votes = votes }) reply answer
message-sees s (messages.SkipNote epoch statuses) reply answer = skip-sees s epoch statuses reply answer
message-sees s (messages.ConfirmAsk client name first second) reply answer =
    confirm-sees s (record { client = client; name = name; first = first; second = second }) reply answer
message-sees s (messages.LogConfirmed part) reply answer = absurd cc
message-sees s (messages.HalfConfirmed part first_signature) reply answer = absurd cc
message-sees s (messages.Confirmation client epoch name root body log log_signature first first_signature second second_signature) reply answer = absurd cc
message-sees s (messages.RollNote party generation key signature) reply answer =
    roll_note-sees s (record { party = party; generation = generation; key = key; signature = signature }) reply answer

read-sees : (s : CoreState) (read : Result Message ℕ) (reply : LogStep) → read_row s read ≡ Ok reply → Sees s (claimed_by read) reply
read-sees s (Ok m) reply answer = message-sees s m reply answer
read-sees s (Err place) reply answer = absurd cc

pub input-sees : (s : CoreState) (input : Input) (reply : LogStep) → row s input ≡ Ok reply → Sees s (claims_of input) reply
unfolding row claimed_in_bytes
input-sees s (takes bytes) reply answer = read-sees s (message_in bytes) reply answer
input-sees s proposes reply answer = proposing-sees s reply answer
input-sees s passes reply answer = passing-sees s reply answer
input-sees s (rolls key) reply answer = rolling-sees s key reply answer
