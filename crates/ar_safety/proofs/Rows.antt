-- Where the row of a second authority answers Ok, the authority has checked what the theorem of acceptance asks for.
use Rattle.std.proofs.Common.{◌≡◌, ◌≢◌, ℕ, zero, suc, ◌+◌, ◌-◌, ◌<◌, ◌++◌, take, drop, Bool, true, false, cond, not, List, [], ◌∷◌, length, get_or, Option, Some, None, Result, Ok, Err, refl, sym, ap, ◌∙◌, subst, arith, eqb, eq-eqb}
use Rattle.std.specs.Prelude.{Contains, map, nat_le, ◌==◌}
use Rattle.std.specs.Result.{result_and}
use Rattle.std.specs.Option.{ok_or}
use Rattle.std.specs.List.{AllByRecursion}
use Rattle.std.proofs.lemmas.Bool.{eqb-true, le-leb, ltb-true, ne_eqb}
use Rattle.std.proofs.lemmas.List.Elements.{recursion_from_All}
use Rattle.std.proofs.lemmas.List.{append-nil, append_assoc, length-append, length-replicate}
use Rattle.std.proofs.Math.ListN.{drop_of_length-le}
use Rattle.std.proofs.Math.Seq.{take-append_seam}
use Rattle.std.specs.Int.{w8, w16}
use Rattle.ar_bytes.specs.RoundTrip.{number_text}
use Rattle.ar_base.specs.FirstFailing.{first_failing}
use Rattle.ar_base.specs.Gives.{with_error}
use Rattle.ar_base.specs.Places.{place_of}
use Rattle.ar_base.proofs.Giving.{no-error, order-first, order-then}
use Rattle.ar_base.proofs.Failing.{first-holds, none_fails}
use Rattle.ar_council.specs.Room.{HasRoom}
use Rattle.ar_council.specs.Values.{vote_claim}
use Rattle.ar_statement.specs.declared.party.Party.{Party}
use Rattle.ar_statement.specs.Claims.{authority_party, client_party, log_party, text_of}
use Rattle.ar_cert.specs.Certificate.{Certificate, digest_of}
use Rattle.hash_tree.specs.declared.bottom.Bottom.{Bottom}
use Rattle.client_rule.proofs.Meanings.{shown_decides}
use Rattle.client_rule.specs.declared.judgement.Judgement.TheVariants as judgements
use Rattle.key_roll.specs.Book.{IsRollBook, RollBook, texts_of}
use Rattle.key_roll.specs.Due.{DueParts}
use Rattle.key_roll.specs.Entry.{after_entry, due_of, entered, has_room}
use Rattle.ar_statement.specs.declared.fault.BookFault.TheVariants.{Spent}
use Rattle.lms_tree.specs.KeyParts.{KeyParts}
use Rattle.party_keys.specs.Directory.{Directory}
use Rattle.party_keys.specs.Signatures.{verified}
use Rattle.party_keys.specs.declared.fault.SignerFault.TheVariants as signer
use Rattle.party_keys.specs.Signers.{Claimed, all_known, all_signed, is_known, seen_in, signed_as, signer_fault, signers_answer}
use Rattle.ar_message.specs.Confirmation as confirmation
use Rattle.ar_message.specs.Confirmation.{body_text, confirmation_fields_text, form_text, is_present, path_text, signed_text, subject_text}
use Rattle.ar_message.specs.Filling.{letter_bytes, filled, signature_due, signed, written_at, zeros}
use Rattle.ar_message.specs.Sending.{Letter}
use Rattle.ar_message.specs.declared.address.Address.{Address}
use Rattle.ar_message.specs.declared.address.Address.TheVariants.{One}
use Rattle.ar_message.specs.Messages.{IsMessage, about_in, fields_text, message_text, path_in, shown_in, signed_in}
use Rattle.ar_message.specs.declared.lists.Vote.{Vote}
use Rattle.ar_message.specs.declared.message.Body.TheVariants.{Absent}
use Rattle.ar_message.specs.declared.message.Confirming.{Confirming}
use Rattle.ar_message.specs.declared.message.Message.TheVariants.{Confirmation, HalfConfirmed}
use Rattle.ar_message.specs.declared.unsigned.Unsigned.{Unsigned}
use Rattle.client_rule.specs.Rule.{claim_on, judgement, Asked}
use Rattle.authority_core.specs.Calls.{confirming, kept_claim}
use Rattle.authority_core.specs.ConfirmRows.{confirmation_with, half_claims, half_confirmed_row}
use Rattle.ar_message.specs.Shown.{shows}
use Rattle.authority_core.specs.Confirming.{confirmed_by, confirming_checks, confirming_with, content_tests, kept_of, log_claimed, meant_for, parties_of, value_of, vote_count, voted_by}
use Rattle.authority_core.specs.Refusals.{of_book, of_signers}
use Rattle.authority_core.specs.State.{AuthorityAnswer, AuthorityState, entering, if_due, sends}
use Rattle.authority_core.specs.declared.refusal.AuthorityRefusal.{AuthorityRefusal}
use Rattle.authority_core.specs.declared.refusal.AuthorityRefusal.TheVariants.{BadPath, FewVotes, NotForAuthority, SameAuthority}
use Rattle.authority_core.proofs.Growing.{map-has}
use Rattle.authority_core.proofs.Keeping.{passed-many, passed-shown}
use Rattle.ar_safety.specs.Accepting.{IsConfirmer, IsHalfConfirmed, IsInTime, IsVerifiedVote, IsWithRing, KnowsSigners, bytes_to_client, confirmer_of, own_signature, signature_for}
use Rattle.ar_safety.proofs.Accepting.{OwnDue, own-due, own-length, sent-absent, sent-accepted}
use Rattle.ar_safety.proofs.Verifying.{authority-known, log-known, signer-known}

-- ---- signatures

-- each signature of the list is verified
each-verified : (keys : Directory) (claims : List Claimed) → all_signed keys claims ≡ Ok tt → (c : Claimed) → Contains claims c → verified keys c.party c.text c.signature ≡ Ok tt
each-verified keys [] is c there = absurd (omega (arith, there.1))
each-verified keys (d ∷ claims) is c there =
    by there.0 there.1 there.2 (λ k less same. each-verified keys claims (order-then (signed_as keys d) (all_signed keys claims) tt is) c (k, less, same))
  where
    first : verified keys d.party d.text d.signature ≡ Ok tt
    first = no-error (signer_fault d.party) (verified keys d.party d.text d.signature) tt (order-first (signed_as keys d) (all_signed keys claims) tt is)

    by : (k : ℕ) → k < length (d ∷ claims) → get_or (d ∷ claims) k c ≡ c → ((m : ℕ) → m < length claims → get_or claims m c ≡ c → verified keys c.party c.text c.signature ≡ Ok tt)
        → verified keys c.party c.text c.signature ≡ Ok tt
    by zero less same rest = subst (λ (x : Claimed). verified keys x.party x.text x.signature ≡ Ok tt) same first
    by (suc k) less same rest = rest k (omega (arith, less)) same

-- ---- what the checks show

abbrev Checks : AuthorityState → Confirming → List ℕ → Result (Unit {0}) AuthorityRefusal
Checks s part first_signature = confirming_checks s part.second (parties_of part part.first) (half_claims part first_signature) part

-- what is checked behind the first check
abbrev behind-me : AuthorityState → Confirming → List ℕ → Result (Unit {0}) AuthorityRefusal
behind-me s part first_signature =
    result_and (with_error of_signers (signers_answer s.keys (parties_of part part.first) (half_claims part first_signature))) (first_failing (content_tests s.keys.quorum part))

rest-holds : {E : Type 0} (fault : E) (test : Bool) (tests : List (E × Bool)) → first_failing ((fault, test) ∷ tests) ≡ Ok tt → first_failing tests ≡ Ok tt
rest-holds fault true tests is = is
rest-holds fault false tests is = absurd cc

for-me : (s : AuthorityState) (part : Confirming) (first_signature : List ℕ) → Checks s part first_signature ≡ Ok tt → part.second ≡ s.me
unfolding confirming_checks
for-me s part first_signature is =
    eqb-true part.second s.me (first-holds NotForAuthority (part.second == s.me) [] (order-first (first_failing (meant_for s.me part.second)) (behind-me s part first_signature) tt is))

behind : (s : AuthorityState) (part : Confirming) (first_signature : List ℕ) → Checks s part first_signature ≡ Ok tt
    → behind-me s part first_signature ≡ Ok tt
unfolding confirming_checks
behind s part first_signature is = order-then (first_failing (meant_for s.me part.second)) (behind-me s part first_signature) tt is

all-signed : (s : AuthorityState) (part : Confirming) (first_signature : List ℕ) → Checks s part first_signature ≡ Ok tt → all_signed s.keys (half_claims part first_signature) ≡ Ok tt
all-signed s part first_signature is =
    let signers = signers_answer s.keys (parties_of part part.first) (half_claims part first_signature) in
    order-then (all_known s.keys (parties_of part part.first)) (all_signed s.keys (half_claims part first_signature)) tt
    (no-error of_signers signers tt (order-first (with_error of_signers signers) (first_failing (content_tests s.keys.quorum part)) tt (behind s part first_signature is)))

are-two : (s : AuthorityState) (part : Confirming) (first_signature : List ℕ) → Checks s part first_signature ≡ Ok tt → part.first ≢ part.second
are-two s part first_signature is =
    let signers = signers_answer s.keys (parties_of part part.first) (half_claims part first_signature) in
    let tests = order-then (with_error of_signers signers) (first_failing (content_tests s.keys.quorum part)) tt (behind s part first_signature is) in
    let third = rest-holds BadPath (shows part) ((SameAuthority, not (part.first == part.second)) ∷ [])
    (rest-holds (FewVotes (vote_count part)) (nat_le s.keys.quorum (vote_count part)) ((BadPath, shows part) ∷ ((SameAuthority, not (part.first == part.second)) ∷ [])) tests) in
    let other : not (part.first == part.second) ≡ true = first-holds SameAuthority (not (part.first == part.second)) [] third in
    λ e. by (eqb part.first part.second) (eq-eqb part.first part.second e) other
  where
    by : (b : Bool) → b ≡ true → not b ≡ true → ⊥
    by true one other = absurd cc
    by false one other = absurd cc

-- ---- a leaf is left

due-some : (book : RollBook) (text : List ℕ) (due : DueParts) → entered book text ≡ Ok due → due_of (after_entry book text) text ≡ Some due
due-some book text due is = by (due_of (after_entry book text) text) refl is
  where
    by : (o : Option DueParts) → due_of (after_entry book text) text ≡ o → ok_or o Spent ≡ Ok due → due_of (after_entry book text) text ≡ Some due
    by None at h = absurd cc
    by (Some d) at h = let same : d ≡ due = cc in at ∙ ap (λ (x : DueParts). Some x) same

room-left : (book : RollBook) (text : List ℕ) (due : DueParts) → IsRollBook book → entered book text ≡ Ok due → HasRoom book (text ∷ [])
room-left book text due sound is = by (place_of (texts_of book) text) (has_room book) refl refl (due-some book text due is)
  where
    by : (place : Option ℕ) (room : Bool) → place_of (texts_of book) text ≡ place → has_room book ≡ room → due_of (after_entry book text) text ≡ Some due → HasRoom book (text ∷ [])
    by (Some k) room at _ has = rw at (omega (arith, sound.within book.newest))
    by None true at free has = rw at (omega (arith, ltb-true _ _ free))
    by None false at full has =
        let none : due_of (after_entry book text) text ≡ None = rw (at, full, at) refl in
        let wrong : ◌≡◌ {A = Option DueParts} None (Some due) = sym none ∙ has in
        absurd cc

due-there : {A : Type 0} (e : Result DueParts AuthorityRefusal) (f : DueParts → A) (x : A) → if_due e f ≡ Ok x → (due : DueParts) × ((e ≡ Ok due) × (f due ≡ x))
due-there (Ok due) f x is = (due, (refl, cc))
due-there (Err refusal) f x is = absurd cc

-- ---- the row

-- what it answers where something is due
abbrev Answering : AuthorityState → Confirming → List ℕ → DueParts → AuthorityState × Unsigned
Answering s part first_signature due = (
  record s { past = confirming s.me s.past (map seen_in (half_claims part first_signature)) (kept_of part) },
  sends s.signature_len (One (client_party part.client)) (message_text (confirmation_with part first_signature (zeros s.signature_len))) due,
)

abbrev Rest : AuthorityState → Confirming → List ℕ → AuthorityAnswer
Rest s part first_signature = if_due (entering s.past (kept_claim (authority_party s.me) (kept_of part))) (Answering s part first_signature)

pub row-checked : (s : AuthorityState) (ring : List KeyParts) (part : Confirming) (first_signature : List ℕ) (later : AuthorityState) (sent : Unsigned) → IsRollBook s.past.signed
    → IsMessage (HalfConfirmed part first_signature) → half_confirmed_row s part first_signature ≡ Ok (later, sent) → IsHalfConfirmed (confirmer_of s ring) part first_signature
unfolding half_confirmed_row confirming_with
row-checked s ring part first_signature later sent sound message e =
    let passed : Checks s part first_signature ≡ Ok tt = order-first (Checks s part first_signature) (Rest s part first_signature) (later, sent) e in
    let signed = each-verified s.keys (half_claims part first_signature) (all-signed s part first_signature passed) in
    let own : Party → List ℕ = λ p. text_of (claim_on (about_in part) (shown_in part.body) p) in
    let log : verified s.keys (log_party part.log) (own (log_party part.log)) part.signature ≡ Ok tt =
    signed (log_claimed part) (0, omega arith, refl) in
    let first : verified s.keys (authority_party part.first) (own (authority_party part.first)) first_signature ≡ Ok tt =
    signed (confirmed_by part (authority_party part.first) first_signature) (1, omega arith, refl) in
    let vote = λ (k : ℕ) (d : Vote) (less : k < length part.votes).
    let there = map-has (voted_by part) part.votes k d less in signed (voted_by part (get_or part.votes k d)) (suc (suc there.0), omega (arith, there.1), there.2) in
    let due = due-there (entering s.past (kept_claim (authority_party s.me) (kept_of part))) (Answering s part first_signature) (later, sent) (order-then (Checks s part first_signature) (Rest s part first_signature) (later, sent) e) in
    let room = room-left s.past.signed (text_of (kept_claim (authority_party s.me) (kept_of part))) due.0 sound
    (no-error of_book (entered s.past.signed (text_of (kept_claim (authority_party s.me) (kept_of part)))) due.0 due.1.0) in
    record {
      is_message = message;
      for_me = for-me s part first_signature passed;
      log = log-known s.keys part.log (own (log_party part.log)) part.signature log;
      voters = λ k d less. log-known s.keys (get_or part.votes k d).log _ (get_or part.votes k d).signature (vote k d less);
      first = authority-known s.keys part.first (own (authority_party part.first)) first_signature first;
      log_signed = log;
      first_signed = first;
      voters_signed = λ k d less. vote k d less;
      many = passed-many s part.second (parties_of part part.first) (half_claims part first_signature) part passed;
      path = (shown_decides (about_in part) (shown_in part.body) (path_in part.body)).0 (passed-shown s part.second (parties_of part part.first) (half_claims part first_signature) part passed);
      two = are-two s part first_signature passed;
      room = room;
    }

-- ---- it confirms what it has checked

known-voters : (keys : Directory) (part : Confirming) (votes : List Vote) (party : Party) → AllByRecursion (λ (v : Vote). IsVerifiedVote keys part v.log v.signature) votes → is_known keys party ≡ true
    → AllByRecursion (λ p. is_known keys p ≡ true) (map (λ (v : Vote). log_party v.log) votes ++ party ∷ [])
known-voters keys part [] party signed known = (known, tt)
known-voters keys part (v ∷ votes) party signed known =
    (signer-known keys (log_party v.log) (text_of (vote_claim v.log part.epoch (value_of part))) v.signature signed.0, known-voters keys part votes party signed.1 known)

signed-votes : (keys : Directory) (part : Confirming) (votes : List Vote) → AllByRecursion (λ (v : Vote). IsVerifiedVote keys part v.log v.signature) votes
    → AllByRecursion (λ (c : Claimed). verified keys c.party c.text c.signature ≡ Ok tt) (map (voted_by part) votes)
signed-votes keys part [] signed = tt
signed-votes keys part (v ∷ votes) signed = (signed.0, signed-votes keys part votes signed.1)

none-unknown : (keys : Directory) (parties : List Party) → AllByRecursion (λ p. is_known keys p ≡ true) parties → all_known keys parties ≡ Ok tt
none-unknown keys [] known = refl
none-unknown keys (p ∷ parties) known = ap (λ b. cond b (all_known keys parties) (Err (signer.Unknown p))) known.0 ∙ none-unknown keys parties known.1

none-unsigned : (keys : Directory) (claims : List Claimed) → AllByRecursion (λ (c : Claimed). verified keys c.party c.text c.signature ≡ Ok tt) claims → all_signed keys claims ≡ Ok tt
none-unsigned keys [] signed = refl
none-unsigned keys (c ∷ claims) signed = ap (λ a. result_and (with_error (signer_fault c.party) a) (all_signed keys claims)) signed.0 ∙ none-unsigned keys claims signed.1

checks-pass : (s : AuthorityState) (ring : List KeyParts) (part : Confirming) (first_signature : List ℕ) → IsHalfConfirmed (confirmer_of s ring) part first_signature → Checks s part first_signature ≡ Ok tt
unfolding confirming_checks
checks-pass s ring part first_signature is =
    let own : Party → List ℕ = λ p. text_of (claim_on (about_in part) (shown_in part.body) p) in
    let votes : AllByRecursion (λ (v : Vote). IsVerifiedVote s.keys part v.log v.signature) part.votes =
    recursion_from_All (λ (v : Vote). IsVerifiedVote s.keys part v.log v.signature) part.votes is.voters_signed in
    let log : is_known s.keys (log_party part.log) ≡ true = signer-known s.keys (log_party part.log) (own (log_party part.log)) part.signature is.log_signed in
    let first : is_known s.keys (authority_party part.first) ≡ true = signer-known s.keys (authority_party part.first) (own (authority_party part.first)) first_signature is.first_signed in
    let known : all_known s.keys (parties_of part part.first) ≡ Ok tt =
    none-unknown s.keys (parties_of part part.first) (log, known-voters s.keys part part.votes (authority_party part.first) votes first) in
    let signed : all_signed s.keys (half_claims part first_signature) ≡ Ok tt =
    none-unsigned s.keys (half_claims part first_signature) (is.log_signed, (is.first_signed, signed-votes s.keys part part.votes votes)) in
    let mine : first_failing (meant_for s.me part.second) ≡ Ok tt = none_fails (meant_for s.me part.second) (eq-eqb part.second s.me is.for_me, tt) in
    let content : first_failing (content_tests s.keys.quorum part) ≡ Ok tt =
    none_fails (content_tests s.keys.quorum part)
    (le-leb s.keys.quorum (vote_count part) is.many, ((shown_decides (about_in part) (shown_in part.body) (path_in part.body)).1 is.path, (ap not (ne_eqb part.first part.second is.two), tt))) in
    ap (λ a. result_and a (behind-me s part first_signature)) mine
    ∙ ap (λ a. result_and (with_error of_signers (result_and a (all_signed s.keys (half_claims part first_signature)))) (first_failing (content_tests s.keys.quorum part))) known
    ∙ ap (λ a. result_and (with_error of_signers a) (first_failing (content_tests s.keys.quorum part))) signed
    ∙ content

pub row-answers : (s : AuthorityState) (ring : List KeyParts) (part : Confirming) (first_signature : List ℕ) → IsConfirmer (confirmer_of s ring) → IsHalfConfirmed (confirmer_of s ring) part first_signature
    → (later : AuthorityState) × ((sent : Unsigned) × (half_confirmed_row s part first_signature ≡ Ok (later, sent)))
unfolding half_confirmed_row confirming_with
row-answers s ring part first_signature honest is =
    let own : OwnDue (confirmer_of s ring) part = own-due (confirmer_of s ring) part first_signature honest is in
    let entry : entering s.past (kept_claim (authority_party s.me) (kept_of part)) ≡ Ok own.due = ap (λ (o : Option DueParts). with_error of_book (ok_or o Spent)) own.entry in
    let made = Answering s part first_signature own.due in
    (made.0, (made.1, ap (λ c. result_and c (Rest s part first_signature)) (checks-pass s ring part first_signature is) ∙ ap (λ e. if_due e (Answering s part first_signature)) entry))

-- ---- what the row sends

pulled : (a b c x : List ℕ) → b ≡ c ++ x → a ++ b ≡ (a ++ c) ++ x
pulled a b c x is = ap (λ r. a ++ r) is ∙ sym (append_assoc a c x)

-- the front of a confirmation's text, up to the bytes of the second authority's signature, of which there are so many
front-text : Confirming → List ℕ → ℕ → List ℕ
front-text part first_signature n =
    number_text w8 12 ++ (form_text (is_present (shown_in part.body)) ++ (subject_text (about_in part) ++ (body_text (shown_in part.body)
    ++ (path_text (path_in part.body) ++ (signed_text (signed_in part.log part.signature) ++ (signed_text (signed_in part.first first_signature)
    ++ (number_text w16 part.second ++ number_text w16 n)))))))

text-ends : (part : Confirming) (first_signature signature : List ℕ) → message_text (confirmation_with part first_signature signature) ≡ front-text part first_signature (length signature) ++ signature
unfolding message_text fields_text confirmation_fields_text front-text
text-ends part first_signature signature =
    pulled kind (form ++ (subject ++ (body ++ (path ++ (log ++ (first ++ last)))))) (form ++ (subject ++ (body ++ (path ++ (log ++ (first ++ front)))))) signature
    (pulled form (subject ++ (body ++ (path ++ (log ++ (first ++ last))))) (subject ++ (body ++ (path ++ (log ++ (first ++ front))))) signature
    (pulled subject (body ++ (path ++ (log ++ (first ++ last)))) (body ++ (path ++ (log ++ (first ++ front)))) signature
    (pulled body (path ++ (log ++ (first ++ last))) (path ++ (log ++ (first ++ front))) signature
    (pulled path (log ++ (first ++ last)) (log ++ (first ++ front)) signature
    (pulled log (first ++ last) (first ++ front) signature
    (pulled first last front signature
    (pulled (number_text w16 part.second) (number_text w16 (length signature) ++ signature) (number_text w16 (length signature)) signature refl)))))))
  where
    kind : List ℕ
    kind = number_text w8 12

    form : List ℕ
    form = form_text (is_present (shown_in part.body))

    subject : List ℕ
    subject = subject_text (about_in part)

    body : List ℕ
    body = body_text (shown_in part.body)

    path : List ℕ
    path = path_text (path_in part.body)

    log : List ℕ
    log = signed_text (signed_in part.log part.signature)

    first : List ℕ
    first = signed_text (signed_in part.first first_signature)

    last : List ℕ
    last = number_text w16 part.second ++ (number_text w16 (length signature) ++ signature)

    front : List ℕ
    front = number_text w16 part.second ++ number_text w16 (length signature)

-- bytes written over the last ones
written-last : (front old new : List ℕ) → length old ≡ length new → written_at (length (front ++ old) - length new) new (front ++ old) ≡ front ++ new
written-last front old new same =
    let place : length (front ++ old) - length new ≡ length front = omega (arith, same, length-append front old) in
    let before : take (length front) (front ++ old) ≡ front = take-append_seam front old in
    let behind : drop (length front + length new) (front ++ old) ≡ [] = drop_of_length-le (front ++ old) (omega (arith, same, length-append front old)) in
    ap (λ n. take n (front ++ old) ++ (new ++ drop (n + length new) (front ++ old))) place
    ∙ ap (λ l. l ++ (new ++ drop (length front + length new) (front ++ old))) before
    ∙ ap (λ l. front ++ (new ++ l)) behind ∙ ap (λ l. front ++ l) (append-nil new)

length-blank : (n : ℕ) → length (zeros n) ≡ n
length-blank n = length-replicate n 0

-- the second authority's message, with its signature over the blank
filled-bytes : (part : Confirming) (first_signature signature : List ℕ) (len : ℕ) → length signature ≡ len
    → written_at (length (message_text (confirmation_with part first_signature (zeros len))) - len) signature (message_text (confirmation_with part first_signature (zeros len)))
    ≡ message_text (confirmation_with part first_signature signature)
filled-bytes part first_signature signature len same =
    let old : List ℕ = zeros len in
    let long : length old ≡ length signature = length-blank len ∙ sym same in
    let whole = text-ends part first_signature old in
    ap (λ w. written_at (length w - len) signature w) whole
    ∙ ap (λ n. written_at (length (front-text part first_signature (length old) ++ old) - n) signature (front-text part first_signature (length old) ++ old)) (sym same)
    ∙ written-last (front-text part first_signature (length old)) old signature long
    ∙ ap (λ n. front-text part first_signature n ++ signature) long
    ∙ sym (text-ends part first_signature signature)

-- the letter to the client
abbrev to-client : Confirming → List ℕ → Letter
to-client part bytes = record { to = One (client_party part.client); bytes = bytes }

filled-letter : (ring : List KeyParts) (len : ℕ) (to : Address) (bytes : List ℕ) (due : DueParts)
    → (filled ring (sends len to bytes due)).messages ≡ record { to = to; bytes = written_at (length bytes - len) (signature_due ring due) bytes } ∷ []
unfolding signed
filled-letter ring len to bytes due = refl

row-sent : (s : AuthorityState) (ring : List KeyParts) (part : Confirming) (first_signature : List ℕ) (later : AuthorityState) (sent : Unsigned) → half_confirmed_row s part first_signature ≡ Ok (later, sent)
    → length (own_signature (confirmer_of s ring) part) ≡ s.signature_len
    → (filled ring sent).messages ≡ record { to = One (client_party part.client); bytes = bytes_to_client (confirmer_of s ring) part first_signature } ∷ []
unfolding half_confirmed_row confirming_with
row-sent s ring part first_signature later sent e long =
    let passed : Checks s part first_signature ≡ Ok tt = order-first (Checks s part first_signature) (Rest s part first_signature) (later, sent) e in
    let text : List ℕ = text_of (kept_claim (authority_party s.me) (kept_of part)) in
    let due = due-there (entering s.past (kept_claim (authority_party s.me) (kept_of part))) (Answering s part first_signature) (later, sent) (order-then (Checks s part first_signature) (Rest s part first_signature) (later, sent) e) in
    let is-due : due_of (after_entry s.past.signed text) text ≡ Some due.0 = due-some s.past.signed text due.0 (no-error of_book (entered s.past.signed text) due.0 due.1.0) in
    let signature : own_signature (confirmer_of s ring) part ≡ signature_due ring due.0 = ap (signature_for ring) is-due in
    let own : List ℕ = signature_due ring due.0 in
    let own-long : length own ≡ s.signature_len = ap (λ (l : List ℕ). length l) (sym signature) ∙ long in
    let bytes : List ℕ = message_text (confirmation_with part first_signature (zeros s.signature_len)) in
    let out : sends s.signature_len (One (client_party part.client)) bytes due.0 ≡ sent = ap (λ (p : AuthorityState × Unsigned). p.1) due.1.1 in
    ap (λ u. (filled ring u).messages) (sym out)
    ∙ filled-letter ring s.signature_len (One (client_party part.client)) bytes due.0
    ∙ ap (λ b. to-client part b ∷ []) (filled-bytes part first_signature own s.signature_len own-long)
    ∙ ap (λ g. to-client part (message_text (confirmation_with part first_signature g)) ∷ []) (sym signature)
    ∙ ap (λ n. to-client part (message_text (Confirmation part.client part.epoch part.name part.root part.body part.log part.signature part.first first_signature n (own_signature (confirmer_of s ring) part))) ∷ [])
    (for-me s part first_signature passed)

-- ---- the client

-- the one message that is sent, by the authority with its keys
pub row-letter : (s : AuthorityState) (ring : List KeyParts) (part : Confirming) (first_signature : List ℕ) (later : AuthorityState) (sent : Unsigned) → IsWithRing s ring → IsMessage (HalfConfirmed part first_signature)
    → half_confirmed_row s part first_signature ≡ Ok (later, sent)
    → (filled ring sent).messages ≡ record { to = One (client_party part.client); bytes = bytes_to_client (confirmer_of s ring) part first_signature } ∷ []
row-letter s ring part first_signature later sent keyed message e =
    row-sent s ring part first_signature later sent e
    (own-length (confirmer_of s ring) part first_signature s.signature_len keyed.confirmer (row-checked s ring part first_signature later sent keyed.confirmer.honest.sound message e) keyed.bytes)

-- its bytes
letter-bytes : (s : AuthorityState) (ring : List KeyParts) (part : Confirming) (first_signature : List ℕ) (later : AuthorityState) (sent : Unsigned) → IsWithRing s ring → IsMessage (HalfConfirmed part first_signature)
    → half_confirmed_row s part first_signature ≡ Ok (later, sent) → letter_bytes (filled ring sent).messages 0 ≡ bytes_to_client (confirmer_of s ring) part first_signature
letter-bytes s ring part first_signature later sent keyed message e = ap (λ ls. letter_bytes ls 0) (row-letter s ring part first_signature later sent keyed message e)

pub row-accepted : (s : AuthorityState) (ring : List KeyParts) (part : Confirming) (first_signature : List ℕ) (later : AuthorityState) (sent : Unsigned) (asked : Asked) (certificate : Certificate) → IsWithRing s ring
    → IsMessage (HalfConfirmed part first_signature) → half_confirmed_row s part first_signature ≡ Ok (later, sent) → KnowsSigners (confirmer_of s ring) part first_signature asked.keys → IsInTime part asked
    → shown_in part.body ≡ confirmation.present certificate
    → judgement asked (letter_bytes (filled ring sent).messages 0) ≡ judgements.Accepted certificate (digest_of certificate) part.epoch part.root
row-accepted s ring part first_signature later sent asked certificate keyed message e knows in_time shown =
    subst (λ b. judgement asked b ≡ judgements.Accepted certificate (digest_of certificate) part.epoch part.root)
    (sym (letter-bytes s ring part first_signature later sent keyed message e))
    (sent-accepted (confirmer_of s ring) part first_signature asked certificate keyed.confirmer (row-checked s ring part first_signature later sent keyed.confirmer.honest.sound message e) knows in_time shown)

pub row-absent : (s : AuthorityState) (ring : List KeyParts) (part : Confirming) (first_signature : List ℕ) (later : AuthorityState) (sent : Unsigned) (asked : Asked) (bottom : Bottom) → IsWithRing s ring
    → IsMessage (HalfConfirmed part first_signature) → half_confirmed_row s part first_signature ≡ Ok (later, sent) → KnowsSigners (confirmer_of s ring) part first_signature asked.keys → IsInTime part asked
    → shown_in part.body ≡ confirmation.absent bottom
    → judgement asked (letter_bytes (filled ring sent).messages 0) ≡ judgements.Absent part.epoch part.root
row-absent s ring part first_signature later sent asked bottom keyed message e knows in_time shown =
    subst (λ b. judgement asked b ≡ judgements.Absent part.epoch part.root)
    (sym (letter-bytes s ring part first_signature later sent keyed message e))
    (sent-absent (confirmer_of s ring) part first_signature asked bottom keyed.confirmer (row-checked s ring part first_signature later sent keyed.confirmer.honest.sound message e) knows in_time shown)
