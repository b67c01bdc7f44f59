-- The keys of an authority sign what its rows leave blank, and a row leaves the keys its own.
use Rattle.std.proofs.Common.{◌≡◌, ℕ, ◌-◌, ◌≤◌, ◌==◌, List, [], ◌∷◌, ◌++◌, length, Bool, true, false, cond, Option, Some, None, Result, Ok, Err, refl, sym, subst, arith}
use Rattle.std.specs.Prelude.{All, IfOk, option_and_then, slice_get}
use Rattle.std.specs.Int.{w8, w16, w32}
use Rattle.std.specs.Option.{ok_or, option_map}
use Rattle.std.proofs.lemmas.List.{length-append, length-replicate}
use Rattle.std.proofs.lemmas.List.Elements.{All-append, All-cons, All-get_or, All-nil}
use Rattle.std.proofs.lemmas.Option.{get_or_from_slice_get, slice_get_within}
use Rattle.ar_base.specs.Places.{place_of}
use Rattle.ar_base.proofs.Giving.{no-error}
use Rattle.ar_bytes.specs.RoundTrip.{counted_text, number_text}
use Rattle.ar_message.specs.Confirmation.{body_text, confirmation_fields_text, form_text, is_present, path_text, signed_text, subject_text}
use Rattle.ar_message.specs.Filling.{CanFill, FitsIn, IsBlank, lengths, nothing, zeros}
use Rattle.ar_message.specs.Messages.{about_in, confirming_text, fields_text, message_text, path_in, shown_in, signed_in}
use Rattle.ar_message.specs.declared.address.Address.{Address}
use Rattle.ar_message.specs.declared.address.Address.TheVariants.{Logs, One}
use Rattle.ar_message.specs.declared.message.Confirming.{Confirming}
use Rattle.ar_message.specs.declared.message.Message.{Message}
use Rattle.ar_message.specs.declared.message.Message.TheVariants.{HalfConfirmed}
use Rattle.ar_message.specs.declared.unsigned.Unsigned.{Unsigned}
use Rattle.ar_statement.specs.Claims.{Claim, authority_party, client_party, endorse, owner_party, party_text, text_of}
use Rattle.key_roll.specs.Book.{IsRollBook, RollBook, texts_of}
use Rattle.key_roll.specs.Due.{DueParts}
use Rattle.key_roll.specs.Entry.{after_at, after_entry, due_at, entered, has_room, roll_text}
use Rattle.key_roll.specs.Ring.{IsNext, Owes}
use Rattle.keyed_core.specs.Signing as signing
use Rattle.keyed_core.proofs.Signed as signed
use Rattle.key_roll.proofs.Rings.{next_keys, owed_by}
use Rattle.key_roll.proofs.Books.{IsSameBook, due_for, entry-same}
use Rattle.ar_statement.specs.declared.fault.BookFault.TheVariants.{Spent}
use Rattle.key_roll.specs.declared.fault.RollFault.TheVariants.{Last}
use Rattle.key_roll.specs.declared.signed.SignedText.{SignedText}
use Rattle.lms_tree.specs.Key.{public_of}
use Rattle.lms_tree.specs.KeyParts.{KeyParts}
use Rattle.lms_tree.specs.PublicKey.{key_text}
use Rattle.lms_tree.specs.declared.public_key.LmsPublic.{LmsPublic}
use Rattle.owner_check.specs.declared.answer.Outcome.{Outcome}
use Rattle.party_keys.specs.Learning.{Announced}
use Rattle.authority_core.specs.Calls.{kept_claim}
use Rattle.authority_core.specs.ConfirmRows.{confirmation_with, half_claims, log_claims}
use Rattle.authority_core.specs.Confirming.{kept_of}
use Rattle.authority_core.specs.EndorseRow.{asked_of, endorsed_message}
use Rattle.authority_core.specs.Keyed.{IsRingOf, SendsBy}
use Rattle.authority_core.specs.Refusals.{of_book}
use Rattle.authority_core.specs.RollRows.{learning, roll_by, roll_message, roll_row, rolling}
use Rattle.authority_core.specs.Row.{row}
use Rattle.authority_core.specs.State.{AuthorityAnswer, AuthorityState, StepsBy, entering, most_sent, sends}
use Rattle.authority_core.specs.declared.entries.Approved.{Approved}
use Rattle.authority_core.specs.declared.refusal.AuthorityRefusal.{AuthorityRefusal}
use Rattle.authority_core.specs.declared.refusal.AuthorityRefusal.TheVariants.{Memory}
use Rattle.authority_core.proofs.Few.{rolling-few}
use Rattle.party_keys.specs.Signers.{Claimed}
use Rattle.authority_core.proofs.EachRow.{AnswersWith, confirmed_by, confirmed_out, endorsed_by, endorsed_out, row-gives}

-- ---- the signature's bytes are the last ones of a message

behind : (n : ℕ) (front back : List ℕ) → n ≤ length back → n ≤ length (front ++ back)
behind n front back less = omega (arith, less, length-append front back)

last : (len : ℕ) → len ≤ length (counted_text (zeros len))
last len = behind len (number_text w16 (length (zeros len))) (zeros len) (omega (arith, length-replicate {A = ℕ} len 0))

pub endorsed-fits : (s : AuthorityState) (owner : ℕ) (certificate : List ℕ) → s.signature_len ≤ length (message_text (endorsed_message s owner certificate))
unfolding message_text fields_text
endorsed-fits s owner certificate =
    behind s.signature_len (number_text w8 2) _
    (behind s.signature_len (number_text w16 owner) _
    (behind s.signature_len (number_text w16 s.me) _ (behind s.signature_len certificate _ (last s.signature_len))))

pub half-fits : (part : Confirming) (len : ℕ) → len ≤ length (message_text (HalfConfirmed part (zeros len)))
unfolding message_text fields_text
half-fits part len = behind len (number_text w8 11) _ (behind len (confirming_text part) _ (last len))

pub confirmation-fits : (part : Confirming) (first_signature : List ℕ) (len : ℕ) → len ≤ length (message_text (confirmation_with part first_signature (zeros len)))
unfolding message_text fields_text confirmation_fields_text
confirmation-fits part first_signature len =
    behind len (number_text w8 12) _
    (behind len (form_text (is_present (shown_in part.body))) _
    (behind len (subject_text (about_in part)) _
    (behind len (body_text (shown_in part.body)) _
    (behind len (path_text (path_in part.body)) _
    (behind len (signed_text (signed_in part.log part.signature)) _
    (behind len (signed_text (signed_in part.first first_signature)) _
    (behind len (number_text w16 part.second) _ (last len))))))))

pub note-fits : (s : AuthorityState) (next : LmsPublic) → s.signature_len ≤ length (message_text (roll_message s next))
unfolding message_text fields_text
note-fits s next =
    behind s.signature_len (number_text w8 13) _
    (behind s.signature_len (party_text (authority_party s.me)) _
    (behind s.signature_len (number_text w32 s.past.signed.newest) _ (behind s.signature_len (key_text next) _ (last s.signature_len))))

-- one message, whose last bytes are the signature that is due
pub can-fill : (keys : List KeyParts) (len : ℕ) (to : Address) (bytes : List ℕ) (due : DueParts) → Owes keys due len → len ≤ length bytes → CanFill keys (sends len to bytes due)
can-fill keys len to bytes due owes less =
    let fits : FitsIn keys (length bytes) (length bytes - len) due = record { len = len; owes = owes; inside = omega (arith, less) } in
    All-cons (IsBlank keys (lengths (sends len to bytes due).sent.messages)) (record { message = 0; at = length bytes - len; due = due }) []
    (record { whole = length bytes; named = refl; fits = fits }) (All-nil (IsBlank keys (lengths (sends len to bytes due).sent.messages)))

-- ---- what is due of an authority's book is due of its keys

-- something is due with these leaves, of a generation up to this one
pub record IsDueOf (leaves newest : ℕ) (due : DueParts) : Type 0 where
  pub counts_on : due.leaves ≡ leaves
  pub upto : due.generation ≤ newest

pub owed : (s : AuthorityState) (keys : List KeyParts) (due : DueParts) → IsRingOf s keys → IsDueOf s.past.signed.leaves s.past.signed.newest due → Owes keys due s.signature_len
owed s keys due is of-book = owed_by s.past.signed s.signature_len keys due is of-book.upto of-book.counts_on

-- an entry is of a generation up to this one
abbrev IsUpTo : ℕ → SignedText → Type 0
IsUpTo newest s = s.generation ≤ newest

entry-upto : (book : RollBook) (text : List ℕ) → IsRollBook book → All (IsUpTo book.newest) (after_entry book text).list
entry-upto book text sound = by (place_of (texts_of book) text) (has_room book) refl
  where
    added : All (IsUpTo book.newest) (book.list ++ record { generation = book.newest; text = text } ∷ [])
    added = All-append (IsUpTo book.newest) book.list (record { generation = book.newest; text = text } ∷ []) sound.upto
        (All-cons (IsUpTo book.newest) (record { generation = book.newest; text = text }) [] (omega arith) (All-nil (IsUpTo book.newest)))

    by : (place : Option ℕ) (room : Bool) → has_room book ≡ room → All (IsUpTo book.newest) (after_at book text place).list
    by (Some k) room is = sound.upto
    by None true is = rw is added
    by None false is = rw is sound.upto

of-entry : (book : RollBook) (newest : ℕ) (place : Option ℕ) (due : DueParts) → All (IsUpTo newest) book.list → ok_or (option_and_then (due_at book) place) Spent ≡ Ok due
    → IsDueOf book.leaves newest due
of-entry book newest None due all e = absurd cc
of-entry book newest (Some k) due all e = by (slice_get book.list k) refl e
  where
    by : (found : Option SignedText) → slice_get book.list k ≡ found → ok_or (option_map (due_for book k) found) Spent ≡ Ok due → IsDueOf book.leaves newest due
    by None at is = absurd cc
    by (Some s) at is =
        let same : due_for book k s ≡ due = cc in
        let upto : IsUpTo newest s = subst (IsUpTo newest) (get_or_from_slice_get book.list k s s at) (All-get_or (IsUpTo newest) book.list k s (slice_get_within book.list k s at) all) in
        subst (IsDueOf book.leaves newest) same (record { counts_on = refl; upto = upto })

entered-due : (book : RollBook) (text : List ℕ) (due : DueParts) → IsRollBook book → entered book text ≡ Ok due → IsDueOf book.leaves book.newest due
entered-due book text due sound e =
    subst (λ n. IsDueOf n book.newest due) (entry-same book text).leaves
    (of-entry (after_entry book text) book.newest (place_of (texts_of (after_entry book text)) text) due (entry-upto book text sound) e)

pub entering-owes : (s : AuthorityState) (keys : List KeyParts) (claim : Claim) (due : DueParts) → IsRingOf s keys → IsRollBook s.past.signed → entering s.past claim ≡ Ok due → Owes keys due s.signature_len
entering-owes s keys claim due is sound e =
    owed s keys due is (entered-due s.past.signed (text_of claim) due sound (no-error of_book (entered s.past.signed (text_of claim)) due e))

-- ---- rows

-- what a step keeps of an authority: its keys stay those of its book
pub record IsSameKeys (s later : AuthorityState) : Type 0 where
  pub book : IsSameBook s.past.signed later.past.signed
  pub len : later.signature_len ≡ s.signature_len

pub keys-stay : (s later : AuthorityState) (keys : List KeyParts) → IsRingOf s keys → IsSameKeys s later → IsRingOf later keys
keys-stay s later keys is same =
    signed.keys-stay s.past.signed later.past.signed keys s.signature_len later.signature_len same.book same.len is

-- the keys sign what an answer leaves blank, and stay the authority's own
pub record IsSignedBy (s : AuthorityState) (keys : List KeyParts) (later : AuthorityState) (sent : Unsigned) : Type 0 where
  pub fills : CanFill keys sent
  pub stays : IsSameKeys s later

abbrev pub Signs : AuthorityState → List KeyParts → AuthorityAnswer → Type 0
Signs s keys answer = AnswersWith (IsSignedBy s keys) answer

endorsed-signs : (s : AuthorityState) (keys : List KeyParts) (owner : ℕ) (a : Approved) (due : DueParts) → IsRingOf s keys → IsRollBook s.past.signed
    → entering s.past (endorse s.me a.certificate) ≡ Ok due → IsSignedBy s keys (endorsed_by s a) (endorsed_out s owner a due)
endorsed-signs s keys owner a due is sound e = record {
  fills = can-fill keys s.signature_len (One (owner_party owner)) (message_text (endorsed_message s owner a.certificate)) due (entering-owes s keys (endorse s.me a.certificate) due is sound e)
      (endorsed-fits s owner a.certificate);
  stays = record { book = entry-same s.past.signed (text_of (endorse s.me a.certificate)); len = refl };
}

-- a confirmation is signed and sent
confirmed-signs : (s : AuthorityState) (keys : List KeyParts) (claims : List Claimed) (part : Confirming) (to : Address) (message : List ℕ → Message) (due : DueParts) → IsRingOf s keys → IsRollBook s.past.signed
    → entering s.past (kept_claim (authority_party s.me) (kept_of part)) ≡ Ok due → s.signature_len ≤ length (message_text (message (zeros s.signature_len)))
    → IsSignedBy s keys (confirmed_by s claims part) (confirmed_out s to message due)
confirmed-signs s keys claims part to message due is sound e less = record {
  fills = can-fill keys s.signature_len to (message_text (message (zeros s.signature_len))) due (entering-owes s keys (kept_claim (authority_party s.me) (kept_of part)) due is sound e) less;
  stays = record { book = entry-same s.past.signed (text_of (kept_claim (authority_party s.me) (kept_of part))); len = refl };
}

-- nothing is sent
learnt-signs : (s : AuthorityState) (keys : List KeyParts) (a : Announced) → IsSignedBy s keys (learning s a) nothing
learnt-signs s keys a = record { fills = All-nil (IsBlank keys []); stays = record { book = record { leaves = refl; newest = refl }; len = refl } }

pub row-signs : (s : AuthorityState) (keys : List KeyParts) (retired : Bool) (m : Result Message ℕ) (said : Outcome) → IsRingOf s keys → IsRollBook s.past.signed → Signs s keys (row s retired m said)
row-signs s keys retired m said is sound = row-gives (λ read. IsSignedBy s keys) s retired m said (record {
  endorses = λ owner cert due stays yes entered. endorsed-signs s keys owner (asked_of cert) due is sound entered;
  first = λ part due passed entered.
      confirmed-signs s keys (log_claims part) part (One (authority_party part.second)) (λ signature. HalfConfirmed part signature) due is sound entered (half-fits part s.signature_len);
  second = λ part signature due passed entered.
      confirmed-signs s keys (half_claims part signature) part (One (client_party part.client)) (confirmation_with part signature) due is sound entered
      (confirmation-fits part signature s.signature_len);
  notes = λ a how learnt. learnt-signs s keys a;
})

-- ---- a roll

-- the keys with the next behind them are those of the authority that rolled
pub rolled-ring : (s : AuthorityState) (keys : List KeyParts) (next : KeyParts) → IsRingOf s keys → IsNext keys next → IsRingOf (rolling s (public_of next)) (keys ++ next ∷ [])
rolled-ring s keys next is behind-newest =
    next_keys s.past.signed (roll_text (authority_party s.me) s.past.signed.newest (public_of next)) s.signature_len keys next is behind-newest

-- what a roll answers
pub record IsRolledBy (s : AuthorityState) (keys : List KeyParts) (next : LmsPublic) (later : AuthorityState) (sent : Unsigned) : Type 0 where
  pub fills : CanFill keys sent
  pub is : later ≡ rolling s next

pub roll-signs : (s : AuthorityState) (keys : List KeyParts) (next : LmsPublic) (later : AuthorityState) (sent : Unsigned) → IsRingOf (rolling s next) keys → roll_row s next ≡ Ok (later, sent) → IsRolledBy s keys next later sent
unfolding roll_row
roll-signs s keys next later sent is e = by (s.past.signed.newest == 999) e
  where
    text : List ℕ
    text = roll_text (authority_party s.me) s.past.signed.newest next

    due : DueParts
    due = record { generation = s.past.signed.newest; leaf = s.past.signed.leaves - 1; text = text; leaves = s.past.signed.leaves }

    by : (last : Bool) → roll_by s next (cond last (Err Last) (Ok due)) ≡ Ok (later, sent) → IsRolledBy s keys next later sent
    by true h = absurd cc
    by false h =
        let upto : due.generation ≤ (rolling s next).past.signed.newest = omega arith in
        let owes : Owes keys due s.signature_len = owed (rolling s next) keys due is (record { counts_on = refl; upto = upto }) in
        let pair : (rolling s next, sends s.signature_len Logs (message_text (roll_message s next)) due) ≡ (later, sent) = cc in
        subst (λ (p : AuthorityState × Unsigned). IsRolledBy s keys next p.0 p.1) pair
        (record { fills = can-fill keys s.signature_len Logs (message_text (roll_message s next)) due owes (note-fits s next); is = refl })

-- the keys with the next behind them sign what a roll leaves blank, and are those of the authority that rolled
pub rolled-signs : (s : AuthorityState) (keys more : List KeyParts) (next : KeyParts) (later : AuthorityState) (sent : Unsigned) → IsRingOf s keys → IsNext keys next → more ≡ keys ++ next ∷ []
    → roll_row s (public_of next) ≡ Ok (later, sent) → signing.IsSignedBy more later.past.signed later.signature_len sent
rolled-signs s keys more next later sent is behind-newest more-are e =
    let ring : IsRingOf (rolling s (public_of next)) (keys ++ next ∷ []) = rolled-ring s keys next is behind-newest in
    let rolled : IsRolledBy s (keys ++ next ∷ []) (public_of next) later sent = roll-signs s (keys ++ next ∷ []) (public_of next) later sent ring e in
    subst (λ (l : List KeyParts). signing.IsSignedBy l later.past.signed later.signature_len sent) (sym more-are)
    (record { fills = rolled.fills; stays = subst (λ (a : AuthorityState). IsRingOf a (keys ++ next ∷ [])) (sym rolled.is) ring })

-- ---- a call that rolls

pub rolls-signed : (result : Result Unsigned AuthorityRefusal) (s later : AuthorityState) (key : LmsPublic) (keys : List KeyParts) (next : KeyParts) → StepsBy result s later (roll_row s key)
    → IsRingOf s keys → IsNext keys next → key ≡ public_of next → IfOk result (λ unsigned. signing.IsSignedBy (keys ++ next ∷ []) later.past.signed later.signature_len unsigned)
rolls-signed (Ok unsigned) s later key keys next steps are behind is =
    rolled-signs s keys (keys ++ next ∷ []) next later unsigned are behind refl (subst (λ (k : LmsPublic). roll_row s k ≡ Ok (later, unsigned)) is steps)
rolls-signed (Err refusal) s later key keys next steps are behind is = tt

pub roll-sends : (keys : List KeyParts) (result : Result Unsigned AuthorityRefusal) (s later : AuthorityState) (key : LmsPublic) → StepsBy result s later (roll_row s key)
    → SendsBy keys (signing.signed keys result) s later (roll_row s key)
roll-sends keys result s later key steps =
    signed.signed-sends Memory (λ new sent. (new, sent)) (λ a. a) (λ new sent. refl) keys result s later (roll_row s key) steps

pub roll-few : (result : Result Unsigned AuthorityRefusal) (s later : AuthorityState) (key : LmsPublic) → StepsBy result s later (roll_row s key)
    → IfOk result (λ unsigned. length unsigned.sent.messages ≤ most_sent)
roll-few (Ok unsigned) s later key steps = rolling-few s key later unsigned steps
roll-few (Err refusal) s later key steps = tt
