-- A row of an owner does not look at the room of its book: what it gives is the same, but for that.
use Rattle.std.proofs.Common.{◌≡◌, ℕ, List, [], Option, Some, None, Result, Ok, Err, refl, ap, ◌∙◌}
use Rattle.std.specs.Result.{result_map_both}
use Rattle.ar_base.specs.Chaining.{◌>>=◌}
use Rattle.ar_base.specs.Gives.{with_error}
use Rattle.ar_cert.specs.Certificate.{Certificate, digest_of}
use Rattle.ar_message.specs.Messages.{message_in}
use Rattle.ar_message.specs.declared.message.Message.{Message}
use Rattle.ar_message.specs.declared.sent.Sent.{Sent}
use Rattle.ar_statement.specs.Claims.{Claim, answer, authority_party, endorse, handover, object, text_of}
use Rattle.ar_statement.specs.declared.fault.BookFault.{BookFault}
use Rattle.lms_tree.specs.Key.{signature_of}
use Rattle.owner_core.specs.Drafts.{changed_draft, endorsed, handed_over}
use Rattle.owner_core.specs.Objecting.{objection}
use Rattle.owner_core.specs.Rows.{OwnerAnswer, attach_row, begin_row, endorsed_row, handover_row, is_own, message_row, object_row, roll_refusal, roll_row, sent, staple_row, step_row, submission, verified_as, with_drafts}
use Rattle.owner_core.specs.Signing.{signed_at, signed_by_owner}
use Rattle.owner_core.specs.State.{Owner}
use Rattle.owner_core.specs.declared.refusal.OwnerRefusal.{OwnerRefusal}
use Rattle.owner_core.specs.declared.refusal.OwnerRefusal.TheVariants.{Form}
use Rattle.party_keys.specs.Learning.{Announced, after_learning, learned}
use Rattle.party_keys.specs.Signatures.{verified}
use Rattle.sign_book.specs.Book.{Book}
use Rattle.sign_book.specs.Entry.{after_at, leaf_at, leaf_of}
use Rattle.ar_base.specs.Places.{place_of}
use Rattle.owner_keeper.specs.Keeping.{attached, handing_row, roomless}
use Rattle.owner_keeper.proofs.EachRow.{message-has}

-- the answer, without the room of the owner's book
abbrev pub over : {T : Type 0} → OwnerAnswer T → OwnerAnswer T
over row = result_map_both (λ r. (r.0, roomless r.1)) (λ refusal. refusal) row

bound : {A T : Type 0} (r : Result A OwnerRefusal) (f g : A → OwnerAnswer T) → ((x : A) → f x ≡ over (g x)) → (r >>= f) ≡ over (r >>= g)
bound (Ok x) f g same = same x
bound (Err refusal) f g same = refl

-- ---- messages

endorsed-over : (me : Owner) (owner authority : ℕ) (certificate signature : List ℕ) → endorsed_row (roomless me) owner authority certificate signature ≡ over (endorsed_row me owner authority certificate signature)
endorsed-over me owner authority certificate signature =
    let drafts = changed_draft me.drafts certificate (endorsed (record { authority = authority; signature = signature })) in
    let valid = verified_as (authority_party authority) (verified me.directory (authority_party authority) (text_of (endorse authority certificate)) signature) in
    bound (is_own me owner) (λ own. valid >>= λ v. drafts >>= λ d. with_drafts (roomless me) d) (λ own. valid >>= λ v. drafts >>= λ d. with_drafts me d) (λ own.
    bound valid (λ v. drafts >>= λ d. with_drafts (roomless me) d) (λ v. drafts >>= λ d. with_drafts me d) (λ v.
    bound drafts (λ d. with_drafts (roomless me) d) (λ d. with_drafts me d) (λ d. refl)))

roll-over : (me : Owner) (a : Announced) → roll_row (roomless me) a ≡ over (roll_row me a)
roll-over me a =
    bound (with_error (roll_refusal a.party a.generation) (learned me.directory a)) (λ new. Ok (sent [], record (roomless me) { directory = after_learning me.directory a }))
    (λ new. Ok (sent [], record me { directory = after_learning me.directory a })) (λ new. refl)

message-over : (me : Owner) (m : Message) → message_row (roomless me) m ≡ over (message_row me m)
message-over me m =
    message-has (λ row. row (roomless me) ≡ over (row me)) (record { endorsed = endorsed-over me; roll = roll-over me; other = refl }) m

pub step_over : (me : Owner) (bytes : List ℕ) → step_row (roomless me) bytes ≡ over (step_row me bytes)
step_over me bytes = bound (with_error Form (message_in bytes)) (message_row (roomless me)) (message_row me) (message-over me)

pub begin_over : (me : Owner) (cert : Certificate) (asks : List ℕ) → begin_row (roomless me) cert asks ≡ over (begin_row me cert asks)
begin_over me cert asks = refl

-- ---- signatures

leaf-over : (book : Book) (place : Option ℕ) → leaf_at (record book { room = 0 }) place ≡ leaf_at book place
leaf-over book (Some place) = refl
leaf-over book None = refl

entry-over : (book : Book) (text : List ℕ) (place : Option ℕ) → ◌≡◌ {A = Book} (after_at (record book { room = 0 }) text place) (record (after_at book text place) { room = 0 })
entry-over book text (Some place) = refl
entry-over book text None = refl

signed-over : (me : Owner) (text : List ℕ) (leaf : Result ℕ BookFault) → signed_at (roomless me) text leaf ≡ over (signed_at me text leaf)
signed-over me text (Ok leaf) =
    ap (λ (b : Book). Ok (signature_of me.key leaf text, record me { book = b })) (entry-over me.book text (place_of me.book.texts text))
signed-over me text (Err fault) = refl

claim-over : (me : Owner) (claim : Claim) → signed_by_owner (roomless me) claim ≡ over (signed_by_owner me claim)
claim-over me claim =
    ap (signed_at (roomless me) (text_of claim)) (leaf-over me.book (place_of me.book.texts (text_of claim)))
    ∙ signed-over me (text_of claim) (leaf_of me.book (text_of claim))

pub staple_over : (me : Owner) (name certificate challenge : List ℕ) → staple_row (roomless me) name certificate challenge ≡ over (staple_row me name certificate challenge)
staple_over me name certificate challenge = claim-over me (answer name certificate challenge)

-- what is made of a signature, by the owner behind it
abbrev objected : Certificate → List ℕ × Owner → OwnerAnswer Sent
objected cert signature = Ok (submission (objection cert signature.0), signature.1)

objected-over : (cert : Certificate) (row : OwnerAnswer (List ℕ)) → (over row >>= objected cert) ≡ over (row >>= objected cert)
objected-over cert (Ok signature) = refl
objected-over cert (Err refusal) = refl

pub object_over : (me : Owner) (cert : Certificate) → object_row (roomless me) cert ≡ over (object_row me cert)
object_over me cert =
    ap (λ (r : OwnerAnswer (List ℕ)). r >>= objected cert) (claim-over me (object (digest_of cert))) ∙ objected-over cert (signed_by_owner me (object (digest_of cert)))

-- ---- handovers

pub attach_over : (me : Owner) (digest bytes : List ℕ) → attach_row (roomless me) digest bytes ≡ over (attach_row me digest bytes)
attach_over me digest bytes =
    bound (changed_draft me.drafts digest (handed_over bytes)) (λ drafts. Ok (tt, record (roomless me) { drafts = drafts })) (λ drafts. Ok (tt, record me { drafts = drafts })) (λ drafts. refl)

attached-over : (me : Owner) (row : OwnerAnswer (Unit {0})) → attached (roomless me) (over row) ≡ roomless (attached me row)
attached-over me (Ok made) = refl
attached-over me (Err refusal) = refl

abbrev handed : List ℕ → List ℕ × Owner → OwnerAnswer (List ℕ)
handed digest signed = Ok (signed.0, attached signed.1 (attach_row signed.1 digest signed.0))

handed-over : (digest : List ℕ) (row : OwnerAnswer (List ℕ)) → (over row >>= handed digest) ≡ over (row >>= handed digest)
handed-over digest (Ok signed) =
    ap (λ (me : Owner). Ok (signed.0, me)) (ap (attached (roomless signed.1)) (attach_over signed.1 digest signed.0) ∙ attached-over signed.1 (attach_row signed.1 digest signed.0))
handed-over digest (Err refusal) = refl

pub handing_over : (me : Owner) (digest : List ℕ) → handing_row (roomless me) digest ≡ over (handing_row me digest)
handing_over me digest =
    ap (λ (r : OwnerAnswer (List ℕ)). r >>= handed digest) (claim-over me (handover digest)) ∙ handed-over digest (handover_row me digest)
