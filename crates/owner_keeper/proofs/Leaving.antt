-- What the rows of an owner leave of its book and of its directory.
use Rattle.std.proofs.Common.{◌≡◌, ◌∙◌, ℕ, List, [], Result, Ok, Err, refl, sym, ap, subst}
use Rattle.std.specs.Prelude.{IfOk}
use Rattle.ar_base.specs.Chaining.{◌>>=◌}
use Rattle.ar_base.specs.Gives.{with_error}
use Rattle.ar_base.proofs.Giving.{no-error}
use Rattle.ar_base.proofs.Shown.{bind_ok, if-chained, ok_is}
use Rattle.ar_cert.specs.Certificate.{Certificate, digest_of}
use Rattle.ar_cert.specs.Changes.{Change}
use Rattle.ar_message.specs.Messages.{message_in}
use Rattle.ar_message.specs.declared.message.Message.{Message}
use Rattle.ar_message.specs.declared.message.Message.TheVariants.{EndorseAsk, Endorsed, Submit, Propose, Ballot, StatusNote, Decision, SkipNote, ConfirmAsk, LogConfirmed, HalfConfirmed, Confirmation, RollNote}
use Rattle.ar_message.specs.declared.sent.Sent.{Sent}
use Rattle.ar_statement.specs.Claims.{Claim, authority_party, endorse, handover, object, text_of}
use Rattle.ar_statement.specs.declared.fault.BookFault.{BookFault}
use Rattle.client_rule.specs.Notes.{note_of}
use Rattle.owner_core.specs.Drafts.{changed_draft, endorsed, handed_over}
use Rattle.owner_core.specs.Objecting.{objection}
use Rattle.owner_core.specs.Rows.{OwnerAnswer, attach_row, begin_row, endorsed_row, handover_row, is_own, message_row, object_row, roll_refusal, roll_row, sent, step_row, submission, verified_as, with_drafts}
use Rattle.owner_core.specs.Signing.{signed_at, signed_by_owner}
use Rattle.owner_core.specs.State.{Owner}
use Rattle.owner_core.specs.declared.refusal.OwnerRefusal.TheVariants.{Form}
use Rattle.party_keys.specs.Directory.{Directory}
use Rattle.party_keys.specs.Learning.{Announced, after_learning, learned}
use Rattle.party_keys.specs.Signatures.{verified}
use Rattle.sign_book.specs.Book.{Book, IsSignBook}
use Rattle.sign_book.specs.Entry.{leaf_of}
use Rattle.sign_book.proofs.Entries.{sound-after}
use Rattle.owner_keeper.specs.Keeping.{attached, handing_row}
use Rattle.owner_keeper.specs.Stapling.{behind_note, keys_behind}
use Rattle.owner_keeper.proofs.EachRow.{message-has}

-- what a row has of each answer, it has of the one that it gave
pub of_answer : {T : Type 0} (P : T × Owner → Type 0) (row : OwnerAnswer T) (r : T × Owner) → IfOk row P → row ≡ Ok r → P r
of_answer {T} P row r all e = subst (λ (x : OwnerAnswer T). IfOk x P) e all

-- it leaves a part of the owner
abbrev pub Leaves : {A T : Type 0} → (Owner → A) → Owner → OwnerAnswer T → Type 0
Leaves part me row = IfOk row (λ r. part r.1 ≡ part me)

-- the book and the directory
abbrev pub book_of : Owner → Book
book_of me = me.book

abbrev pub keys_of_owner : Owner → Directory
keys_of_owner me = me.directory

-- ---- rows that change drafts alone

module _ {A : Type 0} (part : Owner → A) (drafts : (me : Owner) (changed : List Change) → part (record me { drafts = changed }) ≡ part me) where
  endorsed-leaves : (me : Owner) (owner authority : ℕ) (certificate signature : List ℕ) → Leaves part me (endorsed_row me owner authority certificate signature)
  endorsed-leaves me owner authority certificate signature =
      let changed = changed_draft me.drafts certificate (endorsed (record { authority = authority; signature = signature })) in
      let valid = verified_as (authority_party authority) (verified me.directory (authority_party authority) (text_of (endorse authority certificate)) signature) in
      if-chained (is_own me owner) (λ own. valid >>= λ v. changed >>= λ d. with_drafts me d) (λ r. part r.1 ≡ part me) (λ own _.
      if-chained valid (λ v. changed >>= λ d. with_drafts me d) (λ r. part r.1 ≡ part me) (λ v _.
      if-chained changed (λ d. with_drafts me d) (λ r. part r.1 ≡ part me) (λ d _. drafts me d)))

  pub begin_leaves : (me : Owner) (cert : Certificate) (asks : List ℕ) → Leaves part me (begin_row me cert asks)
  begin_leaves me cert asks = drafts me _

  pub attach_leaves : (me : Owner) (digest bytes : List ℕ) → Leaves part me (attach_row me digest bytes)
  attach_leaves me digest bytes =
      if-chained (changed_draft me.drafts digest (handed_over bytes)) (λ d. Ok (tt, record me { drafts = d })) (λ r. part r.1 ≡ part me) (λ d _. drafts me d)

  pub attached_leaves : (me : Owner) (row : OwnerAnswer (Unit {0})) → Leaves part me row → part (attached me row) ≡ part me
  attached_leaves me (Ok made) leaves = leaves
  attached_leaves me (Err refusal) leaves = refl

same-book : (me : Owner) (changed : List Change) → book_of (record me { drafts = changed }) ≡ book_of me
same-book me changed = refl

same-keys : (me : Owner) (changed : List Change) → keys_of_owner (record me { drafts = changed }) ≡ keys_of_owner me
same-keys me changed = refl

-- ---- the book

-- an answer leaves a book, where there was one
abbrev pub Sound : {T : Type 0} → Owner → OwnerAnswer T → Type 0
Sound me row = IfOk row (λ r. IsSignBook me.book → IsSignBook r.1.book)

-- where the book is the same
sound-same : {T : Type 0} (me : Owner) (row : OwnerAnswer T) → Leaves book_of me row → Sound me row
sound-same me (Ok r) same = λ sound. subst IsSignBook (sym same) sound
sound-same me (Err refusal) same = tt

signed-sound : (me : Owner) (text : List ℕ) (given : Result ℕ BookFault) → leaf_of me.book text ≡ given → Sound me (signed_at me text given)
signed-sound me text (Ok leaf) is = λ sound. sound-after me.book text leaf sound is
signed-sound me text (Err fault) is = tt

pub claim_sound : (me : Owner) (claim : Claim) → Sound me (signed_by_owner me claim)
claim_sound me claim = signed-sound me (text_of claim) (leaf_of me.book (text_of claim)) refl

pub begin_sound : (me : Owner) (cert : Certificate) (asks : List ℕ) → Sound me (begin_row me cert asks)
begin_sound me cert asks = sound-same me (begin_row me cert asks) (begin_leaves book_of same-book me cert asks)

pub attach_sound : (me : Owner) (digest bytes : List ℕ) → Sound me (attach_row me digest bytes)
attach_sound me digest bytes = sound-same me (attach_row me digest bytes) (attach_leaves book_of same-book me digest bytes)

roll-book : (me : Owner) (a : Announced) → Leaves book_of me (roll_row me a)
roll-book me a =
    if-chained (with_error (roll_refusal a.party a.generation) (learned me.directory a)) (λ new. Ok (sent [], record me { directory = after_learning me.directory a }))
    (λ r. r.1.book ≡ me.book) (λ new _. refl)

message-book : (me : Owner) (m : Message) → Leaves book_of me (message_row me m)
message-book me m = message-has (λ row. Leaves book_of me (row me)) (record { endorsed = endorsed-leaves book_of same-book me; roll = roll-book me; other = tt }) m

pub step_sound : (me : Owner) (bytes : List ℕ) → Sound me (step_row me bytes)
step_sound me bytes =
    sound-same me (step_row me bytes)
    (if-chained (with_error Form (message_in bytes)) (message_row me) (λ r. r.1.book ≡ me.book) (λ m _. message-book me m))

pub object_sound : (me : Owner) (cert : Certificate) → Sound me (object_row me cert)
object_sound me cert =
    if-chained (signed_by_owner me (object (digest_of cert))) (λ s. Ok (submission (objection cert s.0), s.1)) (λ r. IsSignBook me.book → IsSignBook r.1.book)
    (λ s e. of_answer (λ r. IsSignBook me.book → IsSignBook r.1.book) (signed_by_owner me (object (digest_of cert))) s (claim_sound me (object (digest_of cert))) e)

pub handing_sound : (me : Owner) (digest : List ℕ) → Sound me (handing_row me digest)
handing_sound me digest =
    if-chained (handover_row me digest) (λ s. Ok (s.0, attached s.1 (attach_row s.1 digest s.0))) (λ r. IsSignBook me.book → IsSignBook r.1.book)
    (λ s e sound.
    subst IsSignBook (sym (attached_leaves book_of same-book s.1 (attach_row s.1 digest s.0) (attach_leaves book_of same-book s.1 digest s.0)))
    (of_answer (λ r. IsSignBook me.book → IsSignBook r.1.book) (handover_row me digest) s (claim_sound me (handover digest)) e sound))

-- ---- the directory

signed-keys : (me : Owner) (text : List ℕ) (given : Result ℕ BookFault) → Leaves keys_of_owner me (signed_at me text given)
signed-keys me text (Ok leaf) = refl
signed-keys me text (Err fault) = tt

pub claim_keys : (me : Owner) (claim : Claim) → Leaves keys_of_owner me (signed_by_owner me claim)
claim_keys me claim = signed-keys me (text_of claim) (leaf_of me.book (text_of claim))

pub begin_keys : (me : Owner) (cert : Certificate) (asks : List ℕ) → Leaves keys_of_owner me (begin_row me cert asks)
begin_keys me cert asks = refl

pub attach_keys : (me : Owner) (digest bytes : List ℕ) → Leaves keys_of_owner me (attach_row me digest bytes)
attach_keys me digest bytes = attach_leaves keys_of_owner same-keys me digest bytes

pub object_keys : (me : Owner) (cert : Certificate) → Leaves keys_of_owner me (object_row me cert)
object_keys me cert =
    if-chained (signed_by_owner me (object (digest_of cert))) (λ s. Ok (submission (objection cert s.0), s.1)) (λ r. r.1.directory ≡ me.directory)
    (λ s e. of_answer (λ r. r.1.directory ≡ me.directory) (signed_by_owner me (object (digest_of cert))) s (claim_keys me (object (digest_of cert))) e)

pub handing_keys : (me : Owner) (digest : List ℕ) → Leaves keys_of_owner me (handing_row me digest)
handing_keys me digest =
    if-chained (handover_row me digest) (λ s. Ok (s.0, attached s.1 (attach_row s.1 digest s.0))) (λ r. r.1.directory ≡ me.directory)
    (λ s e.
    attached_leaves keys_of_owner same-keys s.1 (attach_row s.1 digest s.0) (attach_leaves keys_of_owner same-keys s.1 digest s.0)
    ∙ of_answer (λ r. r.1.directory ≡ me.directory) (handover_row me digest) s (claim_keys me (handover digest)) e)

-- what a client learns of a message is what the owner learns
roll-heard : (me later : Owner) (a : Announced) (value : Sent) → roll_row me a ≡ Ok (value, later) → after_learning me.directory a ≡ later.directory
roll-heard me later a value e =
    let at : Owner = record me { directory = after_learning me.directory a } in
    let b = bind_ok (with_error (roll_refusal a.party a.generation) (learned me.directory a)) (λ new. Ok (sent [], at)) (value, later) e in
    ap (λ (p : Sent × Owner). p.1.directory) (ok_is (sent [], at) (value, later) b.2)

message-heard : (me later : Owner) (m : Message) (value : Sent) → message_row me m ≡ Ok (value, later) → behind_note me.directory (note_of (Ok m)) ≡ later.directory
message-heard me later (Endorsed owner authority certificate signature) value e =
    sym (of_answer (λ r. r.1.directory ≡ me.directory) (endorsed_row me owner authority certificate signature) (value, later) (endorsed-leaves keys_of_owner same-keys me owner authority certificate signature) e)
message-heard me later (RollNote party generation key signature) value e = roll-heard me later (record { party = party; generation = generation; key = key; signature = signature }) value e
message-heard me later (EndorseAsk owner cert) value e = absurd cc
message-heard me later (Submit change) value e = absurd cc
message-heard me later (Propose log epoch base root changes signature) value e = absurd cc
message-heard me later (Ballot log epoch base root signature) value e = absurd cc
message-heard me later (StatusNote log epoch status signature) value e = absurd cc
message-heard me later (Decision epoch base root changes votes) value e = absurd cc
message-heard me later (SkipNote epoch statuses) value e = absurd cc
message-heard me later (ConfirmAsk client name first second) value e = absurd cc
message-heard me later (LogConfirmed part) value e = absurd cc
message-heard me later (HalfConfirmed part first_signature) value e = absurd cc
message-heard me later (Confirmation client epoch name root body log log_signature first first_signature second second_signature) value e = absurd cc

pub step_heard : (me later : Owner) (keys : Directory) (bytes : List ℕ) (value : Sent) → step_row me bytes ≡ Ok (value, later) → keys ≡ me.directory → keys_behind keys bytes ≡ later.directory
step_heard me later keys bytes value e same =
    let m = bind_ok (with_error Form (message_in bytes)) (message_row me) (value, later) e in
    let read : message_in bytes ≡ Ok m.0 = no-error Form (message_in bytes) m.0 m.1 in
    ap (λ (r : Result Message ℕ). behind_note keys (note_of r)) read
    ∙ ap (λ (k : Directory). behind_note k (note_of (Ok m.0))) same
    ∙ message-heard me later m.0 value m.2
