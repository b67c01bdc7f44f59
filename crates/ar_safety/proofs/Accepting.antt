-- What an honest authority sends to a client, as the second of two, the client accepts.
use Rattle.std.proofs.Common.{◌≡◌, ℕ, ◌+◌, ◌^◌, ◌<◌, ◌≤◌, Bool, true, false, inl, List, [], length, get_or, take, Option, Some, None, Ok, refl, sym, ap, ◌∙◌, subst, arith, eqb, eq-eqb}
use Rattle.std.specs.Prelude.{Contains, slice_get, ◌==◌}
use Rattle.std.proofs.lemmas.List.Elements.{All-get_or}
use Rattle.std.proofs.lemmas.Option.{slice_get_within}
use Rattle.ar_base.specs.Places.{place_of}
use Rattle.ar_base.proofs.Places.{not-contained}
use Rattle.ar_base.proofs.Lists.{has-item}
use Rattle.ar_bytes.proofs.Parts.{whole_again}
use Rattle.lms_tree.specs.Key.{public_of}
use Rattle.lms_tree.specs.KeyParts.{KeyParts}
use Rattle.lms_tree.specs.LmsKind.{height_of}
use Rattle.ar_statement.specs.declared.party.Party.{Party}
use Rattle.ar_statement.specs.Claims.{authority_party, kind_of, log_party, text_of}
use Rattle.ar_statement.specs.Ranges.{IsValid}
use Rattle.key_roll.specs.declared.signed.SignedText.{SignedText}
use Rattle.key_roll.specs.Book.{RollBook, IsRollBook, texts_of}
use Rattle.key_roll.specs.Due.{DueParts}
use Rattle.key_roll.specs.Entry.{after_entry, due_of, has_room}
use Rattle.key_roll.specs.Ring.{ring_signature_len, signature_by}
use Rattle.key_roll.specs.Rolls.{is_plain_of, is_roll, plain_count}
use Rattle.key_roll.proofs.Books.{after_entry_keeps, due-plain, entry-at, is_roll-kind, counted-whole}
use Rattle.party_keys.specs.Directory.{keys_of}
use Rattle.party_keys.specs.Signatures.{rolls_from, verified}
use Rattle.ar_cert.specs.Certificate.{Certificate, digest_of}
use Rattle.ar_message.specs.declared.message.Confirming.{Confirming}
use Rattle.ar_message.specs.Confirmation.{Body, Confirmation, IsConfirmation, absent, confirmation_at, confirmation_text, present}
use Rattle.ar_message.specs.Filling.{signature_under}
use Rattle.ar_message.specs.Messages.{about_in, confirmation_in, fields_text, message_text, shown_in}
use Rattle.ar_message.proofs.ConfirmationLaws.{confirmation_again}
use Rattle.client_rule.specs.Meaning.{HasSigners, HoldsAll, PassesChecks}
use Rattle.client_rule.specs.Rule.{claim_on, judgement, Asked}
use Rattle.client_rule.specs.declared.judgement.Judgement.TheVariants.{Absent, Accepted}
use Rattle.client_rule.proofs.Meanings.{absence, accepted}
use Rattle.hash_tree.specs.declared.bottom.Bottom.{Bottom}
use Rattle.ar_council.proofs.Books.{entry-has}
use Rattle.ar_safety.specs.Accepting.{Confirmer, IsConfirmer, IsHalfConfirmed, IsInTime, KnowsSigners, bytes_to_client, own_signature, own_text, signature_for}
use Rattle.ar_safety.proofs.Clients.{valid-body}
use Rattle.ar_safety.proofs.Verifying.{authority-known, carried-over, log-known, signature-fits, signature-length, signed-verified}

-- ---- what is due

plain-yes : (s : SignedText) → is_roll s.text ≡ false → is_plain_of s.generation s ≡ true
plain-yes s fails = let e : eqb s.generation s.generation ≡ true = eq-eqb _ _ refl in rw (e, fails) refl

-- a text that is no Roll's has one of the leaves but the last, of a generation up to the newest
record HasDue (book : RollBook) (text : List ℕ) : Type 0 where
  due : DueParts
  is : due_of book text ≡ Some due
  text_is : due.text ≡ text
  leaf : due.leaf + 1 < book.leaves
  generation : due.generation ≤ book.newest

due-there : (book : RollBook) (text : List ℕ) → IsRollBook book → is_roll text ≡ false → Contains (texts_of book) text → HasDue book text
due-there book text sound plain there = by (place_of (texts_of book) text) refl
  where
    by : (place : Option ℕ) → place_of (texts_of book) text ≡ place → HasDue book text
    by None at = absurd (not-contained (texts_of book) text at there)
    by (Some k) at =
        let nobody : SignedText = record { generation = 0; text = [] } in
        let e = entry-at book text k at in
        let s : SignedText = get_or book.list k nobody in
        let within = slice_get_within book.list k s e.0 in
        let fails : is_roll s.text ≡ false = ap is_roll e.1 ∙ plain in
        let one = counted-whole (is_plain_of s.generation) book.list k s e.0 (plain-yes s fails) in
        record {
          due = record { generation = s.generation; leaf = plain_count s.generation (take k book.list); text = s.text; leaves = book.leaves };
          is = rw at (due-plain book k s e.0 fails);
          text_is = e.1;
          leaf = omega (arith, one, sound.within s.generation);
          generation = All-get_or (λ (x : SignedText). x.generation ≤ book.newest) book.list k nobody within sound.upto;
        }

-- an entry changes neither the number of leaves nor the newest generation
same-keys : (book : RollBook) (text : List ℕ) → ((after_entry book text).leaves ≡ book.leaves) × ((after_entry book text).newest ≡ book.newest)
same-keys book text = by (place_of (texts_of book) text) (has_room book) refl refl
  where
    by : (place : Option ℕ) (room : Bool) → place_of (texts_of book) text ≡ place → has_room book ≡ room
        → ((after_entry book text).leaves ≡ book.leaves) × ((after_entry book text).newest ≡ book.newest)
    by (Some k) room at _ = rw at (refl, refl)
    by None true at free = rw (at, free) (refl, refl)
    by None false at full = rw (at, full) (refl, refl)

-- ---- what the authority signs

is-plain : (c : Confirmation) (p : Party) (b : Body) → (kind_of (claim_on c.about b p) == 10) ≡ false
is-plain c p (present certificate) = refl
is-plain c p (absent bottom) = refl

rolls-none : (c : Confirmation) (p : Party) (b : Body) → rolls_from (claim_on c.about b p) ≡ None
rolls-none c p (present certificate) = refl
rolls-none c p (absent bottom) = refl

-- what the client gets, with this signature of the second authority
abbrev Sent : Confirmer → Confirming → List ℕ → List ℕ → Confirmation
Sent a part first_signature signature =
    confirmation_in part.client part.epoch part.name part.root part.body part.log part.signature part.first first_signature a.me signature

is-confirmation : (a : Confirmer) (part : Confirming) (first_signature signature : List ℕ) → IsHalfConfirmed a part first_signature → length signature < 2 ^ 16
    → IsConfirmation (Sent a part first_signature signature)
is-confirmation a part first_signature signature is fits = record {
  about = is.is_message.0.about;
  body = is.is_message.0.shown;
  steps = is.is_message.0.path;
  log = is.is_message.0.log;
  first = (is.is_message.0.first, is.is_message.1);
  second = (subst (λ n. n < 2 ^ 16) is.for_me is.is_message.0.second, fits);
}

own-valid : (a : Confirmer) (part : Confirming) (first_signature : List ℕ) → IsHalfConfirmed a part first_signature
    → IsValid (claim_on (about_in part) (shown_in part.body) (authority_party a.me))
own-valid a part first_signature is =
    let c : Confirmation = Sent a part first_signature [] in
    let fits : IsConfirmation c = is-confirmation a part first_signature [] is (omega arith) in
    valid-body c (authority_party a.me) fits fits.second.0 refl c.body fits.body

-- what is due for the authority's own statement, with the key of its generation
pub record OwnDue (a : Confirmer) (part : Confirming) : Type 0 where
  pub due : DueParts
  pub entry : due_of (after_entry a.past.signed (own_text a part)) (own_text a part) ≡ Some due
  pub key : KeyParts
  pub at : slice_get a.ring due.generation ≡ Some key
  pub known : slice_get (keys_of a.keys (authority_party a.me)) due.generation ≡ Some (public_of key)
  pub text_is : due.text ≡ own_text a part
  pub small : due.generation < 2 ^ 32
  pub leaf : due.leaf + 1 < 2 ^ height_of key.lms
  pub signature : own_signature a part ≡ signature_by key due

pub own-due : (a : Confirmer) (part : Confirming) (first_signature : List ℕ) → IsConfirmer a → IsHalfConfirmed a part first_signature → OwnDue a part
own-due a part first_signature honest is =
    let c : Confirmation = Sent a part first_signature [] in
    let text : List ℕ = own_text a part in
    let book : RollBook = after_entry a.past.signed text in
    let plain : is_roll text ≡ false = is_roll-kind (claim_on (about_in part) (shown_in part.body) (authority_party a.me)) ∙ is-plain c (authority_party a.me) (shown_in part.body) in
    let d : HasDue book text = due-there book text (after_entry_keeps a.past.signed text honest.honest.sound (inl plain)) plain (entry-has a.past.signed text is.room) in
    let keys = same-keys a.past.signed text in
    let own = has-item a.ring d.due.generation (omega (arith, d.generation, keys.1, honest.each)) in
    let known = honest.known d.due.generation own.0 own.1 in
    record {
      due = d.due;
      entry = d.is;
      key = own.0;
      at = own.1;
      known = known.0;
      text_is = d.text_is;
      small = omega (arith, d.generation, keys.1, honest.honest.sound.last);
      leaf = omega (arith, d.leaf, keys.0, known.1);
      signature = ap (signature_for a.ring) d.is ∙ ap (λ o. signature_under o d.due) own.1;
    }

-- the authority's own signature is one that is verified under its directory
record IsSigned (a : Confirmer) (part : Confirming) : Type 0 where
  fits : length (own_signature a part) < 2 ^ 16
  is_verified : verified a.keys (authority_party a.me) (own_text a part) (own_signature a part) ≡ Ok tt

own-signed : (a : Confirmer) (part : Confirming) (first_signature : List ℕ) → IsConfirmer a → IsHalfConfirmed a part first_signature → IsSigned a part
own-signed a part first_signature honest is =
    let c : Confirmation = Sent a part first_signature [] in
    let o : OwnDue a part = own-due a part first_signature honest is in
    record {
      fits = subst (λ s. length s < 2 ^ 16) (sym o.signature) (signature-fits o.key o.due (omega (arith, o.leaf)));
      is_verified = subst (λ s. verified a.keys (authority_party a.me) (own_text a part) s ≡ Ok tt) (sym o.signature)
          (signed-verified a.keys (authority_party a.me) (claim_on (about_in part) (shown_in part.body) (authority_party a.me)) o.key o.due
          (own-valid a part first_signature is) (rolls-none c (authority_party a.me) (shown_in part.body))
          (record { text_is = o.text_is; generation = o.small; known = o.known; leaf = o.leaf }));
    }

-- and it has as many bytes as each of its keys' signatures has
pub own-length : (a : Confirmer) (part : Confirming) (first_signature : List ℕ) (len : ℕ) → IsConfirmer a → IsHalfConfirmed a part first_signature
    → ((g : ℕ) (key : KeyParts) → slice_get a.ring g ≡ Some key → ring_signature_len key ≡ len) → length (own_signature a part) ≡ len
own-length a part first_signature len honest is same =
    let o : OwnDue a part = own-due a part first_signature honest is in
    ap (λ (s : List ℕ). length s) o.signature ∙ signature-length o.key o.due (omega (arith, o.leaf)) ∙ same o.due.generation o.key o.at

-- ---- the client's checks

-- what the client gets
abbrev Got : Confirmer → Confirming → List ℕ → Confirmation
Got a part first_signature = Sent a part first_signature (own_signature a part)

all-hold : (a : Confirmer) (part : Confirming) (first_signature : List ℕ) (asked : Asked) → IsConfirmer a → IsHalfConfirmed a part first_signature
    → KnowsSigners a part first_signature asked.keys → IsInTime part asked → HoldsAll asked (Got a part first_signature)
all-hold a part first_signature asked honest is knows in_time =
    let own : IsSigned a part = own-signed a part first_signature honest is in
    let text : Party → List ℕ = λ p. text_of (claim_on (about_in part) (shown_in part.body) p) in
    let log = carried-over a.keys asked.keys (log_party part.log) (text (log_party part.log)) part.signature knows.log is.log_signed in
    let first = carried-over a.keys asked.keys (authority_party part.first) (text (authority_party part.first)) first_signature knows.first is.first_signed in
    let second = carried-over a.keys asked.keys (authority_party a.me) (text (authority_party a.me)) (own_signature a part) knows.second own.is_verified in
    let parties : HasSigners asked.keys (Got a part first_signature) = record {
      log = log-known asked.keys part.log (text (log_party part.log)) part.signature log;
      first = authority-known asked.keys part.first (text (authority_party part.first)) first_signature first;
      second = authority-known asked.keys a.me (text (authority_party a.me)) (own_signature a part) second;
      two = λ e. is.two (e ∙ sym is.for_me);
    } in
    (in_time.name, (parties, (log, (first, (second, (is.path, (in_time.timely.not_later, (in_time.timely.young, (in_time.timely.live, (in_time.timely.current, tt))))))))))

passes : (a : Confirmer) (part : Confirming) (first_signature : List ℕ) (asked : Asked) → IsConfirmer a → IsHalfConfirmed a part first_signature
    → KnowsSigners a part first_signature asked.keys → IsInTime part asked → PassesChecks asked (bytes_to_client a part first_signature) (Got a part first_signature)
unfolding message_text fields_text confirmation_text
passes a part first_signature asked honest is knows in_time =
    let own : IsSigned a part = own-signed a part first_signature honest is in
    let c : Confirmation = Got a part first_signature in
    record {
      is_read = whole_again confirmation_at c (confirmation_text c) (confirmation_again c (is-confirmation a part first_signature (own_signature a part) is own.fits));
      holds = all-hold a part first_signature asked honest is knows in_time;
    }

-- ---- the judgement

pub sent-accepted : (a : Confirmer) (part : Confirming) (first_signature : List ℕ) (asked : Asked) (certificate : Certificate) → IsConfirmer a → IsHalfConfirmed a part first_signature
    → KnowsSigners a part first_signature asked.keys → IsInTime part asked → shown_in part.body ≡ present certificate
    → judgement asked (bytes_to_client a part first_signature) ≡ Accepted certificate (digest_of certificate) part.epoch part.root
sent-accepted a part first_signature asked certificate honest is knows in_time shown =
    (accepted asked (bytes_to_client a part first_signature) certificate (digest_of certificate) part.epoch part.root).1 (record {
      confirmation = Got a part first_signature;
      passes = passes a part first_signature asked honest is knows in_time;
      body = shown;
      digest_is = refl;
      epoch_is = refl;
      root_is = refl;
    })

pub sent-absent : (a : Confirmer) (part : Confirming) (first_signature : List ℕ) (asked : Asked) (bottom : Bottom) → IsConfirmer a → IsHalfConfirmed a part first_signature
    → KnowsSigners a part first_signature asked.keys → IsInTime part asked → shown_in part.body ≡ absent bottom
    → judgement asked (bytes_to_client a part first_signature) ≡ Absent part.epoch part.root
sent-absent a part first_signature asked bottom honest is knows in_time shown =
    (absence asked (bytes_to_client a part first_signature) part.epoch part.root).1 (record {
      confirmation = Got a part first_signature;
      passes = passes a part first_signature asked honest is knows in_time;
      bottom = (bottom, shown);
      epoch_is = refl;
      root_is = refl;
    })
