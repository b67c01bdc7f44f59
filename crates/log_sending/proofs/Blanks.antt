-- The messages of drafts have zero bytes where signatures are due, and the keys of the book can sign there.
use Rattle.std.proofs.Common.{◌≡◌, ℕ, ◌+◌, ◌-◌, ◌<◌, ◌≤◌, List, [], ◌∷◌, ◌++◌, length, refl, sym, ap, ◌∙◌, subst, arith, append_assoc, Bool, true, false, Option, Some, None}
use Rattle.std.specs.Prelude.{All, flat_map, map, slice_get, unwrap_or, option_and_then}
use Rattle.std.specs.List.{AllByRecursion}
use Rattle.std.specs.Option.{option_map}
use Rattle.std.proofs.lemmas.List.{length-append, length-replicate, length_push}
use Rattle.std.proofs.Math.Seq.{get_or-append_seam}
use Rattle.std.proofs.lemmas.List.Elements.{All-from_recursion}
use Rattle.std.proofs.lemmas.Option.{slice_get-map, slice_get_read}
use Rattle.ar_base.specs.Places.{place_of}
use Rattle.ar_base.proofs.Lists.{both-lists}
use Rattle.lms_tree.specs.KeyParts.{KeyParts}
use Rattle.key_roll.specs.Book.{IsRollBook, RollBook, texts_of}
use Rattle.key_roll.specs.Due.{DueParts}
use Rattle.key_roll.specs.Entry.{due_at, due_of, leaf_of}
use Rattle.key_roll.specs.Ring.{AreKeysOf, Owes}
use Rattle.key_roll.proofs.Rings.{at-place, owed_by}
use Rattle.key_roll.specs.declared.signed.SignedText.{SignedText}
use Rattle.ar_message.specs.Filling.{CanFill, IsBlank, lengths, zeros}
use Rattle.ar_message.specs.Messages.{message_text}
use Rattle.ar_message.specs.Sending.{Letter}
use Rattle.ar_message.specs.declared.unsigned.Blank.{Blank}
use Rattle.ar_message.specs.declared.unsigned.Unsigned.{Unsigned}
use Rattle.log_sending.specs.Blanks.{IsDraft, IsZero, StandsAt}
use Rattle.log_sending.specs.Sending.{DraftMessage, SigningPlace, blanks_by, blanks_from, if_own, sent_letter, own_places, place_for, unsigned_of}

-- ---- bytes at the end of others

-- these bytes are the end of others
pub record EndsIn (tail whole : List ℕ) : Type 0 where
  pub front : List ℕ
  pub is : whole ≡ front ++ tail

pub ends-itself : (tail : List ℕ) → EndsIn tail tail
ends-itself tail = record { front = []; is = refl }

pub ends-behind : (xs tail whole : List ℕ) → EndsIn tail whole → EndsIn tail (xs ++ whole)
ends-behind xs tail whole ends = record { front = xs ++ ends.front; is = ap (λ l. xs ++ l) ends.is ∙ sym (append_assoc xs ends.front tail) }

-- what ends in a signature of zero bytes and so many more has it so far in front of its end
pub stands-end : (len behind : ℕ) (back whole : List ℕ) → EndsIn (zeros len ++ back) whole → length back ≡ behind
    → StandsAt (zeros len) (length whole - (len + behind)) whole
stands-end len behind back whole ends many =
    let all : length whole ≡ length ends.front + length (zeros len ++ back) = ap length ends.is ∙ length-append ends.front (zeros len ++ back) in
    let rest : length (zeros len ++ back) ≡ length (zeros len) + length back = length-append (zeros len) back in
    let zero : length (zeros len) ≡ len = length-replicate len 0 in
    record { front = ends.front; back = back; is = ends.is; place = omega (arith, all, rest, zero, many) }

-- ---- lists in which some entries are the log's own

stands-if : (own : Bool) (len : ℕ) (whole : List ℕ) (place : SigningPlace) → (own ≡ true → StandsAt (zeros len) place.at whole)
    → AllByRecursion (λ p. StandsAt (zeros len) p.at whole) (if_own own place)
stands-if true len whole place stands = (stands refl, tt)
stands-if false len whole place stands = tt

-- an entry that ends in zero bytes has them there in the whole
stands-entry : (len : ℕ) (entry pre rest whole : List ℕ) → EndsIn (zeros len) entry → whole ≡ pre ++ (entry ++ rest)
    → StandsAt (zeros len) (length pre + length entry - len) whole
stands-entry len entry pre rest whole ends is =
    let all : length entry ≡ length ends.front + length (zeros len) = ap length ends.is ∙ length-append ends.front (zeros len) in
    let zero : length (zeros len) ≡ len = length-replicate len 0 in
    let both : length (pre ++ ends.front) ≡ length pre + length ends.front = length-append pre ends.front in
    record {
      front = pre ++ ends.front;
      back = rest;
      is = is ∙ ap (λ l. pre ++ (l ++ rest)) ends.is ∙ ap (λ l. pre ++ l) (append_assoc ends.front (zeros len) rest)
          ∙ sym (append_assoc pre ends.front (zeros len ++ rest));
      place = omega (arith, all, zero, both);
    }

pub own-stand : {A : Type 0} (is_own : A → Bool) (entry : A → List ℕ) (len : ℕ) (text : List ℕ) → ((x : A) → is_own x ≡ true → EndsIn (zeros len) (entry x))
    → (xs : List A) (whole pre post : List ℕ) (at : ℕ) → whole ≡ pre ++ (flat_map entry xs ++ post) → length pre ≡ at
    → AllByRecursion (λ p. StandsAt (zeros len) p.at whole) (own_places is_own (λ x. length (entry x)) len text at xs)
own-stand is_own entry len text ends [] whole pre post at is place = tt
own-stand is_own entry len text ends (x ∷ xs) whole pre post at is place =
    let here : whole ≡ pre ++ (entry x ++ (flat_map entry xs ++ post)) = is ∙ ap (λ l. pre ++ l) (append_assoc (entry x) (flat_map entry xs) post) in
    let next : whole ≡ (pre ++ entry x) ++ (flat_map entry xs ++ post) = here ∙ sym (append_assoc pre (entry x) (flat_map entry xs ++ post)) in
    let many : length (pre ++ entry x) ≡ at + length (entry x) = length-append pre (entry x) ∙ ap (λ n. n + length (entry x)) place in
    both-lists (λ p. StandsAt (zeros len) p.at whole)
    (if_own (is_own x) (place_for (at + length (entry x) - len) text)) (own_places is_own (λ x. length (entry x)) len text (at + length (entry x)) xs)
    (stands-if (is_own x) len whole (place_for (at + length (entry x) - len) text)
    (λ own. subst (λ n. StandsAt (zeros len) (n + length (entry x) - len) whole) place (stands-entry len (entry x) pre (flat_map entry xs ++ post) whole (ends x own) here)))
    (own-stand is_own entry len text ends xs whole (pre ++ entry x) post (at + length (entry x)) next many)

-- ---- the blanks of drafts

at-seam : {X : Type 0} (done : List X) (x : X) (rest : List X) → slice_get (done ++ x ∷ rest) (length done) ≡ Some x
at-seam {X} done x rest =
    let all : List X = done ++ x ∷ rest in
    let many : length all ≡ length done + length (x ∷ rest) = length-append done (x ∷ rest) in
    let less : length done < length all = omega (arith, many) in
    slice_get_read all (length all) (length done) x refl less (sym (get_or-append_seam done x rest x))

zero-places : (len : ℕ) (book : RollBook) (letters : List Letter) (number : ℕ) (draft : DraftMessage) → slice_get letters number ≡ Some (sent_letter draft)
    → (own : List SigningPlace) → AllByRecursion (λ place. StandsAt (zeros len) place.at (message_text draft.message)) own
    → AllByRecursion (IsZero len letters) (flat_map (λ place. blanks_by (due_of book place.text) number place) own)
zero-places len book letters number draft named [] stands = tt
zero-places len book letters number draft named (place ∷ own) stands =
    both-lists (IsZero len letters) (blanks_by (due_of book place.text) number place) (flat_map (λ (p : SigningPlace). blanks_by (due_of book p.text) number p) own)
    (one (due_of book place.text)) (zero-places len book letters number draft named own stands.1)
  where
    one : (o : Option DueParts) → AllByRecursion (IsZero len letters) (blanks_by o number place)
    one None = tt
    one (Some due) = (record { letter = sent_letter draft; named = named; zero_bytes = stands.0 }, tt)

zero-blanks : (len : ℕ) (book : RollBook) (all done rest : List DraftMessage) (number : ℕ) → all ≡ done ++ rest → length done ≡ number → AllByRecursion (IsDraft len) rest
    → AllByRecursion (IsZero len (map sent_letter all)) (blanks_from book number rest)
zero-blanks len book all done [] number is many each = tt
zero-blanks len book all done (draft ∷ rest) number is many each =
    let next : all ≡ (done ++ draft ∷ []) ++ rest = is ∙ sym (append_assoc done (draft ∷ []) rest) in
    let more : length (done ++ draft ∷ []) ≡ number + 1 = length_push done draft ∙ ap (λ n. n + 1) many in
    let here : slice_get all number ≡ Some draft = subst (λ n. slice_get all n ≡ Some draft) many (subst (λ l. slice_get l (length done) ≡ Some draft) (sym is) (at-seam done draft rest)) in
    let named : slice_get (map sent_letter all) number ≡ Some (sent_letter draft) = slice_get-map sent_letter all number ∙ ap (λ o. option_map sent_letter o) here in
    both-lists (IsZero len (map sent_letter all)) (flat_map (λ (p : SigningPlace). blanks_by (due_of book p.text) number p) draft.own) (blanks_from book (number + 1) rest)
    (zero-places len book (map sent_letter all) number draft named draft.own each.0.zero_bytes)
    (zero-blanks len book all (done ++ draft ∷ []) rest (number + 1) next more each.1)

-- a blank is due for a text that the book holds
abbrev pub IsDueIn : RollBook → Blank → Type 0
IsDueIn book blank = (text : List ℕ) × (due_of book text ≡ Some blank.due)

due-places : (book : RollBook) (number : ℕ) (own : List SigningPlace) → AllByRecursion (IsDueIn book) (flat_map (λ place. blanks_by (due_of book place.text) number place) own)
due-places book number [] = tt
due-places book number (place ∷ own) =
    both-lists (IsDueIn book) (blanks_by (due_of book place.text) number place) (flat_map (λ (p : SigningPlace). blanks_by (due_of book p.text) number p) own)
    (one (due_of book place.text) refl) (due-places book number own)
  where
    one : (o : Option DueParts) → due_of book place.text ≡ o → AllByRecursion (IsDueIn book) (blanks_by o number place)
    one None is = tt
    one (Some due) is = ((place.text, is), tt)

due-blanks : (book : RollBook) (number : ℕ) (drafts : List DraftMessage) → AllByRecursion (IsDueIn book) (blanks_from book number drafts)
due-blanks book number [] = tt
due-blanks book number (draft ∷ drafts) =
    both-lists (IsDueIn book) (flat_map (λ (p : SigningPlace). blanks_by (due_of book p.text) number p) draft.own) (blanks_from book (number + 1) drafts)
    (due-places book number draft.own) (due-blanks book (number + 1) drafts)

-- ---- what is due can be signed

due-is : (book : RollBook) (text : List ℕ) (due : DueParts) → IsRollBook book → due_of book text ≡ Some due → (due.generation ≤ book.newest) × (due.leaves ≡ book.leaves)
due-is book text due sound is = by (place_of (texts_of book) text) is
  where
    made : SignedText → ℕ → DueParts
    made s place = record { generation = s.generation; leaf = leaf_of book place s; text = s.text; leaves = book.leaves }

    at : (place : ℕ) (s : Option SignedText) → slice_get book.list place ≡ s → option_map (λ s. made s place) s ≡ Some due
        → (due.generation ≤ book.newest) × (due.leaves ≡ book.leaves)
    at place None was same = absurd cc
    at place (Some s) was same =
        let one : made s place ≡ due = ap (λ o. unwrap_or o due) same in
        let upto : s.generation ≤ book.newest = at-place (λ (t : SignedText). t.generation ≤ book.newest) book.list place s sound.upto was in
        (subst (λ (d : DueParts). d.generation ≤ book.newest) one upto, ap (λ (d : DueParts). d.leaves) (sym one))

    by : (o : Option ℕ) → option_and_then (due_at book) o ≡ Some due → (due.generation ≤ book.newest) × (due.leaves ≡ book.leaves)
    by None same = absurd cc
    by (Some place) same = at place (slice_get book.list place) refl same

owed : (book : RollBook) (len : ℕ) (keys : List KeyParts) (text : List ℕ) (due : DueParts) → IsRollBook book → AreKeysOf book len keys → due_of book text ≡ Some due
    → Owes keys due len
owed book len keys text due sound are is =
    let its = due-is book text due sound is in
    owed_by book len keys due are its.0 its.1

blank-fits : (book : RollBook) (len : ℕ) (keys : List KeyParts) (letters : List Letter) (blank : Blank) → IsRollBook book → AreKeysOf book len keys
    → IsZero len letters blank → IsDueIn book blank → IsBlank keys (lengths letters) blank
blank-fits book len keys letters blank sound are zero due =
    let stands = zero.zero_bytes in
    let all : length zero.letter.bytes ≡ length stands.front + length (zeros len ++ stands.back) = ap length stands.is ∙ length-append stands.front (zeros len ++ stands.back) in
    let rest : length (zeros len ++ stands.back) ≡ length (zeros len) + length stands.back = length-append (zeros len) stands.back in
    let many : length (zeros len) ≡ len = length-replicate len 0 in
    record {
      whole = length zero.letter.bytes;
      named = slice_get-map (λ (l : Letter). length l.bytes) letters blank.message ∙ ap (λ o. option_map (λ (l : Letter). length l.bytes) o) zero.named;
      fits = record { len = len; owes = owed book len keys due.0 blank.due sound are due.1; inside = omega (arith, all, rest, many, stands.place) };
    }

all-fit : (book : RollBook) (len : ℕ) (keys : List KeyParts) (letters : List Letter) → IsRollBook book → AreKeysOf book len keys → (blanks : List Blank)
    → AllByRecursion (IsZero len letters) blanks → AllByRecursion (IsDueIn book) blanks → AllByRecursion (IsBlank keys (lengths letters)) blanks
all-fit book len keys letters sound are [] zero due = tt
all-fit book len keys letters sound are (blank ∷ blanks) zero due =
    (blank-fits book len keys letters blank sound are zero.0 due.0, all-fit book len keys letters sound are blanks zero.1 due.1)

-- ---- what is composed of drafts

-- it is what drafts make, each with zero bytes at its places
pub record IsComposed (book : RollBook) (len : ℕ) (unsigned : Unsigned) : Type 0 where
  pub drafts : List DraftMessage
  pub ended : Option (ℕ × Option (List ℕ))
  pub is : unsigned_of book drafts ended ≡ unsigned
  pub each : AllByRecursion (IsDraft len) drafts

pub composed-zero : (book : RollBook) (len : ℕ) (unsigned : Unsigned) → IsComposed book len unsigned → All (IsZero len unsigned.sent.messages) unsigned.blanks
composed-zero book len unsigned made =
    let from : List DraftMessage = made.drafts in
    subst (λ (u : Unsigned). All (IsZero len u.sent.messages) u.blanks) made.is
    (All-from_recursion (IsZero len (map sent_letter from)) (blanks_from book 0 from) (zero-blanks len book from [] from 0 refl refl made.each))

pub composed-fill : (book : RollBook) (len : ℕ) (keys : List KeyParts) (unsigned : Unsigned) → IsRollBook book → AreKeysOf book len keys → IsComposed book len unsigned
    → CanFill keys unsigned
composed-fill book len keys unsigned sound are made =
    let from : List DraftMessage = made.drafts in
    subst (CanFill keys) made.is
    (All-from_recursion (IsBlank keys (lengths (map sent_letter from))) (blanks_from book 0 from)
    (all-fit book len keys (map sent_letter from) sound are (blanks_from book 0 from) (zero-blanks len book from [] from 0 refl refl made.each) (due-blanks book 0 from)))

-- each blank is due for a text that the book holds
pub composed-due : (book : RollBook) (len : ℕ) (unsigned : Unsigned) → IsComposed book len unsigned → AllByRecursion (IsDueIn book) unsigned.blanks
composed-due book len unsigned made = subst (λ (u : Unsigned). AllByRecursion (IsDueIn book) u.blanks) made.is (due-blanks book 0 made.drafts)
