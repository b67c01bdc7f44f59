-- The blanks of places, place by place.
use Rattle.std.proofs.Common.{◌≡◌, ℕ, ◌<◌, List, [], ◌-◌, length, get_or, take, drop, ◌≤◌, subst, arith, ◌∷◌, ◌++◌, refl, sym, ap, ◌∙◌, ◌+◌, append_assoc, Option, Some, None}
use Rattle.std.specs.Prelude.{flat_map, map}
use Rattle.std.proofs.Math.Seq.{take-length}
use Rattle.std.proofs.lemmas.List.{append-nil, length_push}
use Rattle.key_roll.specs.Book.{RollBook}
use Rattle.key_roll.specs.Due.{DueParts}
use Rattle.key_roll.specs.Entry.{due_of}
use Rattle.ar_message.specs.Messages.{message_text}
use Rattle.ar_message.specs.Sending.{Letter}
use Rattle.ar_message.specs.declared.address.Address.{Address}
use Rattle.ar_message.specs.declared.message.Message.{Message}
use Rattle.ar_message.specs.declared.unsigned.Blank.{Blank}
use Rattle.ar_message.specs.declared.unsigned.Unsigned.{Unsigned}
use Rattle.log_sending.specs.Sending.{Composed, DraftMessage, SigningPlace, blanks_by, blanks_from, blanks_in, sent_letter, none_composed, sealed, unsigned_of, with_draft, with_drafts}

pub blanks_none : (book : RollBook) (place : ℕ × SigningPlace) (xs : List Blank) → due_of book place.1.text ≡ None → xs ≡ xs ++ blanks_in book (place ∷ [])
unfolding blanks_in
blanks_none book place xs is = sym (ap (λ d. xs ++ (blanks_by d place.0 place.1 ++ [])) is ∙ append-nil xs)

pub blanks_some : (book : RollBook) (place : ℕ × SigningPlace) (due : DueParts) (xs : List Blank) → due_of book place.1.text ≡ Some due
    → xs ++ record { message = place.0; at = place.1.at; due = due } ∷ [] ≡ xs ++ blanks_in book (place ∷ [])
unfolding blanks_in
blanks_some book place due xs is = sym (ap (λ d. xs ++ (blanks_by d place.0 place.1 ++ [])) is)

pub blanks_more : (book : RollBook) (place : ℕ × SigningPlace) (rest : List (ℕ × SigningPlace)) (xs : List Blank)
    → (xs ++ blanks_in book (place ∷ [])) ++ blanks_in book rest ≡ xs ++ blanks_in book (place ∷ rest)
unfolding blanks_in
blanks_more book place rest xs =
    let here : List Blank = blanks_by (due_of book place.1.text) place.0 place.1 in
    append_assoc xs (here ++ []) (blanks_in book rest) ∙ ap (λ l. xs ++ l) (append_assoc here [] (blanks_in book rest))

pub blanks_nil : (book : RollBook) (xs : List Blank) → xs ≡ xs ++ blanks_in book []
unfolding blanks_in
blanks_nil book xs = sym (append-nil xs)

pub blanks_empty : (book : RollBook) (places : List (ℕ × SigningPlace)) (xs : List Blank) → length places < 1 → xs ≡ xs ++ blanks_in book places
blanks_empty book [] xs none = blanks_nil book xs
blanks_empty book (place ∷ places) xs none = absurd (omega (arith, none))

pub blanks_first : (book : RollBook) (places : List (ℕ × SigningPlace)) (first : ℕ × SigningPlace) (xs : List Blank) → 1 ≤ length places → first ≡ get_or places 0 first
    → (xs ++ blanks_in book (first ∷ [])) ++ blanks_in book (take (length places - 1) (drop 1 places)) ≡ xs ++ blanks_in book places
blanks_first book [] first xs some is = absurd (omega (arith, some))
blanks_first book (place ∷ places) first xs some is =
    let less : length (place ∷ places) - 1 ≡ length places = omega arith in
    ap (λ (rest : List (ℕ × SigningPlace)). (xs ++ blanks_in book (first ∷ [])) ++ blanks_in book rest) (ap (λ n. take n places) less ∙ take-length places)
    ∙ subst (λ (f : ℕ × SigningPlace). (xs ++ blanks_in book (f ∷ [])) ++ blanks_in book places ≡ xs ++ blanks_in book (place ∷ places)) (sym is) (blanks_more book place places xs)

-- one draft with one place
pub sealed-one : (book : RollBook) (to : Address) (message : Message) (place : SigningPlace) (ended : Option (ℕ × Option (List ℕ)))
    → sealed book (with_draft none_composed (record { to = to; message = message; own = place ∷ [] })) ended
    ≡ unsigned_of book (record { to = to; message = message; own = place ∷ [] } ∷ []) ended
unfolding blanks_in
sealed-one book to message place ended =
    ap (λ (blanks : List Blank). let u : Unsigned = record { sent = record { messages = record { to = to; bytes = message_text message } ∷ []; ended = ended }; blanks = blanks } in u)
    (sym (append-nil (blanks_by (due_of book place.text) 0 place ++ [])))

-- ---- drafts, one behind the other

blanks-both : (book : RollBook) (xs ys : List (ℕ × SigningPlace)) → blanks_in book (xs ++ ys) ≡ blanks_in book xs ++ blanks_in book ys
unfolding blanks_in
blanks-both book [] ys = refl
blanks-both book (x ∷ xs) ys =
    let here : List Blank = blanks_by (due_of book x.1.text) x.0 x.1 in
    ap (λ l. here ++ l) (blanks-both book xs ys) ∙ sym (append_assoc here (blanks_in book xs) (blanks_in book ys))

blanks-numbered : (book : RollBook) (number : ℕ) (own : List SigningPlace)
    → blanks_in book (map (λ (place : SigningPlace). (number, place)) own) ≡ flat_map (λ (place : SigningPlace). blanks_by (due_of book place.text) number place) own
unfolding blanks_in
blanks-numbered book number [] = refl
blanks-numbered book number (place ∷ own) = ap (λ l. blanks_by (due_of book place.text) number place ++ l) (blanks-numbered book number own)

letters-drafts : (c : Composed) (drafts : List DraftMessage) → (with_drafts c drafts).letters ≡ c.letters ++ map sent_letter drafts
letters-drafts c [] = sym (append-nil c.letters)
letters-drafts c (draft ∷ drafts) = letters-drafts (with_draft c draft) drafts ∙ append_assoc c.letters (sent_letter draft ∷ []) (map sent_letter drafts)

blanks-drafts : (book : RollBook) (c : Composed) (drafts : List DraftMessage)
    → blanks_in book (with_drafts c drafts).places ≡ blanks_in book c.places ++ blanks_from book (length c.letters) drafts
blanks-drafts book c [] = sym (append-nil (blanks_in book c.places))
blanks-drafts book c (draft ∷ drafts) =
    let number : ℕ = length c.letters in
    let own : List Blank = flat_map (λ (place : SigningPlace). blanks_by (due_of book place.text) number place) draft.own in
    let rest : List Blank = blanks_from book (number + 1) drafts in
    blanks-drafts book (with_draft c draft) drafts
    ∙ ap (λ n. blanks_in book (with_draft c draft).places ++ blanks_from book n drafts) (length_push c.letters (sent_letter draft))
    ∙ ap (λ (l : List Blank). l ++ rest)
    (blanks-both book c.places (map (λ (place : SigningPlace). (number, place)) draft.own) ∙ ap (λ (l : List Blank). blanks_in book c.places ++ l) (blanks-numbered book number draft.own))
    ∙ append_assoc (blanks_in book c.places) own rest

abbrev sent-with : Option (ℕ × Option (List ℕ)) → List Letter → List Blank → Unsigned
sent-with ended letters blanks = record { sent = record { messages = letters; ended = ended }; blanks = blanks }

-- what is composed of drafts is sealed as they are
pub sealed-drafts : (book : RollBook) (drafts : List DraftMessage) (ended : Option (ℕ × Option (List ℕ)))
    → sealed book (with_drafts none_composed drafts) ended ≡ unsigned_of book drafts ended
unfolding blanks_in
sealed-drafts book drafts ended =
    ap (λ (l : List Letter). sent-with ended l (blanks_in book (with_drafts none_composed drafts).places)) (letters-drafts none_composed drafts)
    ∙ ap (λ (l : List Blank). sent-with ended (map sent_letter drafts) l) (blanks-drafts book none_composed drafts)

-- drafts behind others
pub drafts-append : (c : Composed) (drafts more : List DraftMessage) → with_drafts c (drafts ++ more) ≡ with_drafts (with_drafts c drafts) more
drafts-append c [] more = refl
drafts-append c (draft ∷ drafts) more = drafts-append (with_draft c draft) drafts more
