-- Books grow by entries and rolls, and what is due is served.
use Rattle.std.proofs.Common.{◌≡◌, ℕ, ◌+◌, ◌-◌, ◌<◌, ◌==◌, List, [], ◌∷◌, ◌++◌, length, get_or, refl, sym, ap, ◌∙◌, subst, arith, Bool, true, false, cond, Option, Some, None, Result, Ok, Err}
use Rattle.std.specs.Prelude.{slice_get, option_and_then, map}
use Rattle.std.specs.Option.{ok_or, option_map}
use Rattle.ar_base.proofs.Prefixes.{begins_itself, begins_on}
use Rattle.std.proofs.lemmas.List.{get_or-map, length-map}
use Rattle.std.proofs.lemmas.Option.{get_or_from_slice_get, slice_get_within}
use Rattle.ar_base.specs.Places.{place_of}
use Rattle.ar_base.proofs.Places.{one-place}
use Rattle.ar_statement.specs.declared.fault.BookFault.TheVariants.{Spent}
use Rattle.key_roll.specs.Book.{IsRollBook, RollBook, last_generation, texts_of}
use Rattle.key_roll.specs.Due.{DueParts}
use Rattle.key_roll.specs.Entry.{LeafServes, after_at, after_entry, due_at, due_of, entered, has_room, leaf_of, rolled, with_roll, with_text}
use Rattle.key_roll.specs.Later.{IsLaterBook, IsServed}
use Rattle.key_roll.specs.Rolls.{is_roll}
use Rattle.key_roll.specs.declared.fault.RollFault.{RollFault}
use Rattle.key_roll.specs.declared.fault.RollFault.TheVariants.{Last}
use Rattle.key_roll.specs.declared.signed.SignedText.{SignedText}
use Rattle.key_roll.proofs.Books.{due_for, entry, entry-at, leaf-roll, serves_later}

-- ---- books that grow

pub same_book : (book : RollBook) → IsLaterBook book book
same_book book = record { leaves = refl; newest = omega arith; list = begins_itself book.list }

pub later_on : (book later last : RollBook) → IsLaterBook book later → IsLaterBook later last → IsLaterBook book last
later_on book later last one two = record {
  leaves = two.leaves ∙ one.leaves;
  newest = omega (arith, one.newest, two.newest);
  list = begins_on book.list later.list last.list two.list one.list;
}

text_behind : (book : RollBook) (text : List ℕ) → IsLaterBook book (with_text book text)
text_behind book text = record { leaves = refl; newest = omega arith; list = (entry book.newest text ∷ [], refl) }

pub entry_later : (book : RollBook) (text : List ℕ) → IsLaterBook book (after_entry book text)
entry_later book text = at (place_of (texts_of book) text)
  where
    by : (room : Bool) → IsLaterBook book (cond room (with_text book text) book)
    by true = text_behind book text
    by false = same_book book

    at : (place : Option ℕ) → IsLaterBook book (after_at book text place)
    at (Some k) = same_book book
    at None = by (has_room book)

pub roll_later : (book : RollBook) (text : List ℕ) → IsLaterBook book (with_roll book text)
roll_later book text = record { leaves = refl; newest = omega arith; list = (entry book.newest text ∷ [], refl) }

pub serves_on : (book later : RollBook) (generation leaf : ℕ) (text : List ℕ) → IsLaterBook book later → LeafServes book generation leaf text → LeafServes later generation leaf text
serves_on book later generation leaf text is serves = serves_later book later is.list.0 generation leaf text is.leaves is.list.1 serves

pub served_on : (book later : RollBook) (due : DueParts) → IsLaterBook book later → IsServed book due → IsServed later due
served_on book later due is served = record {
  serves = serves_on book later due.generation due.leaf due.text is served.serves;
  leaves = served.leaves ∙ sym is.leaves;
}

-- ---- what is due

-- what is due at a place is served there
at_is_served : (book : RollBook) (place : ℕ) (o : Option SignedText) (due : DueParts) → slice_get book.list place ≡ o
    → option_map (due_for book place) o ≡ Some due → IsServed book due
at_is_served book place None due at e = absurd cc
at_is_served book place (Some s) due at e =
    let is : due_for book place s ≡ due = cc in
    subst (IsServed book) is (record { serves = (place, s, (at, refl, refl, refl)); leaves = refl })

pub due_is_served : (book : RollBook) (text : List ℕ) (due : DueParts) → due_of book text ≡ Some due → IsServed book due
due_is_served book text due e = by (place_of (texts_of book) text) e
  where
    by : (o : Option ℕ) → option_and_then (due_at book) o ≡ Some due → IsServed book due
    by None e = absurd cc
    by (Some place) e = at_is_served book place (slice_get book.list place) due refl e

-- and is for the text that was asked for
at_is_for : (book : RollBook) (place : ℕ) (o : Option SignedText) (due : DueParts) (text : List ℕ) → slice_get book.list place ≡ o
    → slice_get book.list place ≡ Some (get_or book.list place (entry 0 [])) → (get_or book.list place (entry 0 [])).text ≡ text
    → option_map (due_for book place) o ≡ Some due → due.text ≡ text
at_is_for book place None due text at there is e = absurd cc
at_is_for book place (Some s) due text at there is e =
    let same : s ≡ get_or book.list place (entry 0 []) = cc in
    let made : due_for book place s ≡ due = cc in
    sym (ap (λ (d : DueParts). d.text) made) ∙ ap (λ (x : SignedText). x.text) same ∙ is

pub due_is_for : (book : RollBook) (text : List ℕ) (due : DueParts) → due_of book text ≡ Some due → due.text ≡ text
due_is_for book text due e = by (place_of (texts_of book) text) refl e
  where
    by : (o : Option ℕ) → place_of (texts_of book) text ≡ o → option_and_then (due_at book) o ≡ Some due → due.text ≡ text
    by None at e = absurd cc
    by (Some place) at e =
        let there = entry-at book text place at in
        at_is_for book place (slice_get book.list place) due text refl there.0 there.1 e

pub entered_is_served : (book : RollBook) (text : List ℕ) (due : DueParts) → entered book text ≡ Ok due → IsServed (after_entry book text) due
entered_is_served book text due e = by (due_of (after_entry book text) text) refl e
  where
    by : (o : Option DueParts) → due_of (after_entry book text) text ≡ o → ok_or o Spent ≡ Ok due → IsServed (after_entry book text) due
    by None at e = absurd cc
    by (Some d) at e =
        let same : d ≡ due = cc in
        due_is_served (after_entry book text) text due (at ∙ ap (λ (x : DueParts). Some x) same)

last_entry : (list : List SignedText) (s : SignedText) → slice_get (list ++ s ∷ []) (length list) ≡ Some s
last_entry [] s = refl
last_entry (x ∷ list) s = last_entry list s

pub rolled_is_served : (book : RollBook) (text : List ℕ) (due : DueParts) → is_roll text ≡ true → rolled book text ≡ Ok due → IsServed (with_roll book text) due
rolled_is_served book text due is-roll e = by (book.newest == last_generation) e
  where
    made : DueParts
    made = record { generation = book.newest; leaf = book.leaves - 1; text = text; leaves = book.leaves }

    by : (b : Bool) → cond {A = Result DueParts RollFault} b (Err Last) (Ok made) ≡ Ok due → IsServed (with_roll book text) due
    by true e = absurd cc
    by false e =
        let same : made ≡ due = cc in
        subst (IsServed (with_roll book text)) same (record {
          serves = (length book.list, entry book.newest text, (last_entry book.list (entry book.newest text), refl, refl, leaf-roll (with_roll book text) (length book.list) (entry book.newest text) is-roll));
          leaves = refl;
        })

-- what is served is due in a book that is sound
pub served_is_due : (book : RollBook) (due : DueParts) → IsRollBook book → IsServed book due → due_of book due.text ≡ Some due
served_is_due book due sound served =
    let k : ℕ = served.serves.0 in
    let s : SignedText = served.serves.1 in
    let at : slice_get book.list k ≡ Some s = served.serves.2.0 in
    let within = slice_get_within book.list k s at in
    let inside : k < length (texts_of book) = omega (arith, within, length-map book.list (λ (x : SignedText). x.text)) in
    let text : get_or (texts_of book) k [] ≡ due.text =
    get_or-map (λ (x : SignedText). x.text) book.list k (entry 0 []) [] within
    ∙ ap (λ (x : SignedText). x.text) (get_or_from_slice_get book.list k s (entry 0 []) at) ∙ served.serves.2.2 in
    let place : place_of (texts_of book) due.text ≡ Some k = one-place (texts_of book) due.text k [] sound.once inside text in
    ap (λ (o : Option ℕ). option_and_then (due_at book) o) place ∙ ap (λ (o : Option SignedText). option_map (due_for book k) o) at
    ∙ made s served.serves.2.1 served.serves.2.2 served.serves.2.3
  where
    k : ℕ
    k = served.serves.0

    parts : ℕ → ℕ → List ℕ → ℕ → Option DueParts
    parts generation leaf text leaves = Some (record { generation = generation; leaf = leaf; text = text; leaves = leaves })

    made : (s : SignedText) → s.generation ≡ due.generation → s.text ≡ due.text → leaf_of book k s ≡ due.leaf → Some (due_for book k s) ≡ Some due
    made s generation text leaf =
        ap (λ (g : ℕ). parts g (leaf_of book k s) s.text book.leaves) generation
        ∙ ap (λ (l : ℕ). parts due.generation l s.text book.leaves) leaf
        ∙ ap (λ (t : List ℕ). parts due.generation due.leaf t book.leaves) text
        ∙ ap (λ (n : ℕ). parts due.generation due.leaf due.text n) (sym served.leaves)

-- what is due for a text stays due
pub due_on : (book later : RollBook) (text : List ℕ) (due : DueParts) → IsRollBook later → IsLaterBook book later → due_of book text ≡ Some due → due_of later text ≡ Some due
due_on book later text due sound is e =
    subst (λ (t : List ℕ). due_of later t ≡ Some due) (due_is_for book text due e)
    (served_is_due later due sound (served_on book later due is (due_is_served book text due e)))
