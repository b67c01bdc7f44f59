-- Of a party's book, the Roll of each generation names the party's own next key, and no other.
use Rattle.std.proofs.Common.{◌≡◌, ◌∙◌, ℕ, zero, suc, ◌+◌, ◌-◌, ◌<◌, ◌^◌, List, [], ◌∷◌, ◌++◌, length, drop, refl, sym, ap, subst, arith, true, eqb, eq-eqb, inl, inr, Some}
use Rattle.std.specs.Prelude.{Contains, get_or, map, slice_get}
use Rattle.std.proofs.lemmas.Bool.{cases_lt}
use Rattle.std.proofs.lemmas.List.{map-append}
use Rattle.std.proofs.lemmas.List.Elements.{Contains-append_left, Contains-push}
use Rattle.std.proofs.lemmas.Option.{slice_get_within}
use Rattle.ar_base.proofs.Lists.{has-item}
use Rattle.ar_statement.specs.Claims.{roll, text_of}
use Rattle.ar_statement.specs.declared.party.Party.{Party}
use Rattle.ar_bytes.specs.RoundTrip.{number_text}
use Rattle.key_roll.proofs.Books.{counted-whole, is_roll-kind, leaf-roll, named-roll, one_text}
use Rattle.key_roll.proofs.Later.{roll_later}
use Rattle.key_roll.proofs.Rings.{at-place}
use Rattle.key_roll.specs.Book.{IsRollBook, RollBook, texts_of}
use Rattle.key_roll.specs.Entry.{LeafServes, roll_text, with_roll}
use Rattle.key_roll.specs.Later.{IsLaterBook}
use Rattle.key_roll.specs.Rolls.{is_roll, is_roll_of, named_generation}
use Rattle.key_roll.specs.declared.signed.SignedText.{SignedText}
use Rattle.lms_tree.specs.Key.{public_of}
use Rattle.lms_tree.specs.KeyParts.{KeyParts}
use Rattle.lms_tree.specs.PublicKey.{key_text}
use Rattle.run_safety.specs.Own.{HasRolls, PartyParts}
use Rattle.run_safety.proofs.Rings.{get-push}

-- ---- entries

-- an entry has the text
record HasEntry (list : List SignedText) (text : List ℕ) : Type 0 where
  place : ℕ
  entry : SignedText
  there : slice_get list place ≡ Some entry
  is : entry.text ≡ text

entry-of : (list : List SignedText) (text : List ℕ) → Contains (map (λ (s : SignedText). s.text) list) text → HasEntry list text
entry-of list text there = at list there.0 there.1 there.2
  where
    at : (list : List SignedText) (k : ℕ) → k < length (map (λ (s : SignedText). s.text) list) → get_or (map (λ (s : SignedText). s.text) list) k text ≡ text → HasEntry list text
    at [] k less same = absurd (omega (arith, less))
    at (s ∷ more) zero less same = record { place = 0; entry = s; there = refl; is = same }
    at (s ∷ more) (suc k) less same = let r = at more k (omega (arith, less)) same in record { place = suc r.place; entry = r.entry; there = r.there; is = r.is }

-- the entry of a Roll is of the generation that it names
record HasRoll (book : RollBook) (g : ℕ) (text : List ℕ) : Type 0 where
  place : ℕ
  entry : SignedText
  there : slice_get book.list place ≡ Some entry
  is : entry.text ≡ text
  rolls : is_roll entry.text ≡ true
  of : entry.generation ≡ g

roll-entry : (book : RollBook) (g : ℕ) (text : List ℕ) → IsRollBook book → is_roll text ≡ true → named_generation text ≡ g → Contains (texts_of book) text → HasRoll book g text
roll-entry book g text sound rolls names has =
    let e = entry-of book.list text has in
    let is : is_roll e.entry.text ≡ true = ap is_roll e.is ∙ rolls in
    let named : named_generation e.entry.text ≡ e.entry.generation =
    at-place (λ (s : SignedText). is_roll s.text ≡ true → named_generation s.text ≡ s.generation) book.list e.place e.entry sound.named e.there is in
    record { place = e.place; entry = e.entry; there = e.there; is = e.is; rolls = is; of = sym named ∙ ap named_generation e.is ∙ names }

roll-serves : (book : RollBook) (g : ℕ) (text : List ℕ) → HasRoll book g text → LeafServes book g (book.leaves - 1) text
roll-serves book g text r = (r.place, r.entry, (r.there, r.of, r.is, leaf-roll book r.place r.entry r.rolls))

is-of : (g : ℕ) (s : SignedText) → s.generation ≡ g → is_roll s.text ≡ true → is_roll_of g s ≡ true
is-of g s same holds = let e : eqb s.generation g ≡ true = eq-eqb _ _ same in rw (e, holds) refl

-- and below the newest
roll-below : (book : RollBook) (g : ℕ) (text : List ℕ) → IsRollBook book → HasRoll book g text → g < book.newest
roll-below book g text sound r = elim (cases_lt g book.newest) [
  | inl less ↦ less
  | inr most ↦
      let some = counted-whole (is_roll_of g) book.list r.place r.entry r.there (is-of g r.entry r.of r.rolls) in
      let none = sound.unrolled g most in
      absurd (omega (arith, some, none))
]

-- ---- the key that a Roll names

-- behind the kind, the signer and the generation stands the key
key-behind : (party : Party) (g : ℕ) (key : List ℕ) → drop 8 (text_of (roll party g key)) ≡ key
unfolding text_of number_text
key-behind party g key = refl

-- the key that follows is the party's own
pub record IsOwnNext (p : PartyParts) (g : ℕ) (key : List ℕ) : Type 0 where
  pub next : KeyParts
  pub there : slice_get p.ring (g + 1) ≡ Some next
  pub is : key ≡ key_text (public_of next)

pub rolled-is-next : (party : Party) (p : PartyParts) (g : ℕ) (key : List ℕ) → IsRollBook p.book → length p.ring ≡ p.book.newest + 1 → HasRolls party p.book p.ring → g < 2 ^ 32
    → Contains (texts_of p.book) (text_of (roll party g key)) → IsOwnNext p g key
rolled-is-next party p g key sound many rolls small has =
    let r = roll-entry p.book g (text_of (roll party g key)) sound (is_roll-kind (roll party g key)) (named-roll party g key small) has in
    let below = roll-below p.book g (text_of (roll party g key)) sound r in
    let next = has-item p.ring (g + 1) (omega (arith, many, below)) in
    let own : List ℕ = key_text (public_of next.0) in
    let other = roll-entry p.book g (text_of (roll party g own)) sound (is_roll-kind (roll party g own)) (named-roll party g own small) (rolls g next.0 next.1) in
    let same : text_of (roll party g key) ≡ text_of (roll party g own) =
    one_text p.book g (p.book.leaves - 1) (text_of (roll party g key)) (text_of (roll party g own)) sound (roll-serves p.book g (text_of (roll party g key)) r)
    (roll-serves p.book g (text_of (roll party g own)) other) in
    record { next = next.0; there = next.1; is = sym (key-behind party g key) ∙ ap (drop 8) same ∙ key-behind party g own }

-- ---- Rolls of a book that grows

pub texts-later : (book later : RollBook) (text : List ℕ) → IsLaterBook book later → Contains (texts_of book) text → Contains (texts_of later) text
texts-later book later text on has =
    subst (λ (list : List SignedText). Contains (map (λ (s : SignedText). s.text) list) text) (sym on.list.1)
    (subst (λ texts. Contains texts text) (sym (map-append (λ (s : SignedText). s.text) book.list on.list.0))
    (Contains-append_left (texts_of book) (map (λ (s : SignedText). s.text) on.list.0) text has))

-- with the same keys, all of them are announced later too
pub rolls-later : (party : Party) (book later : RollBook) (keys : List KeyParts) → IsLaterBook book later → HasRolls party book keys → HasRolls party later keys
rolls-later party book later keys on rolls g key there = texts-later book later (roll_text party g (public_of key)) on (rolls g key there)

-- one key has no later one
pub rolls-first : (party : Party) (book : RollBook) (key : KeyParts) → HasRolls party book (key ∷ [])
rolls-first party book key g next there =
    let within = slice_get_within (key ∷ []) (g + 1) next there in
    absurd (omega (arith, within))

-- the Roll stands in the book behind it
with-roll-has : (book : RollBook) (text : List ℕ) → Contains (texts_of (with_roll book text)) text
with-roll-has book text =
    subst (λ texts. Contains texts text) (sym (map-append (λ (s : SignedText). s.text) book.list (record { generation = book.newest; text = text } ∷ [])))
    (Contains-push (texts_of book) text)

-- and so it is with one key more, behind its Roll
pub rolls-next : (party : Party) (book : RollBook) (keys : List KeyParts) (next : KeyParts) → length keys ≡ book.newest + 1 → HasRolls party book keys
    → HasRolls party (with_roll book (roll_text party book.newest (public_of next))) (keys ++ next ∷ [])
rolls-next party book keys next many rolls g key there = elim (get-push keys next (g + 1) key there) [
  | inl before ↦ texts-later book (with_roll book text) (roll_text party g (public_of key)) (roll_later book text) (rolls g key before)
  | inr last ↦
      let place = last.0 in
      let same : g ≡ book.newest = omega (arith, place, many) in
      subst (λ (n : ℕ). Contains (texts_of (with_roll book text)) (roll_text party n (public_of key))) (sym same)
      (subst (λ (k : KeyParts). Contains (texts_of (with_roll book text)) (roll_text party book.newest (public_of k))) last.1 (with-roll-has book text))
]
  where
    text : List ℕ
    text = roll_text party book.newest (public_of next)
