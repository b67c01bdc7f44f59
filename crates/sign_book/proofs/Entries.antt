-- What the place of a text in a list says, and what entries keep of a book.
use Rattle.std.proofs.Common.{◌≡◌, ℕ, ◌<◌, List, [], ◌∷◌, ◌++◌, length, length-append, get_or, refl, sym, ap, ◌∙◌, subst, arith, Bool, true, false, nat_lt, Option, Some, None, Ok, Err}
use Rattle.std.specs.Prelude.{Contains, if◌then◌else◌}
use Rattle.std.proofs.lemmas.Bool.{ltb-true}
use Rattle.std.proofs.lemmas.List.{get_or_append_left}
use Rattle.std.proofs.Math.Seq.{get_or-append_seam}
use Rattle.ar_statement.specs.declared.fault.BookFault.TheVariants.{Spent}
use Rattle.sign_book.specs.Book.{Book, IsSignBook}
use Rattle.ar_base.specs.Places.{place_of}
use Rattle.ar_base.proofs.Places.{contained, less-not, not-contained, not-less, once-push, one-place, stands}
use Rattle.sign_book.specs.Entry.{leaf_at, leaf_of, with_text, after_at, after_entry}

-- ---- entries

-- a new text keeps a book sound that has a leaf left
pub sound-push : (book : Book) (text : List ℕ) → IsSignBook book → place_of book.texts text ≡ None
    → length book.texts < book.leaves → IsSignBook (with_text book text)
sound-push book text s none left =
    record {
      once = once-push book.texts text s.once none;
      within = omega (arith, length-append book.texts (text ∷ []), left);
    }

-- what it says that a leaf was left, or none
next-leaf : (b : Bool) (n leaf : ℕ) → (if b then Ok n else Err Spent) ≡ Ok leaf → (b ≡ true) × (n ≡ leaf)
next-leaf true n leaf e = (refl, cc)
next-leaf false n leaf e = cc

no-leaf : (b : Bool) (n : ℕ) → (if b then Ok n else Err Spent) ≡ Err Spent → b ≡ false
no-leaf true n e = cc
no-leaf false n e = refl

-- the leaf that was given is the place of the text
pub given : (book : Book) (text : List ℕ) (leaf : ℕ) (d : List ℕ) → leaf_of book text ≡ Ok leaf
    → (leaf < length (after_entry book text).texts) × (get_or (after_entry book text).texts leaf d ≡ text)
given book text leaf d = by (place_of book.texts text) refl
  where
    by : (place : Option ℕ) → place_of book.texts text ≡ place → leaf_at book place ≡ Ok leaf
        → (leaf < length (after_at book text place).texts) × (get_or (after_at book text place).texts leaf d ≡ text)
    by (Some k) at e =
        let k-is : k ≡ leaf = cc in
        let P : ℕ → Type 0 = λ n. (n < length book.texts) × (get_or book.texts n d ≡ text) in
        subst P k-is (stands book.texts text k d at)
    by None at e =
        let last = (next-leaf (nat_lt (length book.texts) book.leaves) (length book.texts) leaf e).1 in
        let P : ℕ → Type 0 = λ n. (n < length (book.texts ++ text ∷ [])) × (get_or (book.texts ++ text ∷ []) n d ≡ text) in
        subst P last (omega (arith, length-append book.texts (text ∷ [])), get_or-append_seam book.texts text [] d)

-- the leaf that was given is one of the book's
pub within-leaves : (book : Book) (text : List ℕ) (leaf : ℕ) → IsSignBook book → leaf_of book text ≡ Ok leaf → leaf < book.leaves
within-leaves book text leaf s = by (place_of book.texts text) refl
  where
    by : (place : Option ℕ) → place_of book.texts text ≡ place → leaf_at book place ≡ Ok leaf → leaf < book.leaves
    by (Some k) at e =
        let k-is : k ≡ leaf = cc in
        omega (arith, (stands book.texts text k [] at).0, s.within, k-is)
    by None at e =
        let last = next-leaf (nat_lt (length book.texts) book.leaves) (length book.texts) leaf e in
        omega (arith, ltb-true (length book.texts) book.leaves last.0, last.1)

-- what was given stands there later
pub still : (texts more : List (List ℕ)) (later : List (List ℕ)) (text : List ℕ) (k : ℕ) (d : List ℕ)
    → later ≡ texts ++ more → (k < length texts) × (get_or texts k d ≡ text)
    → (k < length later) × (get_or later k d ≡ text)
still texts more later text k d e s =
    (omega (arith, ap length e, length-append texts more, s.0), ap (λ l. get_or l k d) e ∙ (get_or_append_left texts more d k s.0 ∙ s.1))

-- a leaf that serves a text is given to no other
pub one-text : (later : Book) (text other : List ℕ) (leaf : ℕ) → (leaf < length later.texts) × (get_or later.texts leaf [] ≡ text)
    → leaf_of later other ≡ Ok leaf → text ≡ other
one-text later text other leaf s = by (place_of later.texts other) refl
  where
    by : (place : Option ℕ) → place_of later.texts other ≡ place → leaf_at later place ≡ Ok leaf → text ≡ other
    by (Some k) at e =
        let k-is : k ≡ leaf = cc in
        let there : get_or later.texts k [] ≡ other = (stands later.texts other k [] at).1 in
        sym s.1 ∙ (ap (λ n. get_or later.texts n []) (sym k-is) ∙ there)
    by None at e =
        let last = next-leaf (nat_lt (length later.texts) later.leaves) (length later.texts) leaf e in
        absurd (omega (arith, last.1, s.0))

-- a text that has a leaf keeps it
pub kept : (later : Book) (text : List ℕ) (leaf : ℕ) → IsSignBook later
    → (leaf < length later.texts) × (get_or later.texts leaf [] ≡ text)
    → (leaf_of later text ≡ Ok leaf) × (after_entry later text ≡ later)
kept later text leaf s there =
    let at = one-place later.texts text leaf [] s.once there.0 there.1 in
    (ap (leaf_at later) at, ap (after_at later text) at)

-- no leaf is left exactly where each serves another text
pub spent-to : (book : Book) (text : List ℕ) → IsSignBook book → leaf_of book text ≡ Err Spent
    → (length book.texts ≡ book.leaves) × ¬ Contains book.texts text
spent-to book text s = by (place_of book.texts text) refl
  where
    by : (place : Option ℕ) → place_of book.texts text ≡ place → leaf_at book place ≡ Err Spent
        → (length book.texts ≡ book.leaves) × ¬ Contains book.texts text
    by (Some k) at e = cc
    by None at e =
        let full = no-leaf (nat_lt (length book.texts) book.leaves) (length book.texts) e in
        (omega (arith, not-less (length book.texts) book.leaves full, s.within), not-contained book.texts text at)

pub spent-from : (book : Book) (text : List ℕ) → (length book.texts ≡ book.leaves) × ¬ Contains book.texts text
    → leaf_of book text ≡ Err Spent
spent-from book text full = by (place_of book.texts text) refl
  where
    by : (place : Option ℕ) → place_of book.texts text ≡ place → leaf_at book place ≡ Err Spent
    by (Some k) at = absurd (full.1 (contained book.texts text k at))
    by None at =
        let no : nat_lt (length book.texts) book.leaves ≡ false = less-not (length book.texts) book.leaves (λ lt. omega (arith, full.0, lt)) in
        ap (λ b. if b then Ok (length book.texts) else Err Spent) no

-- entries keep a book sound
pub sound-after : (book : Book) (text : List ℕ) (leaf : ℕ) → IsSignBook book → leaf_of book text ≡ Ok leaf
    → IsSignBook (after_entry book text)
sound-after book text leaf s = by (place_of book.texts text) refl
  where
    by : (place : Option ℕ) → place_of book.texts text ≡ place → leaf_at book place ≡ Ok leaf → IsSignBook (after_at book text place)
    by (Some k) at e = s
    by None at e =
        let last = next-leaf (nat_lt (length book.texts) book.leaves) (length book.texts) leaf e in
        sound-push book text s at (ltb-true (length book.texts) book.leaves last.0)
