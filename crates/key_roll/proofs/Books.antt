-- What entries and rolls keep of a book, and which leaf serves which text.
use Rattle.std.proofs.Common.{◌≡◌, ◌≢◌, ℕ, ◌+◌, ◌-◌, ◌<◌, ◌^◌, ◌==◌, ◌≤◌, ◌⊎◌, inl, inr, List, [], ◌∷◌, ◌++◌, length, take, get_or, refl, sym, ap, ◌∙◌, subst, arith, Bool, true, false, cond, not, eqb, eq-eqb, ne_eqb, nat_lt, Option, Some, None, Ok, Err}
use Rattle.std.specs.Prelude.{count_by, map, slice_get, position, Contains, IsErr, IsOk, is_ok, Result}
use Rattle.std.specs.Result.{IsErrAnd}
use Rattle.ar_base.specs.Gives.{GivesOrWants}
use Rattle.std.specs.List.{prefix_len}
use Rattle.std.proofs.lemmas.Bool.{cases_lt, le-ltb, lt-ltb, ltb-true}
use Rattle.std.proofs.lemmas.List.{length-map, map-append, take-append-le, take-take, get_or-map}
use Rattle.std.proofs.lemmas.List.Elements.{All-get_or, All-push, All-weaker}
use Rattle.std.proofs.lemmas.List.Sums.{count_by_more_yes, sum_by-append, sum_by-take-le}
use Rattle.std.proofs.lemmas.Option.{get_or_from_slice_get, slice_get-get_or, slice_get_within}
use Rattle.std.proofs.lemmas.Nat.{from_be_bytes-to_be_bytes_4}
use Rattle.std.proofs.Math.Seq.{take-append_seam}
use Rattle.std.proofs.Math.Bool.{and-false}
use Rattle.ar_base.specs.Places.{place_of, HasNoneTwice}
use Rattle.ar_base.proofs.Places.{last-place, not-contained, once-push, stands}
use Rattle.ar_base.proofs.Lists.{get-more}
use Rattle.ar_bytes.specs.RoundTrip.{number_text}
use Rattle.ar_statement.specs.declared.party.Party.{Party}
use Rattle.ar_statement.specs.Claims.{Claim, endorse, handover, propose, vote, confirm, confirm_absent, answer, status, roll, object, kind_of, text_of}
use Rattle.key_roll.specs.declared.signed.SignedText.{SignedText}
use Rattle.ar_statement.specs.declared.fault.BookFault.TheVariants.{Spent}
use Rattle.key_roll.specs.Book.{RollBook, IsRollBook, texts_of}
use Rattle.key_roll.specs.Due.{DueParts}
use Rattle.key_roll.specs.Entry.{LeafServes, after_entry, due_at, due_of, entered, entered_new, has_room, leaf_of, with_text, with_roll, after_at}
use Rattle.key_roll.specs.Rolls.{is_roll, is_plain_of, is_roll_of, named_generation, plain_count, roll_count}

-- an entry
abbrev pub entry : ℕ → List ℕ → SignedText
entry g text = record { generation = g; text = text }

abbrev nobody : SignedText
nobody = entry 0 []

-- ---- counts

count-push : (p : SignedText → Bool) (list : List SignedText) (s : SignedText) → count_by p (list ++ s ∷ []) ≡ count_by p list + cond (p s) 1 0
count-push p list s =
    let sum = sum_by-append (λ (x : SignedText). cond (p x) 1 0) list (s ∷ []) in
    omega (arith, sum)

count-yes : (p : SignedText → Bool) (list : List SignedText) (s : SignedText) → p s ≡ true → count_by p (list ++ s ∷ []) ≡ count_by p list + 1
count-yes p list s holds = count-push p list s ∙ ap (λ b. count_by p list + cond b 1 0) holds

count-no : (p : SignedText → Bool) (list : List SignedText) (s : SignedText) → p s ≡ false → count_by p (list ++ s ∷ []) ≡ count_by p list
count-no p list s fails =
    let same = count-push p list s ∙ ap (λ b. count_by p list + cond b 1 0) fails in omega (arith, same)

-- an entry that counts is counted behind its place
counted : (p : SignedText → Bool) (list : List SignedText) (k m : ℕ) (s : SignedText) → slice_get list k ≡ Some s → p s ≡ true → k < m
    → count_by p (take k list) + 1 ≤ count_by p (take m list)
counted p list k m s at holds before =
    let within = slice_get_within list k s at in
    let is = get_or_from_slice_get list k s s at in
    let more = count_by_more_yes p list k s within (ap p is ∙ holds) in
    let less = sum_by-take-le (λ (x : SignedText). cond (p x) 1 0) (take m list) (k + 1) in
    let same = ap (count_by p) (take-take (k + 1) m list (omega arith)) in
    omega (arith, more, less, same)

-- an entry that counts is counted behind its place
pub counted-whole : (p : SignedText → Bool) (list : List SignedText) (k : ℕ) (s : SignedText) → slice_get list k ≡ Some s → p s ≡ true
    → count_by p (take k list) + 1 ≤ count_by p list
counted-whole p list k s at holds =
    let within = slice_get_within list k s at in
    let is = get_or_from_slice_get list k s s at in
    let more = count_by_more_yes p list k s within (ap p is ∙ holds) in
    omega (arith, more, sum_by-take-le (λ (x : SignedText). cond (p x) 1 0) list (k + 1))

-- ---- which entries count

plain-yes : (g : ℕ) (s : SignedText) → s.generation ≡ g → is_roll s.text ≡ false → is_plain_of g s ≡ true
plain-yes g s same fails = let e : eqb s.generation g ≡ true = eq-eqb _ _ same in rw (e, fails) refl

plain-no : (g : ℕ) (s : SignedText) → is_roll s.text ≡ true → is_plain_of g s ≡ false
plain-no g s holds = rw holds (and-false (eqb s.generation g))

plain-other : (g : ℕ) (s : SignedText) → s.generation ≢ g → is_plain_of g s ≡ false
plain-other g s other = let e : eqb s.generation g ≡ false = ne_eqb _ _ other in rw e refl

roll-yes : (g : ℕ) (s : SignedText) → s.generation ≡ g → is_roll s.text ≡ true → is_roll_of g s ≡ true
roll-yes g s same holds = let e : eqb s.generation g ≡ true = eq-eqb _ _ same in rw (e, holds) refl

roll-no : (g : ℕ) (s : SignedText) → is_roll s.text ≡ false → is_roll_of g s ≡ false
roll-no g s fails = rw fails (and-false (eqb s.generation g))

roll-other : (g : ℕ) (s : SignedText) → s.generation ≢ g → is_roll_of g s ≡ false
roll-other g s other = let e : eqb s.generation g ≡ false = ne_eqb _ _ other in rw e refl

-- ---- places

-- at the place of a text stands its entry
pub entry-at : (book : RollBook) (text : List ℕ) (k : ℕ) → place_of (texts_of book) text ≡ Some k
    → (slice_get book.list k ≡ Some (get_or book.list k nobody)) × ((get_or book.list k nobody).text ≡ text)
entry-at book text k at =
    let there = stands (texts_of book) text k [] at in
    let within : k < length book.list = omega (arith, there.0, length-map book.list (λ (s : SignedText). s.text)) in
    (slice_get-get_or book.list k nobody within, sym (get_or-map (λ (x : SignedText). x.text) book.list k nobody [] within) ∙ there.1)

-- a Roll that names the newest generation is new
pub roll_is_new : (book : RollBook) (text : List ℕ) → IsRollBook book → is_roll text ≡ true → named_generation text ≡ book.newest
    → place_of (texts_of book) text ≡ None
roll_is_new book text sound holds names = by (place_of (texts_of book) text) refl
  where
    by : (place : Option ℕ) → place_of (texts_of book) text ≡ place → place ≡ None
    by None at = refl
    by (Some k) at =
        let e = entry-at book text k at in
        let s = get_or book.list k nobody in
        let within = slice_get_within book.list k s e.0 in
        let named : is_roll s.text ≡ true → named_generation s.text ≡ s.generation =
        All-get_or (λ (s : SignedText). is_roll s.text ≡ true → named_generation s.text ≡ s.generation) book.list k nobody within sound.named in
        let roll : is_roll s.text ≡ true = ap is_roll e.1 ∙ holds in
        let newest : s.generation ≡ book.newest = sym (named roll) ∙ ap named_generation e.1 ∙ names in
        let one = counted-whole (is_roll_of book.newest) book.list k s e.0 (roll-yes book.newest s newest roll) in
        absurd (omega (arith, one, sound.unrolled book.newest (omega arith)))

-- ---- what stays true

texts-push : (book : RollBook) (s : SignedText) → map (λ (x : SignedText). x.text) (book.list ++ s ∷ []) ≡ texts_of book ++ s.text ∷ []
texts-push book s = map-append (λ (x : SignedText). x.text) book.list (s ∷ [])

pub entry_keeps : (book : RollBook) (text : List ℕ) → IsRollBook book → place_of (texts_of book) text ≡ None → is_roll text ≡ false
    → plain_count book.newest book.list + 1 < book.leaves → IsRollBook (with_text book text)
entry_keeps book text sound none plain room =
    let s = entry book.newest text in
    record {
      once = subst HasNoneTwice (sym (texts-push book s)) (once-push (texts_of book) text sound.once none);
      upto = All-push (λ (x : SignedText). x.generation ≤ book.newest) book.list s sound.upto (omega arith);
      within = λ g. elim (cases_lt g book.newest) [
        | inl less ↦ omega (arith, count-no (is_plain_of g) book.list s (plain-other g s (λ e. omega (arith, e, less))), sound.within g)
        | inr more ↦ elim (cases_lt book.newest g) [
          | inl less ↦ omega (arith, count-no (is_plain_of g) book.list s (plain-other g s (λ e. omega (arith, e, less))), sound.within g)
          | inr least ↦
              let same : book.newest ≡ g = omega (arith, more, least) in
              let now = ap (λ n. plain_count n book.list) same in
              omega (arith, count-yes (is_plain_of g) book.list s (plain-yes g s same plain), room, now)
        ]
      ];
      rolled = λ g less. count-no (is_roll_of g) book.list s (roll-no g s plain) ∙ sound.rolled g less;
      unrolled = λ g more. count-no (is_roll_of g) book.list s (roll-no g s plain) ∙ sound.unrolled g more;
      named = All-push (λ (x : SignedText). is_roll x.text ≡ true → named_generation x.text ≡ x.generation) book.list s sound.named (λ holds. absurd cc);
      last = sound.last;
    }

pub roll_keeps : (book : RollBook) (text : List ℕ) → IsRollBook book → is_roll text ≡ true → named_generation text ≡ book.newest
    → book.newest < 999 → IsRollBook (with_roll book text)
roll_keeps book text sound holds names before =
    let s = entry book.newest text in
    let none = roll_is_new book text sound holds names in
    record {
      once = subst HasNoneTwice (sym (texts-push book s)) (once-push (texts_of book) text sound.once none);
      upto = All-push (λ (x : SignedText). x.generation ≤ book.newest + 1) book.list s
          (All-weaker (λ (x : SignedText). x.generation ≤ book.newest) (λ (x : SignedText). x.generation ≤ book.newest + 1) (λ x le. omega (arith, le)) book.list sound.upto)
          (omega arith);
      within = λ g. omega (arith, count-no (is_plain_of g) book.list s (plain-no g s holds), sound.within g);
      rolled = λ g less. elim (cases_lt g book.newest) [
        | inl below ↦ count-no (is_roll_of g) book.list s (roll-other g s (λ e. omega (arith, e, below))) ∙ sound.rolled g below
        | inr least ↦
            let same : book.newest ≡ g = omega (arith, less, least) in
            omega (arith, count-yes (is_roll_of g) book.list s (roll-yes g s same holds), sound.unrolled g least)
      ];
      unrolled = λ g more.
          count-no (is_roll_of g) book.list s (roll-other g s (λ e. omega (arith, e, more))) ∙ sound.unrolled g (omega (arith, more));
      named = All-push (λ (x : SignedText). is_roll x.text ≡ true → named_generation x.text ≡ x.generation) book.list s sound.named (λ _. names);
      last = omega (arith, before);
    }

-- ---- leaves

pub leaf-roll : (book : RollBook) (k : ℕ) (s : SignedText) → is_roll s.text ≡ true → leaf_of book k s ≡ book.leaves - 1
leaf-roll book k s holds = rw holds refl

pub leaf-plain : (book : RollBook) (k : ℕ) (s : SignedText) → is_roll s.text ≡ false → leaf_of book k s ≡ plain_count s.generation (take k book.list)
leaf-plain book k s fails = rw fails refl

-- a leaf of an entry is one of the keys'
pub leaf-within : (book : RollBook) (k : ℕ) (s : SignedText) → IsRollBook book → slice_get book.list k ≡ Some s → leaf_of book k s < book.leaves
leaf-within book k s sound at = by (is_roll s.text) refl
  where
    by : (b : Bool) → is_roll s.text ≡ b → leaf_of book k s < book.leaves
    by true holds = omega (arith, leaf-roll book k s holds, sound.within 0)
    by false fails =
        let one = counted-whole (is_plain_of s.generation) book.list k s at (plain-yes s.generation s refl fails) in
        omega (arith, leaf-plain book k s fails, one, sound.within s.generation)

-- a generation has one Roll at most
roll-most : (book : RollBook) (g : ℕ) → IsRollBook book → roll_count g book.list ≤ 1
roll-most book g sound =
    elim (cases_lt g book.newest) [
      | inl below ↦ omega (arith, sound.rolled g below)
      | inr least ↦ omega (arith, sound.unrolled g least)
    ]

-- two entries of one generation have different leaves
apart : (book : RollBook) (j k : ℕ) (s t : SignedText) → IsRollBook book → j < k → slice_get book.list j ≡ Some s → slice_get book.list k ≡ Some t
    → s.generation ≡ t.generation → leaf_of book j s ≡ leaf_of book k t → ⊥
apart book j k s t sound before at_j at_k same leaf = by (is_roll s.text) (is_roll t.text) refl refl
  where
    by : (a b : Bool) → is_roll s.text ≡ a → is_roll t.text ≡ b → ⊥
    by true true rolled-s rolled-t =
        let first = counted (is_roll_of t.generation) book.list j k s at_j (roll-yes t.generation s same rolled-s) before in
        let second = counted-whole (is_roll_of t.generation) book.list k t at_k (roll-yes t.generation t refl rolled-t) in
        omega (arith, first, second, roll-most book t.generation sound)
    by true false rolled-s plain-t =
        let one = counted-whole (is_plain_of t.generation) book.list k t at_k (plain-yes t.generation t refl plain-t) in
        omega (arith, leaf, leaf-roll book j s rolled-s, leaf-plain book k t plain-t, one, sound.within t.generation)
    by false true plain-s rolled-t =
        let one = counted-whole (is_plain_of s.generation) book.list j s at_j (plain-yes s.generation s refl plain-s) in
        omega (arith, leaf, leaf-plain book j s plain-s, leaf-roll book k t rolled-t, one, sound.within s.generation)
    by false false plain-s plain-t =
        let first = counted (is_plain_of t.generation) book.list j k s at_j (plain-yes t.generation s same plain-s) before in
        let g = ap (λ n. plain_count n (take j book.list)) same in
        omega (arith, leaf, leaf-plain book j s plain-s, leaf-plain book k t plain-t, first, g)

-- no generation's leaf serves two texts
pub one_text : (book : RollBook) (g leaf : ℕ) (first second : List ℕ) → IsRollBook book → LeafServes book g leaf first → LeafServes book g leaf second → first ≡ second
one_text book g leaf first second sound a b =
    let s = a.1 in
    let t = b.1 in
    let at_j = a.2.0 in
    let at_k = b.2.0 in
    let same = a.2.1 ∙ sym b.2.1 in
    let leaves = a.2.3 ∙ sym b.2.3 in
    elim (cases_lt a.0 b.0) [
      | inl before ↦ absurd (apart book a.0 b.0 s t sound before at_j at_k same leaves)
      | inr behind ↦ elim (cases_lt b.0 a.0) [
        | inl before ↦ absurd (apart book b.0 a.0 t s sound before at_k at_j (sym same) (sym leaves))
        | inr here ↦
            let place : a.0 ≡ b.0 = omega (arith, behind, here) in
            let one : Some s ≡ Some t = sym at_j ∙ ap (slice_get book.list) place ∙ at_k in
            let is : s ≡ t = cc in
            sym a.2.2 ∙ ap (λ (x : SignedText). x.text) is ∙ b.2.2
      ]
    ]

-- ---- later books

-- what a leaf serves it serves in each later book
pub serves_later : (book later : RollBook) (more : List SignedText) (g leaf : ℕ) (text : List ℕ) → later.leaves ≡ book.leaves → later.list ≡ book.list ++ more
    → LeafServes book g leaf text → LeafServes later g leaf text
serves_later book later more g leaf text leaves grown a =
    let s = a.1 in
    let within = slice_get_within book.list a.0 s a.2.0 in
    let front : take a.0 later.list ≡ take a.0 book.list = ap (take a.0) grown ∙ take-append-le a.0 book.list more (omega arith) in
    let same : leaf_of later a.0 s ≡ leaf_of book a.0 s =
    ap (λ l. cond (is_roll s.text) (l - 1) (plain_count s.generation (take a.0 later.list))) leaves
    ∙ ap (λ l. cond (is_roll s.text) (book.leaves - 1) (plain_count s.generation l)) front in
    (a.0, s, (ap (λ l. slice_get l a.0) grown ∙ get-more book.list more a.0 s a.2.0, a.2.1, a.2.2, same ∙ a.2.3))

-- ---- what is due

abbrev pub due_for : RollBook → ℕ → SignedText → DueParts
due_for book k s = record { generation = s.generation; leaf = leaf_of book k s; text = s.text; leaves = book.leaves }

-- its parts
abbrev pub due : ℕ → ℕ → List ℕ → ℕ → DueParts
due generation leaf text leaves = record { generation = generation; leaf = leaf; text = text; leaves = leaves }

-- what is due for an entry
pub due-roll : (book : RollBook) (k : ℕ) (s : SignedText) → slice_get book.list k ≡ Some s → is_roll s.text ≡ true
    → due_at book k ≡ Some (record { generation = s.generation; leaf = book.leaves - 1; text = s.text; leaves = book.leaves })
due-roll book k s at holds = rw (at, holds) refl

pub due-plain : (book : RollBook) (k : ℕ) (s : SignedText) → slice_get book.list k ≡ Some s → is_roll s.text ≡ false
    → due_at book k ≡ Some (record { generation = s.generation; leaf = plain_count s.generation (take k book.list); text = s.text; leaves = book.leaves })
due-plain book k s at fails = rw (at, fails) refl

-- what is due for a new text
pub due_new : (book : RollBook) (text : List ℕ) → IsRollBook book → place_of (texts_of book) text ≡ None → is_roll text ≡ false
    → due_of (with_text book text) text ≡ Some (record { generation = book.newest; leaf = plain_count book.newest book.list; text = text; leaves = book.leaves })
due_new book text sound none plain =
    let s = entry book.newest text in
    let n = length book.list in
    let place : place_of (texts_of (with_text book text)) text ≡ Some n =
    ap (λ l. place_of l text) (texts-push book s) ∙ last-place (texts_of book) text sound.once none
    ∙ ap (λ (k : ℕ). Some k) (length-map book.list (λ (x : SignedText). x.text)) in
    let at : slice_get (book.list ++ s ∷ []) n ≡ Some s = slice_get-end book.list s in
    let front : take n (book.list ++ s ∷ []) ≡ book.list = take-append_seam book.list (s ∷ []) in
    rw (place, at, plain, front) refl
  where
    slice_get-end : {A : Type 0} (xs : List A) (x : A) → slice_get (xs ++ x ∷ []) (length xs) ≡ Some x
    slice_get-end [] x = refl
    slice_get-end (y ∷ xs) x = slice_get-end xs x

-- ---- positions of what was mapped

prefix_len-map : {A B : Type 0} (p : B → Bool) (f : A → B) (xs : List A) → prefix_len p (map f xs) ≡ prefix_len (λ x. p (f x)) xs
prefix_len-map p f [] = refl
prefix_len-map p f (x ∷ xs) = ap (λ n. cond (p (f x)) (1 + n) 0) (prefix_len-map p f xs)

pub position-map : {A B : Type 0} (p : B → Bool) (f : A → B) (xs : List A) → position p (map f xs) ≡ position (λ x. p (f x)) xs
position-map p f xs =
    rw (prefix_len-map (λ y. not (p y)) f xs, length-map xs f) refl

-- ---- entries that the book does not hold

pub entered_full : (book : RollBook) (text : List ℕ) → book.leaves ≤ plain_count book.newest book.list + 1 → entered_new book text ≡ Err Spent
entered_full book text full = let out : nat_lt (plain_count book.newest book.list + 1) book.leaves ≡ false = le-ltb _ _ full in rw out refl

pub entered_room : (book : RollBook) (text : List ℕ) → plain_count book.newest book.list + 1 < book.leaves
    → entered_new book text ≡ Ok (record { generation = book.newest; leaf = plain_count book.newest book.list; text = text; leaves = book.leaves })
entered_room book text room = let more : nat_lt (plain_count book.newest book.list + 1) book.leaves ≡ true = lt-ltb _ _ room in rw more refl

pub is_entered : (book : RollBook) (text : List ℕ) → plain_count book.newest book.list + 1 < book.leaves → IsOk (entered_new book text)
is_entered book text room = ap is_ok (entered_room book text room)

pub entered-new : (book : RollBook) (text : List ℕ) → IsRollBook book → place_of (texts_of book) text ≡ None → is_roll text ≡ false
    → entered book text ≡ entered_new book text
entered-new book text sound none plain = by (has_room book) refl
  where
    by : (b : Bool) → has_room book ≡ b → entered book text ≡ entered_new book text
    by true room = rw (none, room, due_new book text sound none plain) refl
    by false out = rw (none, out, none) refl

-- ---- want of memory

pub wants : {T V E : Type 0} (memory : E) (view : T → V) (r : Result T E) (expected : Result V E) → IsErr r × IsErrAnd r (λ e. e ≡ memory) → IsOk expected
    → GivesOrWants memory view r expected
wants memory view (Ok x) expected told ok = absurd told.1
wants memory view (Err e) expected told ok = inl (told.1, ok)

pub wants-is : {T E : Type 0} (memory : E) (r : Result T E) → IsErr r × IsErrAnd r (λ e. e ≡ memory) → r ≡ Err memory
wants-is memory (Ok x) told = absurd told.1
wants-is memory (Err e) told = let is = told.1 in cc

-- ---- entries, whatever the book holds

pub after_entry_keeps : (book : RollBook) (text : List ℕ) → IsRollBook book → (is_roll text ≡ false) ⊎ Contains (texts_of book) text → IsRollBook (after_entry book text)
after_entry_keeps book text sound told = by (place_of (texts_of book) text) (has_room book) refl refl
  where
    by : (place : Option ℕ) (room : Bool) → place_of (texts_of book) text ≡ place → has_room book ≡ room → IsRollBook (after_entry book text)
    by (Some k) room at _ = rw at sound
    by None false at out = rw (at, out) sound
    by None true at free =
        let plain : is_roll text ≡ false = elim told [ inl plain ↦ plain | inr held ↦ absurd (not-contained (texts_of book) text at held) ] in
        rw (at, free) (entry_keeps book text sound at plain (ltb-true _ _ free))

-- ---- texts of Rolls

pub is_roll-kind : (claim : Claim) → is_roll (text_of claim) ≡ (kind_of claim == 10)
unfolding text_of number_text
is_roll-kind (endorse a b) = refl
is_roll-kind (handover a) = refl
is_roll-kind (propose a b c d) = refl
is_roll-kind (vote a b c d) = refl
is_roll-kind (confirm a b c d e) = refl
is_roll-kind (confirm_absent a b c d) = refl
is_roll-kind (answer a b c) = refl
is_roll-kind (status a b c) = refl
is_roll-kind (roll a b c) = refl
is_roll-kind (object a) = refl

pub named-roll : (signer : Party) (generation : ℕ) (key : List ℕ) → generation < 2 ^ 32 → named_generation (text_of (roll signer generation key)) ≡ generation
unfolding text_of number_text
named-roll signer generation key small = from_be_bytes-to_be_bytes_4 generation small

-- ---- what an entry leaves of a book

pub record IsSameBook (book later : RollBook) : Type 0 where
  pub leaves : later.leaves ≡ book.leaves
  pub newest : later.newest ≡ book.newest

pub entry-same : (book : RollBook) (text : List ℕ) → IsSameBook book (after_entry book text)
entry-same book text = at (place_of (texts_of book) text)
  where
    new : (room : Bool) → IsSameBook book (cond room (with_text book text) book)
    new true = record { leaves = refl; newest = refl }
    new false = record { leaves = refl; newest = refl }

    at : (place : Option ℕ) → IsSameBook book (after_at book text place)
    at (Some k) = record { leaves = refl; newest = refl }
    at None = new (has_room book)
