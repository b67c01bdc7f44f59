-- Keys and their texts.
use Rattle.std.proofs.Common.{◌≡◌, ◌∙◌, ap, sym, subst, refl, arith, ℕ, zero, suc, ◌+◌, ◌^◌, ◌<◌, ◌≤◌, List, [], ◌∷◌, ◌++◌, length, take, drop, Bool, true, false, Option, Some, None, Ok, eqb, eq-eqb, ltb}
use Rattle.std.specs.Prelude.{is_some}
use Rattle.std.specs.Result.{result_ok}
use Rattle.std.specs.Int.{w32, from_be_bytes}
use Rattle.std.proofs.lemmas.List.{length-append, length-drop}
use Rattle.std.proofs.lemmas.Bool.{eqb-true, le-ltb, and_parts}
use Rattle.std.proofs.lemmas.Bool.Decides.{nat_tests}
use Rattle.ar_base.specs.Bytes.{AreBytes}
use Rattle.ar_base.specs.Chaining.{◌>>=◌}
use Rattle.ar_base.proofs.Shown.{bind_ok, ok_is, some_of, gave}
use Rattle.ar_bytes.specs.Reading.{Cursor, Reading, all_of, behind, bytes_at, number_at, start_of, whole}
use Rattle.ar_bytes.specs.RoundTrip.{Passes, ReadsBack, IsSpelledBy, number_text}
use Rattle.ar_bytes.proofs.Steps.{all_ok, Passes-then, Passes-first, Passes-second, AreBytes-behind}
use Rattle.ar_bytes.proofs.Passing.{bytes_again, bytes_pass, number_again, number_pass, wide32, length-number_text}
use Rattle.ar_bytes.proofs.Taken.{bytes_taken, left_of, number_taken}
use Rattle.ar_bytes.proofs.JoinedFields.{known_again, known_pass, known_taken}
use Rattle.ar_bytes.proofs.Parts.{whole_again, whole_pass}
use Rattle.lm_ots.specs.declared.ots_type.OtsType.{OtsType}
use Rattle.lm_ots.specs.declared.ots_type.OtsType.TheVariants.{W1, W2, W4, W8}
use Rattle.lm_ots.specs.OtsKind as ots_kind
use Rattle.lms_tree.specs.declared.lms_type.LmsType.{LmsType}
use Rattle.lms_tree.specs.declared.lms_type.LmsType.TheVariants.{H5, H10, H15, H20, H25}
use Rattle.lms_tree.specs.declared.public_key.LmsPublic.{LmsPublic}
use Rattle.lms_tree.specs.LmsKind as lms_kind
use Rattle.lms_tree.specs.PublicKey.{HasWidths, is_key_text, key_at, key_of_text, key_text, type_at}

-- ---- types and their numbers

pub lms_type-number : (kind : LmsType) → lms_kind.type_of_number (lms_kind.number_of kind) ≡ Some kind
lms_type-number H5 = refl
lms_type-number H10 = refl
lms_type-number H15 = refl
lms_type-number H20 = refl
lms_type-number H25 = refl

pub ots_type-number : (kind : OtsType) → ots_kind.type_of_number (ots_kind.number_of kind) ≡ Some kind
ots_type-number W1 = refl
ots_type-number W2 = refl
ots_type-number W4 = refl
ots_type-number W8 = refl

pub lms_number-lt : (kind : LmsType) → lms_kind.number_of kind < 2 ^ 32
lms_number-lt H5 = omega arith
lms_number-lt H10 = omega arith
lms_number-lt H15 = omega arith
lms_number-lt H20 = omega arith
lms_number-lt H25 = omega arith

pub ots_number-lt : (kind : OtsType) → ots_kind.number_of kind < 2 ^ 32
ots_number-lt W1 = omega arith
ots_number-lt W2 = omega arith
ots_number-lt W4 = omega arith
ots_number-lt W8 = omega arith

lms_number-type : (n : ℕ) (kind : LmsType) → lms_kind.type_of_number n ≡ Some kind → lms_kind.number_of kind ≡ n
lms_number-type n kind e = grind (arith, nat_tests)

ots_number-type : (n : ℕ) (kind : OtsType) → ots_kind.type_of_number n ≡ Some kind → ots_kind.number_of kind ≡ n
ots_number-type n kind e = grind (arith, nat_tests)

-- ---- a type in a text

type_again : {A : Type 0} (type_of_number : ℕ → Option A) (kind : A) (n : ℕ) → n < 2 ^ 32 → type_of_number n ≡ Some kind
    → ReadsBack (type_at type_of_number) kind (number_text w32 n)
unfolding type_at
type_again type_of_number kind n lt is = known_again type_of_number (number_at w32) n kind (number_text w32 n) (number_again w32 (2 ^ 32) wide32 n lt) is

type_pass : {A : Type 0} (type_of_number : ℕ → Option A) (number_of : A → ℕ) → ((n : ℕ) (kind : A) → type_of_number n ≡ Some kind → number_of kind ≡ n)
    → IsSpelledBy (type_at type_of_number) (λ kind. number_text w32 (number_of kind)) (λ _. Unit {0})
unfolding type_at
type_pass type_of_number number_of own =
    known_pass type_of_number (number_at w32) (number_text w32) (λ n. n < 2 ^ 32) (λ kind. number_text w32 (number_of kind)) (λ _. Unit {0}) (number_pass w32 (2 ^ 32) wide32)
    (λ n kind lt is. (ap (number_text w32) (own n kind is), tt))

-- ---- a key

abbrev the_key : LmsType → OtsType → List ℕ → List ℕ → LmsPublic
the_key lms ots id root = record { lms = lms; ots = ots; id = id; root = root }

abbrev lms_at : Cursor → Reading LmsType
lms_at at = type_at lms_kind.type_of_number at

abbrev ots_at : Cursor → Reading OtsType
ots_at at = type_at ots_kind.type_of_number at

-- what is read behind each field
abbrev behind_id : LmsType → OtsType → List ℕ × Cursor → Reading LmsPublic
behind_id lms ots i = bytes_at 32 i.1 >>= λ r. Ok (the_key lms ots i.0 r.0, r.1)

abbrev behind_ots : LmsType → OtsType × Cursor → Reading LmsPublic
behind_ots lms o = bytes_at 16 o.1 >>= behind_id lms o.0

abbrev behind_lms : LmsType × Cursor → Reading LmsPublic
behind_lms l = ots_at l.1 >>= behind_ots l.0

-- a key is read again
pub key_again : (key : LmsPublic) → HasWidths key → ReadsBack key_at key (key_text key)
unfolding key_at key_text
key_again key h at new p =
    let lms = number_text w32 (lms_kind.number_of key.lms) in
    let ots = number_text w32 (ots_kind.number_of key.ots) in
    let past_lms = Passes-second at new lms (ots ++ (key.id ++ key.root)) p in
    let past_ots = Passes-second _ new ots (key.id ++ key.root) past_lms in
    rw (
      type_again lms_kind.type_of_number key.lms _ (lms_number-lt key.lms) (lms_type-number key.lms) at _ (Passes-first at new lms (ots ++ (key.id ++ key.root)) p),
      type_again ots_kind.type_of_number key.ots _ (ots_number-lt key.ots) (ots_type-number key.ots) _ _ (Passes-first _ new ots (key.id ++ key.root) past_lms),
      bytes_again 16 key.id _ _ h.0 (Passes-first _ new key.id key.root past_ots),
      bytes_again 32 key.root _ new h.1 (Passes-second _ new key.id key.root past_ots),
    ) refl

-- a key that is read is spelled so
pub key_pass : IsSpelledBy key_at key_text HasWidths
unfolding key_at key_text
key_pass at new key bytes e =
    let lms = bind_ok {B = LmsPublic × Cursor} (lms_at at) behind_lms (key, new) e in
    let ots = bind_ok {B = LmsPublic × Cursor} (ots_at lms.0.1) (behind_ots lms.0.0) (key, new) lms.2 in
    let id = bind_ok {B = LmsPublic × Cursor} (bytes_at 16 ots.0.1) (behind_id lms.0.0 ots.0.0) (key, new) ots.2 in
    let root = bind_ok {B = LmsPublic × Cursor} (bytes_at 32 id.0.1) (λ r. Ok (the_key lms.0.0 ots.0.0 id.0.0 r.0, r.1)) (key, new) id.2 in
    let l = type_pass lms_kind.type_of_number lms_kind.number_of lms_number-type at lms.0.1 lms.0.0 bytes lms.1 in
    let o = type_pass ots_kind.type_of_number ots_kind.number_of ots_number-type lms.0.1 ots.0.1 ots.0.0 (AreBytes-behind at lms.0.1 _ l.0 bytes) ots.1 in
    let i = bytes_pass 16 ots.0.1 id.0.1 id.0.0 id.1 in
    let r = bytes_pass 32 id.0.1 root.0.1 root.0.0 root.1 in
    let text = Passes-then at lms.0.1 root.0.1 _ _ l.0 (Passes-then lms.0.1 ots.0.1 root.0.1 _ _ o.0 (Passes-then ots.0.1 id.0.1 root.0.1 _ _ i.0 r.0)) in
    subst (λ (x : LmsPublic × Cursor). Passes at (key_text x.0) x.1 × HasWidths x.0)
    (ok_is (the_key lms.0.0 ots.0.0 id.0.0 root.0.0, root.0.1) (key, new) root.2) (text, (i.1, r.1))

-- the text of a key is read as it
pub key_of_text-key_text : (key : LmsPublic) → HasWidths key → key_of_text (key_text key) ≡ Some key
unfolding key_of_text
key_of_text-key_text key h = ap result_ok (whole_again key_at key (key_text key) (key_again key h))

-- a key that was read spells the text
pub key_text-key_of_text : (bytes : List ℕ) (key : LmsPublic) → AreBytes bytes → key_of_text bytes ≡ Some key → (key_text key ≡ bytes) × HasWidths key
unfolding key_of_text
key_text-key_of_text bytes key are e =
    let p = whole_pass key_at key_text HasWidths key_pass bytes key are (gave (whole key_at bytes) key e) in
    (sym p.0, p.1)

-- the text of a key has 56 bytes
pub length-key_text : (key : LmsPublic) → HasWidths key → length (key_text key) ≡ 56
unfolding key_text
length-key_text key h =
    let lms = number_text w32 (lms_kind.number_of key.lms) in
    let ots = number_text w32 (ots_kind.number_of key.ots) in
    omega (
      arith,
      length-append lms (ots ++ (key.id ++ key.root)),
      length-append ots (key.id ++ key.root),
      length-append key.id key.root,
      length-number_text w32 (lms_kind.number_of key.lms),
      length-number_text w32 (ots_kind.number_of key.ots),
      h.0,
      h.1,
    )

-- and they are bytes
append_bytes : (front back : List ℕ) → AreBytes front → AreBytes back → AreBytes (front ++ back)
append_bytes [] back f b k = b k
append_bytes (byte ∷ front) back f b zero = f 0
append_bytes (byte ∷ front) back f b (suc k) = append_bytes front back (λ i. f (suc i)) b k

number_bytes : (n : ℕ) → AreBytes (number_text w32 n)
unfolding number_text
number_bytes n zero = omega arith
number_bytes n (suc zero) = omega arith
number_bytes n (suc (suc zero)) = omega arith
number_bytes n (suc (suc (suc zero))) = omega arith
number_bytes n (suc (suc (suc (suc i)))) = omega arith

pub bytes-key_text : (key : LmsPublic) → AreBytes key.id → AreBytes key.root → AreBytes (key_text key)
unfolding key_text
bytes-key_text key id root =
    append_bytes (number_text w32 (lms_kind.number_of key.lms)) (number_text w32 (ots_kind.number_of key.ots) ++ (key.id ++ key.root)) (number_bytes (lms_kind.number_of key.lms))
    (append_bytes (number_text w32 (ots_kind.number_of key.ots)) (key.id ++ key.root) (number_bytes (ots_kind.number_of key.ots))
    (append_bytes key.id key.root id root))

-- two keys with one text are equal
pub one-text-one-key : (a b : LmsPublic) → HasWidths a → HasWidths b → key_text a ≡ key_text b → a ≡ b
one-text-one-key a b p q e =
    let first = key_of_text-key_text a p in
    let second = key_of_text-key_text b q in
    let same = sym first ∙ ap key_of_text e ∙ second in
    cc

-- two keys are equal where their parts are
pub key-from-parts : (a b : LmsPublic) → a.lms ≡ b.lms → a.ots ≡ b.ots → a.id ≡ b.id → a.root ≡ b.root → a ≡ b
key-from-parts a b lms ots id root =
    ap (λ k. let key : LmsPublic = record { lms = k; ots = a.ots; id = a.id; root = a.root } in key) lms
    ∙ ap (λ k. let key : LmsPublic = record { lms = b.lms; ots = k; id = a.id; root = a.root } in key) ots
    ∙ ap (λ k. let key : LmsPublic = record { lms = b.lms; ots = b.ots; id = k; root = a.root } in key) id
    ∙ ap (λ k. let key : LmsPublic = record { lms = b.lms; ots = b.ots; id = b.id; root = k } in key) root

-- ---- which texts are read

-- fields that are long enough
pub bytes_there : (n : ℕ) (at : Cursor) → n ≤ length at.ahead → bytes_at n at ≡ Ok (take n at.ahead, behind n at)
unfolding bytes_at
bytes_there n at h = let long : ltb (length at.ahead) n ≡ false = le-ltb _ _ h in rw long refl

pub number_there : (at : Cursor) → 4 ≤ length at.ahead → number_at w32 at ≡ Ok (from_be_bytes w32 (take 4 at.ahead), behind 4 at)
unfolding number_at
number_there at h = rw (bytes_there 4 at h) refl

-- 56 bytes that name two types are read
readable : (bytes : List ℕ) (lms : LmsType) (ots : OtsType) → length bytes ≡ 56
    → lms_kind.type_of_number (from_be_bytes w32 (take 4 bytes)) ≡ Some lms
    → ots_kind.type_of_number (from_be_bytes w32 (take 4 (drop 4 bytes))) ≡ Some ots
    → is_some (key_of_text bytes) ≡ true
unfolding key_of_text key_at type_at whole
readable bytes lms ots len is_lms is_ots =
    let first = behind 4 (start_of bytes) in
    let second = behind 4 first in
    let third = behind 16 second in
    let last = behind 32 third in
    let a : length first.ahead + 4 ≡ length bytes = omega (arith, length-drop 4 bytes) in
    let b : length second.ahead + 4 ≡ length first.ahead = omega (arith, length-drop 4 first.ahead) in
    let c : length third.ahead + 16 ≡ length second.ahead = omega (arith, length-drop 16 second.ahead) in
    let d : length last.ahead + 32 ≡ length third.ahead = omega (arith, length-drop 32 third.ahead) in
    let none : eqb (length last.ahead) 0 ≡ true = eq-eqb _ _ (omega arith) in
    rw (
      number_there (start_of bytes) (omega arith),
      is_lms,
      number_there first (omega arith),
      is_ots,
      bytes_there 16 second (omega arith),
      bytes_there 32 third (omega arith),
      none,
    ) refl

-- a type that was read is the one that the four bytes name
type_taken : {A : Type 0} (type_of_number : ℕ → Option A) (at new : Cursor) (kind : A) → type_at type_of_number at ≡ Ok (kind, new)
    → (type_of_number (from_be_bytes w32 (take 4 at.ahead)) ≡ Some kind) × (new.ahead ≡ drop 4 at.ahead) × (length new.ahead + 4 ≡ length at.ahead)
unfolding type_at
type_taken type_of_number at new kind e =
    let number = known_taken type_of_number (number_at w32) at new kind e in
    let took = number_taken w32 at new number.0 number.1 in
    (ap type_of_number (sym took.value) ∙ number.2, took.rest, left_of _ _ _ _ _ took)

-- what was read had 56 bytes and named two types
read_says : (bytes : List ℕ) (key : LmsPublic) → key_of_text bytes ≡ Some key → (length bytes ≡ 56)
    × (lms_kind.type_of_number (from_be_bytes w32 (take 4 bytes)) ≡ Some key.lms)
    × (ots_kind.type_of_number (from_be_bytes w32 (take 4 (drop 4 bytes))) ≡ Some key.ots)
unfolding key_of_text key_at whole
read_says bytes key e =
    let start = start_of bytes in
    let all = bind_ok (key_at start) all_of key (gave (whole key_at bytes) key e) in
    let ended = all_ok all.0 key all.2 in
    let lms = bind_ok {B = LmsPublic × Cursor} (lms_at start) behind_lms all.0 all.1 in
    let ots = bind_ok {B = LmsPublic × Cursor} (ots_at lms.0.1) (behind_ots lms.0.0) all.0 lms.2 in
    let id = bind_ok {B = LmsPublic × Cursor} (bytes_at 16 ots.0.1) (behind_id lms.0.0 ots.0.0) all.0 ots.2 in
    let root = bind_ok {B = LmsPublic × Cursor} (bytes_at 32 id.0.1) (λ r. Ok (the_key lms.0.0 ots.0.0 id.0.0 r.0, r.1)) all.0 id.2 in
    let l = type_taken lms_kind.type_of_number start lms.0.1 lms.0.0 lms.1 in
    let o = type_taken ots_kind.type_of_number lms.0.1 ots.0.1 ots.0.0 ots.1 in
    let same : (the_key lms.0.0 ots.0.0 id.0.0 root.0.0, root.0.1) ≡ all.0 = ok_is (the_key lms.0.0 ots.0.0 id.0.0 root.0.0, root.0.1) all.0 root.2 in
    let last : root.0.1 ≡ all.0.1 = ap (λ (x : LmsPublic × Cursor). x.1) same in
    let lms_is : lms.0.0 ≡ key.lms = ap (λ (x : LmsPublic × Cursor). x.0.lms) same ∙ ap (λ (k : LmsPublic). k.lms) ended.0 in
    let ots_is : ots.0.0 ≡ key.ots = ap (λ (x : LmsPublic × Cursor). x.0.ots) same ∙ ap (λ (k : LmsPublic). k.ots) ended.0 in (
      omega (
        arith,
        l.2,
        o.2,
        left_of _ _ _ _ _ (bytes_taken 16 ots.0.1 id.0.1 id.0.0 id.1),
        left_of _ _ _ _ _ (bytes_taken 32 id.0.1 root.0.1 root.0.0 root.1),
        ap (λ (at : Cursor). length at.ahead) last,
        ap (λ (rest : List ℕ). length rest) ended.1,
      ),
      l.0 ∙ ap (λ (k : LmsType). Some k) lms_is,
      ap (λ (rest : List ℕ). ots_kind.type_of_number (from_be_bytes w32 (take 4 rest))) (sym l.1) ∙ o.0 ∙ ap (λ (k : OtsType). Some k) ots_is,
    )

-- a key is read exactly from the texts of keys
pub is_some-key_of_text : (bytes : List ℕ) → is_some (key_of_text bytes) ≡ is_key_text bytes
unfolding is_key_text
is_some-key_of_text bytes = by (key_of_text bytes) refl
  where
    by : (key : Option LmsPublic) → key_of_text bytes ≡ key → is_some key ≡ is_key_text bytes
    by (Some key) e =
        let says = read_says bytes key e in
        let len : eqb (length bytes) 56 ≡ true = eq-eqb _ _ says.0 in
        rw (len, says.1, says.2) refl
    by None e = never (is_key_text bytes) refl
      where
        never : (b : Bool) → is_key_text bytes ≡ b → false ≡ b
        never false is = refl
        never true is =
            let first = and_parts _ _ is in
            let second = and_parts _ _ first.1 in
            let lms = some_of _ second.0 in
            let ots = some_of _ second.1 in
            let read = readable bytes lms.0 ots.0 (eqb-true _ _ first.0) lms.1 ots.1 in
            let none = ap is_some e in
            cc
