-- The first bits of a key as a number, and the key of a table.
use Rattle.std.proofs.Common.{◌≡◌, ℕ, zero, suc, ◌+◌, ◌-◌, ◌*◌, ◌/◌, ◌%◌, ◌^◌, ◌<◌, ◌≤◌, List, [], ◌∷◌, ◌++◌, replicate, slice_index, refl, sym, ap, ◌∙◌, subst, ⊎_elim, arith}
use Rattle.std.specs.Int.{bit_at, w32, from_be_bytes, to_be_bytes}
use Rattle.std.proofs.lemmas.Bool.{cases_lt}
use Rattle.std.proofs.lemmas.Nat.{from_be_bytes-to_be_bytes_4, pow_pos, shl-shr, shl_below, shr-shr}
use Rattle.std.proofs.lemmas.Nat.Bits.{bit_at-lt}
use Rattle.ar_base.specs.Bytes.{IsDigest}
use Rattle.ar_base.proofs.Digests.{sha256-IsDigest}
use Rattle.ar_names.specs.Names.{name_digest_of}
use Rattle.hash_tree.specs.Entries.{bit, Agree}
use Rattle.table_map.specs.Tables.{first_bits, table_key, table_of}

-- ---- a key by its first bits

bit-small : (key : List ℕ) (t : ℕ) → bit key t < 2
bit-small key t = bit_at-lt (slice_index key (t / 8)) (7 - t % 8)

pub bits_below : (bits : ℕ) (key : List ℕ) → first_bits bits key < 2 ^ bits
unfolding first_bits
bits_below zero key = omega arith
bits_below (suc bits) key = let b = bits_below bits key in let c = bit-small key bits in omega (arith, b, c)

pub agree-same : (bits : ℕ) (one other : List ℕ) → Agree bits one other → first_bits bits one ≡ first_bits bits other
unfolding first_bits
agree-same zero one other same = refl
agree-same (suc bits) one other same =
    let before = agree-same bits one other (λ t less. same t (omega (arith, less))) in
    let here : bit one bits ≡ bit other bits = same bits (omega arith) in
    λ i. 2 * before i + here i

pub same-agree : (bits : ℕ) (one other : List ℕ) → first_bits bits one ≡ first_bits bits other → Agree bits one other
unfolding first_bits
same-agree zero one other same t less = absurd (omega (arith, less))
same-agree (suc bits) one other same t less =
    let a = bit-small one bits in
    let b = bit-small other bits in
    let before : first_bits bits one ≡ first_bits bits other = omega (arith, a, b, same) in
    let here : bit one bits ≡ bit other bits = omega (arith, a, b, same) in
    ⊎_elim
    (λ (l : t < bits). same-agree bits one other before t l)
    (λ (l : bits ≤ t). let at : bits ≡ t = omega (arith, less, l) in subst (λ n. bit one n ≡ bit other n) at here)
    (cases_lt t bits)

-- ---- the first four bytes as a number

-- they are bytes
abbrev pub FirstBytes : List ℕ → Type 0
FirstBytes key = (slice_index key 0 < 256) × (slice_index key 1 < 256) × (slice_index key 2 < 256) × (slice_index key 3 < 256)

abbrev pub word : ℕ → ℕ → ℕ → ℕ → ℕ
word a b c d = from_be_bytes w32 (a ∷ b ∷ c ∷ d ∷ [])

abbrev pub word_of : List ℕ → ℕ
word_of key = word (slice_index key 0) (slice_index key 1) (slice_index key 2) (slice_index key 3)

-- a bit of the lowest byte
low : (x b j : ℕ) → j < 8 → bit_at (x * 256 + b) j ≡ bit_at b j
low x b zero l = omega arith
low x b (suc zero) l = omega arith
low x b (suc (suc zero)) l = omega arith
low x b (suc (suc (suc zero))) l = omega arith
low x b (suc (suc (suc (suc zero)))) l = omega arith
low x b (suc (suc (suc (suc (suc zero))))) l = omega arith
low x b (suc (suc (suc (suc (suc (suc zero)))))) l = omega arith
low x b (suc (suc (suc (suc (suc (suc (suc zero))))))) l = omega arith
low x b (suc (suc (suc (suc (suc (suc (suc (suc j)))))))) l = absurd (omega (arith, l))

-- a bit of a number without its lowest ones
shifted : (n k j : ℕ) → bit_at n (k + j) ≡ bit_at (n / 2 ^ k) j
shifted n k j = ap (λ x. x % 2) (sym (shr-shr n k j))

first-byte : (a b c d : ℕ) → a < 256 → b < 256 → c < 256 → d < 256 → word a b c d / 2 ^ 24 ≡ a
first-byte a b c d la lb lc ld = omega (arith, la, lb, lc, ld)

second-byte : (a b c d : ℕ) → a < 256 → b < 256 → c < 256 → d < 256 → word a b c d / 2 ^ 16 ≡ a * 256 + b
second-byte a b c d la lb lc ld = omega (arith, la, lb, lc, ld)

third-byte : (a b c d : ℕ) → a < 256 → b < 256 → c < 256 → d < 256 → word a b c d / 2 ^ 8 ≡ (a * 256 + b) * 256 + c
third-byte a b c d la lb lc ld = omega (arith, la, lb, lc, ld)

fourth-byte : (a b c d : ℕ) → a < 256 → b < 256 → c < 256 → d < 256 → word a b c d / 2 ^ 0 ≡ ((a * 256 + b) * 256 + c) * 256 + d
fourth-byte a b c d la lb lc ld = omega (arith, la, lb, lc, ld)

-- the bits of the first four bytes are those of the number
pub word-bit : (key : List ℕ) → FirstBytes key → (t : ℕ) → t < 32 → bit key t ≡ bit_at (word_of key) (31 - t)
word-bit key is t less =
    let a = slice_index key 0 in
    let b = slice_index key 1 in
    let c = slice_index key 2 in
    let d = slice_index key 3 in
    let w = word a b c d in
    ⊎_elim
    (λ (l : t < 8).
    let q : t / 8 ≡ 0 = omega (arith, l) in
    let r : 7 - t % 8 ≡ 7 - t = omega (arith, l) in
    let at : 24 + (7 - t) ≡ 31 - t = omega (arith, l) in
    let here : bit_at w (24 + (7 - t)) ≡ bit_at a (7 - t) = shifted w 24 (7 - t) ∙ ap (λ x. bit_at x (7 - t)) (first-byte a b c d is.0 is.1 is.2 is.3) in
    (λ i. bit_at (slice_index key (q i)) (r i)) ∙ sym here ∙ ap (bit_at w) at)
    (λ (m : 8 ≤ t).
    ⊎_elim
    (λ (l : t < 16).
    let q : t / 8 ≡ 1 = omega (arith, l, m) in
    let r : 7 - t % 8 ≡ 15 - t = omega (arith, l, m) in
    let at : 16 + (15 - t) ≡ 31 - t = omega (arith, l, m) in
    let here : bit_at w (16 + (15 - t)) ≡ bit_at b (15 - t) = shifted w 16 (15 - t) ∙ ap (λ x. bit_at x (15 - t)) (second-byte a b c d is.0 is.1 is.2 is.3) ∙ low a b (15 - t) (omega (arith, l, m)) in
    (λ i. bit_at (slice_index key (q i)) (r i)) ∙ sym here ∙ ap (bit_at w) at)
    (λ (n : 16 ≤ t).
    ⊎_elim
    (λ (l : t < 24).
    let q : t / 8 ≡ 2 = omega (arith, l, n) in
    let r : 7 - t % 8 ≡ 23 - t = omega (arith, l, n) in
    let at : 8 + (23 - t) ≡ 31 - t = omega (arith, l, n) in
    let here : bit_at w (8 + (23 - t)) ≡ bit_at c (23 - t) = shifted w 8 (23 - t) ∙ ap (λ x. bit_at x (23 - t)) (third-byte a b c d is.0 is.1 is.2 is.3) ∙ low (a * 256 + b) c (23 - t) (omega (arith, l, n)) in
    (λ i. bit_at (slice_index key (q i)) (r i)) ∙ sym here ∙ ap (bit_at w) at)
    (λ (o : 24 ≤ t).
    let q : t / 8 ≡ 3 = omega (arith, less, o) in
    let r : 7 - t % 8 ≡ 31 - t = omega (arith, less, o) in
    let here : bit_at w (0 + (31 - t)) ≡ bit_at d (31 - t) = shifted w 0 (31 - t) ∙ ap (λ x. bit_at x (31 - t)) (fourth-byte a b c d is.0 is.1 is.2 is.3) ∙ low ((a * 256 + b) * 256 + c) d (31 - t) (omega (arith, less, o)) in
    let at : 0 + (31 - t) ≡ 31 - t = omega arith in
    (λ i. bit_at (slice_index key (q i)) (r i)) ∙ sym here ∙ ap (bit_at w) at)
    (cases_lt t 24))
    (cases_lt t 16))
    (cases_lt t 8)

-- the first bits are what is left of the number without the others
pub counted : (key : List ℕ) → FirstBytes key → (bits : ℕ) → bits ≤ 32 → first_bits bits key ≡ word_of key / 2 ^ (32 - bits)
unfolding first_bits
counted key is zero most = omega (arith, is.0, is.1, is.2, is.3)
counted key is (suc bits) most =
    let e : ℕ = 31 - bits in
    let w = word_of key in
    let up : e + 1 ≡ 32 - bits = omega (arith, most) in
    let before : first_bits bits key ≡ w / 2 ^ e / 2 = counted key is bits (omega (arith, most)) ∙ ap (λ n. w / 2 ^ n) (sym up) ∙ sym (shr-shr w e 1) in
    let here : bit key bits ≡ w / 2 ^ e % 2 = word-bit key is bits (omega (arith, most)) in
    let y : ℕ = w / 2 ^ e in
    let whole : 2 * (y / 2) + y % 2 ≡ y = omega arith in
    let down : e ≡ 32 - suc bits = omega (arith, most) in
    (λ i. 2 * before i + here i) ∙ whole ∙ ap (λ n. w / 2 ^ n) down

-- ---- the key of a table

table-word : (bits table : ℕ) → table < 2 ^ bits → bits ≤ 32 → word_of (table_key bits table) ≡ table * 2 ^ (32 - bits)
unfolding table_key
table-word bits table known most =
    let small : table * 2 ^ (32 - bits) < 2 ^ (bits + (32 - bits)) = shl_below table bits (32 - bits) known in
    let all : bits + (32 - bits) ≡ 32 = omega (arith, most) in
    from_be_bytes-to_be_bytes_4 (table * 2 ^ (32 - bits)) (subst (λ n. table * 2 ^ (32 - bits) < 2 ^ n) all small)

table-bytes : (bits table : ℕ) → FirstBytes (table_key bits table)
unfolding table_key
table-bytes bits table = (omega arith, omega arith, omega arith, omega arith)

-- its first bits are the table's number
pub key-number : (bits table : ℕ) → table < 2 ^ bits → bits ≤ 32 → first_bits bits (table_key bits table) ≡ table
key-number bits table known most =
    counted (table_key bits table) (table-bytes bits table) bits most
    ∙ ap (λ n. n / 2 ^ (32 - bits)) (table-word bits table known most)
    ∙ shl-shr table (32 - bits)

pub digest-bytes : (key : List ℕ) → IsDigest key → FirstBytes key
digest-bytes key is = (is.bytes 0, is.bytes 1, is.bytes 2, is.bytes 3)

-- ---- names

pub table-below : (bits : ℕ) (name : List ℕ) → table_of bits name < 2 ^ bits
unfolding table_of
table-below bits name = bits_below bits (name_digest_of name)

pub table-agrees : (bits : ℕ) (one other : List ℕ) → (table_of bits one ≡ table_of bits other → Agree bits (name_digest_of one) (name_digest_of other)) × (Agree bits (name_digest_of one) (name_digest_of other) → table_of bits one ≡ table_of bits other)
unfolding table_of
table-agrees bits one other = (same-agree bits (name_digest_of one) (name_digest_of other), agree-same bits (name_digest_of one) (name_digest_of other))

pub key-agrees : (bits : ℕ) (name : List ℕ) → bits ≤ 24 → Agree bits (table_key bits (table_of bits name)) (name_digest_of name)
unfolding table_of
key-agrees bits name most =
    same-agree bits (table_key bits (table_of bits name)) (name_digest_of name)
    (key-number bits (table_of bits name) (bits_below bits (name_digest_of name)) (omega (arith, most)))

-- of twice as many tables, that of a name is by its next bit
pub next-bit : (bits : ℕ) (name : List ℕ) → table_of (bits + 1) name ≡ 2 * table_of bits name + bit (name_digest_of name) bits
unfolding table_of first_bits
next-bit bits name =
    let next : bits + 1 ≡ suc bits = omega arith in
    ap (λ n. first_bits n (name_digest_of name)) next

-- ---- what the program computes

pub no-bits : (bits : ℕ) (key : List ℕ) → bits ≡ 0 → 0 ≡ first_bits bits key
unfolding first_bits
no-bits zero key none = refl
no-bits (suc bits) key none = absurd (omega (arith, none))

-- no bits are all zeros
pub no-key : (bits table : ℕ) → bits ≡ 0 → table < 2 ^ bits → replicate 32 0 ≡ table_key bits table
unfolding table_key
no-key zero zero none known = refl
no-key zero (suc table) none known = absurd (omega (arith, known))
no-key (suc bits) table none known = absurd (omega (arith, none))

pub read-bits : (bits n : ℕ) (key : List ℕ) → bits ≤ 24 → IsDigest key → n ≡ word_of key → n / 2 ^ (32 - bits) ≡ first_bits bits key
read-bits bits n key most is same =
    ap (λ x. x / 2 ^ (32 - bits)) same ∙ sym (counted key (digest-bytes key is) bits (omega (arith, most)))

-- the lowest four bytes of a number are those of it without what is above them
pub low-bytes : (n : ℕ) → to_be_bytes w32 (n % 2 ^ 32) ≡ to_be_bytes w32 n
low-bytes n =
    let a : n % 2 ^ 32 / 2 ^ 24 % 256 ≡ n / 2 ^ 24 % 256 = omega arith in
    let b : n % 2 ^ 32 / 2 ^ 16 % 256 ≡ n / 2 ^ 16 % 256 = omega arith in
    let c : n % 2 ^ 32 / 2 ^ 8 % 256 ≡ n / 2 ^ 8 % 256 = omega arith in
    let d : n % 2 ^ 32 % 256 ≡ n % 256 = omega arith in
    λ i. a i ∷ b i ∷ c i ∷ d i ∷ []
