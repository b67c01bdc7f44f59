-- Lists that are equal in parts, and the parts of a record.
use Rattle.std.proofs.Common.{◌≡◌, ℕ, ◌<◌, ◌^◌, List, ◌++◌, length, take, drop, refl, sym, ◌∙◌, ap, subst, arith, append_assoc, length-append}
use Rattle.std.proofs.lemmas.List.{append_cancel_left, drop_at, take_at, length-take}
use Rattle.std.specs.Int.{w32, from_be_bytes}
use Rattle.ar_bytes.proofs.Passing.{length-number_text, wide32}
use Rattle.ar_bytes.specs.RoundTrip.{number_text}
use Rattle.sha2.proofs.Facts256.{length-sha256}
use Rattle.chained_journal.specs.Journal.{IsShort, complement, filling, head, link, record_len, record_text, shut_gate, wanting, text_string}

-- ---- fronts of one length

pub fronts : (a b x y : List ℕ) → length a ≡ length b → a ++ x ≡ b ++ y → a ≡ b
fronts a b x y size is =
    sym (take_at a x (length a) refl) ∙ ap (λ (l : List ℕ). take (length a) l) is ∙ take_at b y (length a) (sym size)

pub rests : (a b x y : List ℕ) → length a ≡ length b → a ++ x ≡ b ++ y → x ≡ y
rests a b x y size is =
    sym (drop_at a x (length a) refl) ∙ ap (λ (l : List ℕ). drop (length a) l) is ∙ drop_at b y (length a) (sym size)

-- ---- heads

pub one_number : (a b : ℕ) → a < 2 ^ 32 → b < 2 ^ 32 → number_text w32 a ≡ number_text w32 b → a ≡ b
unfolding number_text
one_number a b small short same = sym (wide32.again a small) ∙ ap (from_be_bytes w32) same ∙ wide32.again b short

pub length-head : (n : ℕ) → length (head n) ≡ 8
length-head n =
    omega (arith, length-append (number_text w32 n) (number_text w32 (complement n)), length-number_text w32 n, length-number_text w32 (complement n))

pub same_size : (n m : ℕ) → length (number_text w32 n) ≡ length (number_text w32 m)
same_size n m = length-number_text w32 n ∙ sym (length-number_text w32 m)

pub one_head : (a b : ℕ) → a < 2 ^ 32 → b < 2 ^ 32 → head a ≡ head b → a ≡ b
one_head a b small short same =
    one_number a b small short (fronts (number_text w32 a) (number_text w32 b) (number_text w32 (complement a)) (number_text w32 (complement b)) (same_size a b) same)

-- ---- records

pub length-filling : (n : ℕ) → length (filling n) ≡ wanting n
length-filling n = omega (arith, length-take (wanting n) shut_gate)

pub length-record : (chain text : List ℕ) → length (record_text chain text) ≡ record_len (length text)
length-record chain text =
    omega (
      arith,
      length-append (head (length text)) (text ++ (filling (length text) ++ link chain text)),
      length-append text (filling (length text) ++ link chain text),
      length-append (filling (length text)) (link chain text),
      length-head (length text),
      length-filling (length text),
      length-sha256 (text_string chain text),
    )

-- what stands behind the head
abbrev pub tail : List ℕ → List ℕ → List ℕ → List ℕ
tail chain text rest = text ++ (filling (length text) ++ (link chain text ++ rest))

-- a record in its parts
pub record-parts : (chain text rest : List ℕ) → record_text chain text ++ rest ≡ head (length text) ++ tail chain text rest
record-parts chain text rest =
    append_assoc (head (length text)) (text ++ (filling (length text) ++ link chain text)) rest
    ∙ ap (λ (l : List ℕ). head (length text) ++ l)
    (append_assoc text (filling (length text) ++ link chain text) rest
    ∙ ap (λ (l : List ℕ). text ++ l) (append_assoc (filling (length text)) (link chain text) rest))

-- of two records that begin alike the texts are one
pub record Same (one other behind back : List ℕ) : Type 0 where
  pub text : one ≡ other
  pub rest : behind ≡ back

pub one_record : (chain one other rest back : List ℕ) → IsShort one → IsShort other
    → record_text chain one ++ rest ≡ record_text chain other ++ back → Same one other rest back
one_record chain one other rest back short fits is =
    let parts : head (length one) ++ tail chain one rest ≡ head (length other) ++ tail chain other back =
    sym (record-parts chain one rest) ∙ is ∙ record-parts chain other back in
    let eight : length (head (length one)) ≡ length (head (length other)) = length-head (length one) ∙ sym (length-head (length other)) in
    let size : length one ≡ length other = one_head (length one) (length other) short fits (fronts (head (length one)) (head (length other)) (tail chain one rest) (tail chain other back) eight parts) in
    let behind : tail chain one rest ≡ tail chain other back = rests (head (length one)) (head (length other)) (tail chain one rest) (tail chain other back) eight parts in
    let text : one ≡ other = fronts one other (filling (length one) ++ (link chain one ++ rest)) (filling (length other) ++ (link chain other ++ back)) size behind in
    let whole : record_text chain other ++ rest ≡ record_text chain other ++ back = subst (λ (t : List ℕ). record_text chain t ++ rest ≡ record_text chain other ++ back) text is in
    record { text = text; rest = append_cancel_left (record_text chain other) rest back whole }
