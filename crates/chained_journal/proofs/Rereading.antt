-- What is read of a journal: its texts again.
use Rattle.std.proofs.Common.{◌≡◌, ℕ, zero, suc, ◌+◌, ◌<◌, ◌≤◌, ◌^◌, List, [], ◌∷◌, ◌++◌, length, take, drop, refl, sym, ◌∙◌, ap, arith, append_assoc, length-append}
use Rattle.std.proofs.lemmas.List.{drop_at, take_at}
use Rattle.std.specs.Int.{w32, from_be_bytes}
use Rattle.ar_bytes.proofs.Passing.{length-number_text, wide32}
use Rattle.ar_bytes.specs.RoundTrip.{number_text}
use Rattle.chained_journal.specs.Journal.{AreShort, IsShort, Stands, complement, filling, head, header_len, journal, link, open_gate, record_len, record_text, records, recovered, shut_gate, start, text_at, texts_in}
use Rattle.chained_journal.specs.declared.title.Title.{Title}
use Rattle.chained_journal.proofs.Splits.{length-head, length-record, record-parts, tail}

-- ---- one text

pub number_back : (n : ℕ) → n < 2 ^ 32 → from_be_bytes w32 (number_text w32 n) ≡ n
unfolding number_text
number_back n small = wide32.again n small

-- the length of a text stands first
pub first_number : (chain text rest : List ℕ) → IsShort text → from_be_bytes w32 (take 4 (record_text chain text ++ rest)) ≡ length text
first_number chain text rest short =
    let parts : record_text chain text ++ rest ≡ number_text w32 (length text) ++ (number_text w32 (complement (length text)) ++ tail chain text rest) =
    record-parts chain text rest ∙ append_assoc (number_text w32 (length text)) (number_text w32 (complement (length text))) (tail chain text rest) in
    ap (λ (l : List ℕ). from_be_bytes w32 (take 4 l)) parts
    ∙ ap (from_be_bytes w32) (take_at (number_text w32 (length text)) (number_text w32 (complement (length text)) ++ tail chain text rest) 4 (length-number_text w32 (length text)))
    ∙ number_back (length text) short

pub text_again : (chain text rest : List ℕ) → IsShort text → text_at (record_text chain text ++ rest) ≡ text
text_again chain text rest short =
    ap (λ (n : ℕ). take n (drop 8 (record_text chain text ++ rest))) (first_number chain text rest short)
    ∙ ap (λ (l : List ℕ). take (length text) (drop 8 l)) (record-parts chain text rest)
    ∙ ap (λ (l : List ℕ). take (length text) l) (drop_at (head (length text)) (tail chain text rest) 8 (length-head (length text)))
    ∙ take_at text (filling (length text) ++ (link chain text ++ rest)) (length text) refl

pub behind_record : (chain text rest : List ℕ) → drop (8 + record_len (length text)) (open_gate ++ (record_text chain text ++ rest)) ≡ rest
behind_record chain text rest =
    let whole : (open_gate ++ record_text chain text) ++ rest ≡ open_gate ++ (record_text chain text ++ rest) = append_assoc open_gate (record_text chain text) rest in
    ap (λ (l : List ℕ). drop (8 + record_len (length text)) l) (sym whole)
    ∙ drop_at (open_gate ++ record_text chain text) rest (8 + record_len (length text))
    (omega (arith, length-append open_gate (record_text chain text), length-record chain text))

-- ---- texts

shut-texts : (n : ℕ) (behind : List ℕ) → texts_in n (shut_gate ++ behind) ≡ []
shut-texts zero behind = refl
shut-texts (suc n) behind = refl

one-more : (n : ℕ) (chain text rest : List ℕ) → IsShort text
    → texts_in (suc n) (open_gate ++ (record_text chain text ++ rest)) ≡ text ∷ texts_in n rest
one-more n chain text rest short =
    let bytes : List ℕ = record_text chain text ++ rest in
    let again : text_at bytes ≡ text = text_again chain text rest short in
    ap (λ (t : List ℕ). t ∷ texts_in n (drop (8 + record_len (length t)) (open_gate ++ bytes))) again
    ∙ ap (λ (l : List ℕ). text ∷ texts_in n l) (behind_record chain text rest)

pub texts_again : (chain : List ℕ) (texts : List (List ℕ)) (n : ℕ) (behind : List ℕ) → AreShort texts → length texts ≤ n
    → texts_in n (records chain texts ++ (shut_gate ++ behind)) ≡ texts
texts_again chain [] n behind short within = shut-texts n behind
texts_again chain (text ∷ texts) zero behind short within = absurd (omega (arith, within))
texts_again chain (text ∷ texts) (suc n) behind short within =
    ap (λ (l : List ℕ). texts_in (suc n) (open_gate ++ l)) (append_assoc (record_text chain text) (records (link chain text) texts) (shut_gate ++ behind))
    ∙ one-more n chain text (records (link chain text) texts ++ (shut_gate ++ behind)) short.0
    ∙ ap (λ (l : List (List ℕ)). text ∷ l) (texts_again (link chain text) texts n behind short.1 (omega (arith, within)))

-- each record has a byte
pub fewer : (chain : List ℕ) (texts : List (List ℕ)) → length texts ≤ length (records chain texts)
fewer chain [] = omega arith
fewer chain (text ∷ texts) =
    omega (
      arith,
      fewer (link chain text) texts,
      length-append open_gate (record_text chain text ++ records (link chain text) texts),
      length-append (record_text chain text) (records (link chain text) texts),
    )

-- ---- files

pub journal-length : (title : Title) (texts : List (List ℕ)) (rest : List ℕ) → length title.header ≡ header_len
    → length (journal title texts rest) ≡ header_len + (length (records (start title) texts) + length rest)
journal-length title texts rest sized =
    omega (arith, sized, length-append title.header (records (start title) texts ++ rest), length-append (records (start title) texts) rest)

pub journal_recovered : (title : Title) (texts : List (List ℕ)) (behind : List ℕ) → length title.header ≡ header_len → AreShort texts
    → recovered (journal title texts (shut_gate ++ behind)) ≡ texts
journal_recovered title texts behind sized short =
    let file : List ℕ = journal title texts (shut_gate ++ behind) in
    ap (λ (l : List ℕ). texts_in (length file) l) (drop_at title.header (records (start title) texts ++ (shut_gate ++ behind)) 40 sized)
    ∙ texts_again (start title) texts (length file) behind short (omega (arith, fewer (start title) texts, journal-length title texts (shut_gate ++ behind) sized))

pub stands_recovered : (title : Title) (texts : List (List ℕ)) (file : List ℕ) → length title.header ≡ header_len → Stands title texts file → recovered file ≡ texts
stands_recovered title texts file sized stands = ap recovered stands.is ∙ journal_recovered title texts stands.behind sized stands.short
