-- What is read of a journal: its texts again.
use Rattle.std.proofs.Common.{◌≡◌, ◌≢◌, ℕ, zero, suc, ◌+◌, ◌-◌, ◌<◌, ◌≤◌, ◌^◌, ◌==◌, List, [], ◌∷◌, ◌++◌, length, drop, refl, sym, ◌∙◌, ap, subst, arith, append_assoc, length-append, length-drop, ne_eqb, Bool, true, false, cond, Option, Some, None, Ok, ⊎_elim}
use Rattle.std.proofs.lemmas.List.{drop_at}
use Rattle.std.specs.Int.{w32}
use Rattle.ar_bytes.specs.Reading.{Cursor, bytes_at, number_at, start_of}
use Rattle.ar_bytes.specs.RoundTrip.{Passes, number_text}
use Rattle.ar_base.specs.Bytes.{AreBytes}
use Rattle.ar_bytes.proofs.Passing.{bytes_again, bytes_pass, length-number_text, number_again, number_pass, wide32}
use Rattle.kept_journal.specs.Journal.{AreShort, IsNoJournal, Stands, journal, open_record_in, record_at, record_in, record_text, records, recovered, texts_in, with_more}

-- ---- one record

not-empty : (bytes : List ℕ) → 0 < length bytes → (length bytes == 0) ≡ false
not-empty bytes some = ne_eqb (length bytes) 0 (omega (arith, some))

-- a record is read again, wherever something is behind it
pub record_reads : (text rest : List ℕ) → length text < 2 ^ 32 → 0 < length rest → record_in (record_text text ++ rest) ≡ Some (text, rest)
unfolding record_at
record_reads text rest short some =
    let first : Cursor = record { ahead = (number_text w32 (length text) ++ text) ++ rest; place = 0 } in
    let second : Cursor = record { ahead = text ++ rest; place = 4 } in
    let third : Cursor = record { ahead = rest; place = 4 + length text } in
    let to_text : Passes first (number_text w32 (length text)) second =
    record { bytes = append_assoc (number_text w32 (length text)) text rest; place = omega (arith, length-number_text w32 (length text)) } in
    let number : number_at w32 first ≡ Ok (length text, second) = number_again w32 (2 ^ 32) wide32 (length text) short first second to_text in
    let bytes : bytes_at (length text) second ≡ Ok (text, third) = bytes_again (length text) text second third refl (record { bytes = refl; place = refl }) in
    rw (number, bytes, not-empty rest some) refl

not-at-end : (bytes : List ℕ) (test : Bool) → test ≡ (length bytes == 0) → test ≡ false → 0 < length bytes
not-at-end [] test is never = let yes : test ≡ true = is in absurd cc
not-at-end (b ∷ bytes) test is never = omega arith

-- what was read as a record spells it
pub record_is : (bytes text rest : List ℕ) (len : ℕ) (first mid new : Cursor) (test : Bool) → AreBytes bytes → first ≡ start_of bytes
    → number_at w32 first ≡ Ok (len, mid) → bytes_at len mid ≡ Ok (text, new) → test ≡ (length new.ahead == 0) → test ≡ false → rest ≡ new.ahead
    → (bytes ≡ record_text text ++ rest) × (0 < length rest) × (length text < 2 ^ 32)
record_is bytes text rest len first mid new test are starts number taken is never left =
    let one = number_pass w32 (2 ^ 32) wide32 first mid len (subst (λ (c : Cursor). AreBytes c.ahead) (sym starts) are) number in
    let two = bytes_pass len mid new text taken in
    let split : bytes ≡ number_text w32 len ++ (text ++ rest) =
    sym (ap (λ (c : Cursor). c.ahead) starts) ∙ one.0.bytes
    ∙ ap (λ (l : List ℕ). number_text w32 len ++ l) (two.0.bytes ∙ ap (λ (l : List ℕ). text ++ l) (sym left)) in (
      split ∙ ap (λ (n : ℕ). number_text w32 n ++ (text ++ rest)) (sym two.1) ∙ sym (append_assoc (number_text w32 (length text)) text rest),
      subst (λ (l : List ℕ). 0 < length l) (sym left) (not-at-end new.ahead test is never),
      omega (arith, one.1, two.1),
    )

-- ---- texts

shut-gate : (gate : ℕ) (behind : List ℕ) → gate ≢ 1 → open_record_in (gate ∷ behind) ≡ None
shut-gate gate behind shut = ap (λ (b : Bool). cond b (record_in behind) None) (ne_eqb gate 1 shut)

-- a gate that is not open ends the texts
shut-texts : (n gate : ℕ) (behind : List ℕ) → gate ≢ 1 → texts_in n (gate ∷ behind) ≡ []
shut-texts zero gate behind shut = refl
shut-texts (suc n) gate behind shut = ap (λ (o : Option (List ℕ × List ℕ)). with_more (texts_in n) o) (shut-gate gate behind shut)

pub some-behind : (texts : List (List ℕ)) (gate : ℕ) (behind : List ℕ) → 0 < length (records texts ++ gate ∷ behind)
some-behind texts gate behind = omega (arith, length-append (records texts) (gate ∷ behind))

-- the texts of records are read again, up to the gate
pub texts_again : (texts : List (List ℕ)) (n gate : ℕ) (behind : List ℕ) → AreShort texts → length texts ≤ n → gate ≢ 1
    → texts_in n (records texts ++ gate ∷ behind) ≡ texts
texts_again [] n gate behind short within shut = shut-texts n gate behind shut
texts_again (text ∷ texts) zero gate behind short within shut = absurd (omega (arith, within))
texts_again (text ∷ texts) (suc n) gate behind short within shut =
    let rest : List ℕ = records texts ++ gate ∷ behind in
    let read : record_in ((record_text text ++ records texts) ++ gate ∷ behind) ≡ Some (text, rest) =
    ap record_in (append_assoc (record_text text) (records texts) (gate ∷ behind)) ∙ record_reads text rest short.0 (some-behind texts gate behind) in
    ap (λ (o : Option (List ℕ × List ℕ)). with_more (texts_in n) o) read
    ∙ ap (λ (l : List (List ℕ)). text ∷ l) (texts_again texts n gate behind short.1 (omega (arith, within)) shut)

-- each record has a byte
pub fewer : (texts : List (List ℕ)) → length texts ≤ length (records texts)
fewer [] = omega arith
fewer (text ∷ texts) = omega (arith, fewer texts, length-append (record_text text) (records texts))

-- ---- files

pub journal-length : (mark : List ℕ) (texts : List (List ℕ)) (gate : ℕ) (behind : List ℕ)
    → length (journal mark texts gate behind) ≡ length mark + (length (records texts) + (1 + length behind))
journal-length mark texts gate behind = omega (arith, length-append mark (records texts ++ gate ∷ behind), length-append (records texts) (gate ∷ behind))

pub journal_recovered : (mark : List ℕ) (texts : List (List ℕ)) (gate : ℕ) (behind : List ℕ) → length mark ≡ 8 → AreShort texts → gate ≢ 1
    → recovered (journal mark texts gate behind) ≡ texts
journal_recovered mark texts gate behind size short shut =
    ap (λ (l : List ℕ). texts_in (length (journal mark texts gate behind)) l) (drop_at mark (records texts ++ gate ∷ behind) 8 size)
    ∙ texts_again texts (length (journal mark texts gate behind)) gate behind short (omega (arith, fewer texts, journal-length mark texts gate behind)) shut

none-in-none : record_in [] ≡ None
unfolding record_at number_at bytes_at
none-in-none = refl

-- a byte is no record
one-byte : (n : ℕ) (bytes : List ℕ) → length bytes ≤ 1 → texts_in n bytes ≡ []
one-byte zero bytes short = refl
one-byte (suc n) [] short = refl
one-byte (suc n) (gate ∷ []) short = by (gate == 1)
  where
    by : (b : Bool) → with_more (texts_in n) (cond b (record_in []) None) ≡ []
    by true = ap (λ (o : Option (List ℕ × List ℕ)). with_more (texts_in n) o) none-in-none
    by false = refl
one-byte (suc n) (gate ∷ byte ∷ bytes) short = absurd (omega (arith, short))

pub short_recovered : (file : List ℕ) → length file ≤ 9 → recovered file ≡ []
short_recovered file short = one-byte (length file) (drop 8 file) (omega (arith, short, length-drop 8 file))

pub stands_recovered : (mark file : List ℕ) (texts : List (List ℕ)) → length mark ≡ 8 → Stands mark texts file → recovered file ≡ texts
stands_recovered mark file texts size stands = ⊎_elim
    (λ short. short_recovered file short.0 ∙ sym short.1)
    (λ is. ap recovered is.is ∙ journal_recovered mark texts is.gate is.behind size stands.0 is.shut)
    stands.1

pub stands_marked : (mark file : List ℕ) (texts : List (List ℕ)) → Stands mark texts file → ¬ IsNoJournal mark file
stands_marked mark file texts stands other = ⊎_elim
    (λ short. absurd (omega (arith, short.0, other.0)))
    (λ is. other.1 (records texts ++ is.gate ∷ is.behind) is.is)
    stands.1
