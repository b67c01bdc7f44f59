-- The bytes of a chained journal, and the texts that a file stands for.
use Rattle.std.specs.Prelude.{Bool, ◌≡◌, ◌≢◌, ◌⊎◌, ℕ, zero, suc, ◌+◌, ◌-◌, ◌%◌, ◌<◌, ◌≤◌, ◌^◌, List, [], ◌∷◌, ◌++◌, length, drop, take, if◌then◌else◌}
use Rattle.std.specs.Int.{w32, from_be_bytes}
use Rattle.std.specs.Str.{bytes_eq}
use Rattle.sha2.specs.Sha256.{sha256}
use Rattle.ar_bytes.specs.RoundTrip.{number_text}
use Rattle.chained_journal.specs.declared.title.Title.{Title}

-- ---- gates

-- the gate before a record that counts
abbrev pub open_gate : List ℕ
open_gate = 255 ∷ 255 ∷ 255 ∷ 255 ∷ 255 ∷ 255 ∷ 255 ∷ 255 ∷ []

-- the gate behind the last record that counts
abbrev pub shut_gate : List ℕ
shut_gate = 0 ∷ 0 ∷ 0 ∷ 0 ∷ 0 ∷ 0 ∷ 0 ∷ 0 ∷ []

-- eight bytes that are neither, as a write of a gate leaves them that was cut short
pub record IsUnsure (gate : List ℕ) : Type 0 where
  pub size : length gate ≡ 8
  pub not_open : gate ≢ open_gate
  pub not_shut : gate ≢ shut_gate

-- an open gate stands here
abbrev pub opens : List ℕ → Bool
opens bytes = bytes_eq (take 8 bytes) open_gate

-- ---- the chain

-- the string that is hashed for a title: the byte 0x60, the seal, and the header
abbrev pub title_string : Title → List ℕ
title_string title = 96 ∷ (title.seal ++ title.header)

-- the chain of a journal with no texts
abbrev pub start : Title → List ℕ
start title = sha256 (title_string title)

-- the string that is hashed for a text behind others: the byte 0x61, their chain, the length of the text in four bytes, and the text
abbrev pub text_string : List ℕ → List ℕ → List ℕ
text_string chain text = 97 ∷ (chain ++ (number_text w32 (length text) ++ text))

-- the chain of texts, and of this one behind them
abbrev pub link : List ℕ → List ℕ → List ℕ
link chain text = sha256 (text_string chain text)

-- the chain of texts that have this one, and of these behind them
abbrev pub chained : List ℕ → List (List ℕ) → List ℕ
chained chain [] = chain
chained chain (text ∷ texts) = chained (link chain text) texts

-- ---- what is written

-- what a number of 32 bits lacks to the greatest: it has the other value in each bit
abbrev pub complement : ℕ → ℕ
complement n = 4294967295 - n

-- the length of a text, and its complement, each in four bytes
abbrev pub head : ℕ → List ℕ
head n = number_text w32 n ++ number_text w32 (complement n)

-- how many bytes are wanting to a multiple of 8
abbrev pub wanting : ℕ → ℕ
wanting n = 7 - (n + 7) % 8

-- so many zeros
abbrev pub filling : ℕ → List ℕ
filling n = take (wanting n) shut_gate

-- a record behind its gate: head, text, zeros to a multiple of 8, and the chain
abbrev pub record_text : List ℕ → List ℕ → List ℕ
record_text chain text = head (length text) ++ (text ++ (filling (length text) ++ link chain text))

-- how many bytes that has
abbrev pub record_len : ℕ → ℕ
record_len n = 40 + (n + wanting n)

-- records of these texts behind others with this chain, each behind its open gate
abbrev pub records : List ℕ → List (List ℕ) → List ℕ
records chain [] = []
records chain (text ∷ texts) = open_gate ++ (record_text chain text ++ records (link chain text) texts)

-- a journal of these texts, with these bytes behind their records
abbrev pub journal : Title → List (List ℕ) → List ℕ → List ℕ
journal title texts rest = title.header ++ (records (start title) texts ++ rest)

-- how many bytes stand before the first gate
abbrev pub header_len : ℕ
header_len = 40

-- ---- what a file stands for

-- a text is short enough for a record
abbrev pub IsShort : List ℕ → Type 0
IsShort text = length text < 2 ^ 32

-- each of them is
abbrev pub AreShort : List (List ℕ) → Type 0
AreShort [] = Unit {0}
AreShort (text ∷ texts) = IsShort text × AreShort texts

-- A file stands for these texts: it is a journal of them, behind which a gate is shut. What stands behind that counts for nothing.
pub record Stands (title : Title) (texts : List (List ℕ)) (file : List ℕ) : Type 0 where
  pub short : AreShort texts
  pub behind : List ℕ
  pub is : file ≡ journal title texts (shut_gate ++ behind)

-- The one torn end: a journal of these texts, behind which the write of a gate was cut short, with the record of this text behind that gate, and a shut gate at the end.
pub record IsTornEnd (title : Title) (texts : List (List ℕ)) (text : List ℕ) (file : List ℕ) : Type 0 where
  pub short : AreShort texts
  pub fits : IsShort text
  pub gate : List ℕ
  pub unsure : IsUnsure gate
  pub is : file ≡ journal title texts (gate ++ (record_text (chained (start title) texts) text ++ shut_gate))

-- it stands for these texts, or for them and this one behind them, or is the one torn end between the two
abbrev pub IsBeforeOrAfter : Title → List (List ℕ) → List ℕ → List ℕ → Type 0
IsBeforeOrAfter title texts text file =
    Stands title texts file ⊎ (Stands title (texts ++ text ∷ []) file ⊎ IsTornEnd title texts text file)

-- ---- what is read

-- no whole record stands here whose chain is right
abbrev pub HasNoRecord : List ℕ → List ℕ → Type 0
HasNoRecord chain bytes = (text rest : List ℕ) → IsShort text → 8 ≤ length rest → bytes ≢ record_text chain text ++ rest

-- the text that stands here, by the length before it
abbrev pub text_at : List ℕ → List ℕ
text_at bytes = take (from_be_bytes w32 (take 4 bytes)) (drop 8 bytes)

-- the texts of at most so many records that stand here, up to the first gate that is not open
abbrev pub texts_in : ℕ → List ℕ → List (List ℕ)
texts_in zero bytes = []
texts_in (suc n) bytes =
    if opens bytes
    then text_at (drop 8 bytes) ∷ texts_in n (drop (8 + record_len (length (text_at (drop 8 bytes)))) bytes)
    else []

-- The texts that a file has, where it stands for texts.
abbrev pub recovered : List ℕ → List (List ℕ)
recovered file = texts_in (length file) (drop header_len file)

-- it is one that a crash before might have left; or the file stands for its texts, and this stands for the same
abbrev pub IsAsBefore : Title → (List ℕ → Type 0) → List ℕ → List ℕ → Type 0
IsAsBefore title may_leave file c = may_leave c ⊎ (Stands title (recovered file) file × Stands title (recovered file) c)
