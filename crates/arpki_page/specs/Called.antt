-- What is answered to words and an input that are handed over as bytes.
use Rattle.std.specs.Prelude.{◌≡◌, ℕ, List, [], ◌++◌, length, map, take, drop, min, replicate, Option, Some}
use Rattle.std.specs.Str.Lossy.{utf8_lossy}
use Rattle.arpki_play.specs.Program.{Answers}
use Rattle.arpki_play.specs.Words.{request_of}
use Rattle.log_restart.specs.declared.disks.Disks.{Disks}
use Rattle.owner_check.specs.Answers.{Booked}
use Rattle.script_play.specs.ar_nodes.Parties.{CheckParts, checks_told}
use Rattle.arpki_page.specs.declared.words.CallWord.{CallWord}

-- ---- words

-- the text of a word, where what is no UTF-8 is replaced by U+FFFD, which no word of a form has
abbrev pub text_given : CallWord → List ℕ
text_given word = utf8_lossy word.text.now

-- the texts of words
abbrev pub texts_given : List CallWord → List (List ℕ)
texts_given words = map text_given words

-- ---- what is written

-- what a sink that keeps all bytes took, and how many of its writes found no memory
pub record KeptBytes : Type 0 where
  pub bytes : List ℕ
  pub faults : ℕ

-- these are the bytes that it took
abbrev pub HasKept : KeptBytes → List ℕ → Type 0
HasKept kept bytes = kept.bytes ≡ bytes

-- it took nothing
abbrev pub nothing_kept : KeptBytes
nothing_kept = record { bytes = []; faults = 0 }

-- ---- what is answered

-- the checks of owners: one with an empty book for each authority that a script may have
abbrev pub empty_checks : List CheckParts
empty_checks = checks_told {C = Booked} (λ check. Some (record { book = check.book; fails = [] })) (λ check. check.answers) (replicate 16 (record { book = []; answers = [] }))

-- The program was called with these words, the input was all that its source had, and what it wrote is what the sink took. This is
-- its status.
pub record Program (words : List (List ℕ)) (input : List ℕ) (written : KeptBytes) (status : ℕ) : Type 0 where
  pub left : Option (List ℕ)
  pub before : Disks
  pub after : Disks
  pub answers : Answers empty_checks (request_of words) (Some input) left HasKept nothing_kept written before after status

-- What the program writes to these words and this input has the length `needed`, and stands in `new`, all of it or as much as there
-- was room for in `old`, which else is as it was. The status is the program's.
pub record IsAnswered (words : List (List ℕ)) (input old new : List ℕ) (needed status : ℕ) : Type 0 where
  pub written : KeptBytes
  pub program : Program words input written status
  pub shown : let n = min (length old) (length written.bytes) in new ≡ take n written.bytes ++ drop n old
  pub counted : needed ≡ length written.bytes
