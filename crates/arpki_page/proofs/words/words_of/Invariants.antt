use Rattle.std.proofs.Common.{◌≡◌, ◌++◌, drop}
use Rattle.arpki_page.specs.Called.{texts_given}
use Rattle.arpki_play.specs.Words.{texts}
use Rattle.arpki_page.proofs.words.words_of.Given as goal

-- the texts of the words that were made, and of those that are left, are those of all
abbrev pub invariant-loop-word : goal.invariant-loop-word
invariant-loop-word l = texts l.words.items ++ texts_given (drop l.word-index l.given) ≡ texts_given l.given
