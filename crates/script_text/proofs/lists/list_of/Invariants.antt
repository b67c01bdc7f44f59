-- The numbers that were read, and those of what is left, are those of the word.
use Rattle.std.proofs.Common.{◌≡◌, ◌≤◌, length}
use Rattle.std.specs.Option.{option_copied}
use Rattle.ar_lines.specs.Forms.{number_in}
use Rattle.ar_lines.specs.Lines.{parts_of}
use Rattle.script_text.specs.Forms.{each_of}
use Rattle.ar_lines.specs.Views.{parts_behind}
use Rattle.script_text.proofs.NumberLists.{before}
use Rattle.script_text.proofs.lists.list_of.Given as goal

abbrev pub invariant-loop-rest : goal.invariant-loop-rest
invariant-loop-rest l = record {
  all : each_of (number_in 0 l.most) (parts_of 44 l.fn.word) ≡ before l.numbers (each_of (number_in 0 l.most) (parts_behind 44 (option_copied l.rest)));
  most : length l.numbers ≤ l.count;
}

abbrev pub decreases-loop-rest : goal.decreases-loop-rest
decreases-loop-rest l = length (parts_behind 44 (option_copied l.rest))
