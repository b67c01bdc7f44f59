-- Whether the words of the text are pieces depends on those that are left.
use Rattle.std.proofs.Common.{◌≡◌, ◌+◌, ◌≤◌, length}
use Rattle.std.specs.Option.{option_copied}
use Rattle.ar_lines.specs.Lines.{words_of}
use Rattle.ar_lines.specs.Views.{words_behind}
use Rattle.script_text.specs.Grammar.{are_pieces}
use Rattle.script_text.proofs.pieces.pieces_of.Given as goal

abbrev pub invariant-loop-rest : goal.invariant-loop-rest
invariant-loop-rest l = record {
  all : are_pieces 2 (words_of l.fn.text) ≡ are_pieces l.number (words_behind (option_copied l.rest));
  counted : l.number + length (words_behind (option_copied l.rest)) ≤ length l.fn.text + 3;
}

abbrev pub decreases-loop-rest : goal.decreases-loop-rest
decreases-loop-rest l = length (words_behind (option_copied l.rest))
