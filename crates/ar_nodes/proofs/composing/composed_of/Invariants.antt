-- What is composed in all is that of the bytes so far and of the pieces that are left.
use Rattle.std.proofs.Common.{◌≡◌, ◌+◌, ◌≤◌, length}
use Rattle.std.specs.Option.{option_copied}
use Rattle.ar_lines.specs.Lines.{words_of}
use Rattle.ar_lines.specs.Views.{words_behind}
use Rattle.ar_nodes.specs.Composing.{all_of}
use Rattle.ar_nodes.specs.Composing.{composed, composed_from}
use Rattle.ar_nodes.proofs.composing.composed_of.Given as goal

abbrev pub invariant-loop-rest : goal.invariant-loop-rest
invariant-loop-rest l = record {
  all : composed l.fn.pool.messages (words_of l.fn.text) ≡ all_of l.bytes (composed_from l.fn.pool.messages l.number (words_behind (option_copied l.rest)));
  counted : l.number + length (words_behind (option_copied l.rest)) ≤ length l.fn.text + 3;
}

abbrev pub decreases-loop-rest : goal.decreases-loop-rest
decreases-loop-rest l = length (words_behind (option_copied l.rest))
