use Rattle.sha2.specs.Hashers.{Holds256}
use Rattle.lm_ots.proofs.FourLemmas.{text_behind}
use Rattle.lm_ots.proofs.four_leaves.four_ots_publics.Given as goal

abbrev pub invariant-loop-i : goal.invariant-loop-i
invariant-loop-i l = record {
  first : Holds256 l.first (text_behind l.secret 0 l.i);
  second : Holds256 l.second (text_behind l.secret 1 l.i);
  third : Holds256 l.third (text_behind l.secret 2 l.i);
  fourth : Holds256 l.fourth (text_behind l.secret 3 l.i);
}
