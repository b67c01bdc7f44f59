use Rattle.std.proofs.Common.{◌≡◌}
use Rattle.ar_founding.specs.FirstKeys.{first_of}
use Rattle.ar_founding.specs.FirstKeys.{keys_made}
use Rattle.ar_founding.specs.FirstKeys.{keys_for}
use Rattle.ar_founding.proofs.first_keys.make_first_keys.Given as goal

abbrev pub invariant-loop-number : goal.invariant-loop-number
invariant-loop-number l = record {
  keys : l.keys ≡ first_of (keys_for l.setup l.role l.number);
  said : l.said.items ≡ keys_made l.setup l.role l.number;
}
