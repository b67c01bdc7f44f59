use Rattle.std.proofs.Common.{◌≡◌, ◌+◌, ◌*◌, ◌++◌, take}
use Rattle.std.specs.List.{flat_map, range_with_len}
use Rattle.lm_ots.specs.Signing.{signed_element}
use Rattle.lm_ots.proofs.signing.put_elements.Given as goal

abbrev pub invariant-loop-i : goal.invariant-loop-i
invariant-loop-i l = record {
  place : l.place ≡ 36 + 32 * l.i;
  out : take l.place l.out
      ≡ take 36 l.initial.out ++ flat_map (signed_element l.fn.secret l.fn.hash) (range_with_len 0 l.i);
}
