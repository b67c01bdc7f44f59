use Rattle.std.proofs.Common.{◌≡◌, ◌∙◌, ap, sym, refl, arith, rules, ◌-◌, ◌<◌, length, Some}
use Rattle.std.specs.Prelude.{slice_get}
use Rattle.std.proofs.lemmas.Option.{slice_get_read}
use Rattle.key_roll.proofs.ring.KeyRing.newest.Goals as goal

pub returns : goal.returns
returns c =
    let keys = c.self.inside.keys.items in
    let newest = c.index.result.now in
    let within : length keys - 1 < length keys = omega (arith, c.self.invariant.0.some) in
    let len_is : c.len.result ≡ length keys = search (rules, c.len.ensures) in
    let place : c.len.result - 1 ≡ length keys - 1 = ap (λ n. n - 1) len_is in
    let below : c.len.result - 1 < length keys = omega (arith, place, within) in
    let at : slice_get keys (length keys - 1) ≡ Some newest =
    ap (slice_get keys) (sym place) ∙ slice_get_read keys (length keys) (c.len.result - 1) newest refl below c.index.ensures in
    record {
      key = newest;
      last = ap (λ r. slice_get r.keys (length r.keys - 1)) (sym c.self.view_is) ∙ at;
      is = c.public.ensures;
    }
