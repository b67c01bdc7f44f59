use Rattle.std.proofs.Common.{◌≡◌, ◌∙◌, ap, sym, refl, arith, rules, ◌-◌, ◌<◌, length, Ok, Some}
use Rattle.std.specs.Prelude.{slice_get}
use Rattle.std.proofs.lemmas.Option.{slice_get_read}
use Rattle.lm_ots.specs.OtsKind as ots_kind
use Rattle.lms_tree.specs.Key.{made}
use Rattle.lms_tree.specs.LmsKind as lms_kind
use Rattle.lms_tree.specs.declared.public_key.LmsPublic.{LmsPublic}
use Rattle.key_roll.specs.Ring.{next_key, next_seed}
use Rattle.key_roll.proofs.Rings.{made_again, same_key}
use Rattle.key_roll.proofs.ring.KeyRing.next.Goals as goal

pub returns-in-Ok : goal.returns-in-Ok
returns-in-Ok c =
    let keys = c.self.inside.keys.items in
    let newest = c.index-newest.result.now in
    let within : length keys - 1 < length keys = omega (arith, c.self.invariant.0.some) in
    let len_is : c.len.result ≡ length keys = search (rules, c.len.ensures) in
    let place : c.len.result - 1 ≡ length keys - 1 = ap (λ n. n - 1) len_is in
    let below : c.len.result - 1 < length keys = omega (arith, place, within) in
    let at : slice_get keys (length keys - 1) ≡ Some newest =
    ap (slice_get keys) (sym place) ∙ slice_get_read keys (length keys) (c.len.result - 1) newest refl below c.index-newest.ensures in
    let seed : c.next_seed-seed.result ≡ next_seed newest.seed = c.next_seed-seed.ensures ∙ ap next_seed c.seed.ensures.seed in
    let lms : c.number.result ≡ lms_kind.number_of newest.lms = c.number.ensures ∙ ap (λ (p : LmsPublic). lms_kind.number_of p.lms) c.public-public.ensures in
    let ots : c.number-2.result ≡ ots_kind.number_of newest.ots = c.number-2.ensures ∙ ap (λ (p : LmsPublic). ots_kind.number_of p.ots) c.public-public.ensures in
    let again = made_again newest.seed (next_seed newest.seed) (lms_kind.number_of newest.lms) (ots_kind.number_of newest.ots) newest c.seed.ensures.again in
    let made_is : made c.next_seed-seed.result c.number.result c.number-2.result ≡ Ok c.in-Ok.key = c.in-Ok.ensures in
    let whole = sym made_is ∙ ap (λ s. made s c.number.result c.number-2.result) seed
    ∙ ap (λ n. made (next_seed newest.seed) n c.number-2.result) lms
    ∙ ap (λ n. made (next_seed newest.seed) (lms_kind.number_of newest.lms) n) ots ∙ again in
    record {
      newest = newest;
      last = ap (λ r. slice_get r.keys (length r.keys - 1)) (sym c.self.view_is) ∙ at;
      is = same_key c.in-Ok.key (next_key newest) whole;
    }
