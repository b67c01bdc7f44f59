use Rattle.std.proofs.Common.{◌≡◌, ◌+◌, ◌∙◌, ap, sym, refl, length, Some}
use Rattle.std.specs.Prelude.{slice_get}
use Rattle.std.proofs.lemmas.Option.{slice_get_read}
use Rattle.key_roll.specs.Ring.{ring_signature_len}
use Rattle.key_roll.proofs.Rings.{one_length}
use Rattle.key_roll.proofs.ring.KeyRing.signature_len.Goals as goal

pub returns : goal.returns
returns c = λ g key has.
    let keys = c.self.inside.keys.items in
    let first = c.index.result.now in
    let at : slice_get keys 0 ≡ Some first = slice_get_read keys (length keys) 0 first refl c.self.invariant.0.some c.index.ensures in
    let own : slice_get keys g ≡ Some key = ap (λ r. slice_get r.keys g) c.self.view_is ∙ has in
    let length_is : 4 + c.signature_len.result ≡ ring_signature_len first = ap (λ n. 4 + n) c.signature_len.ensures in
    length_is ∙ sym (one_length keys first c.self.invariant.0 at g key own)
