use Rattle.std.proofs.Common.{◌≡◌, ◌≤◌, ◌∙◌, ap, sym, arith, ◌++◌, length, take, Some}
use Rattle.std.specs.Prelude.{slice_get}
use Rattle.std.specs.Int.{w32}
use Rattle.std.proofs.lemmas.List.{take_all}
use Rattle.std.proofs.lemmas.Option.{get_or_from_slice_get}
use Rattle.ar_bytes.specs.RoundTrip.{number_text}
use Rattle.lms_tree.specs.Key.{signature_of}
use Rattle.key_roll.specs.Ring.{signature_by}
use Rattle.key_roll.proofs.ring.KeyRing.sign.Goals as goal

pub returns : goal.returns
returns c = λ key has.
    let keys = c.self.inside.keys.items in
    let due = c.due.inside in
    let out = c.write_u32.new.out in
    let number = number_text w32 due.generation in
    let wide : length out ≤ 4 = omega (arith, c.split_at_mut-front.ensures.front_len, c.write_u32.auto.out) in
    let front : out ≡ number = sym (take_all 4 out wide) ∙ ap (λ n. take n out) (sym c.write_u32.ensures.place) ∙ c.write_u32.ensures.front in
    let own : slice_get keys due.generation ≡ Some key =
    ap (λ r. slice_get r.keys due.generation) c.self.view_is ∙ ap (λ d. slice_get c.args.self.now.keys d.generation) c.due.view_is ∙ has in
    let same : c.index-key.result.now ≡ key = c.index-key.ensures ∙ get_or_from_slice_get keys due.generation key c.index-key.result.now own in
    let signed : c.sign_at.new.out ≡ signature_of key due.leaf due.text =
    c.sign_at.ensures ∙ ap (λ k. signature_of k due.leaf c.as_bytes.result.now) same ∙ ap (signature_of key due.leaf) c.as_bytes.ensures in
    ap (λ l. l ++ c.sign_at.new.out) front ∙ ap (λ l. number ++ l) signed ∙ ap (signature_by key) c.due.view_is
