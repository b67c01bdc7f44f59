use Rattle.std.proofs.Common.{◌≡◌, ◌∙◌, ap, sym, arith, ◌+◌, ◌++◌, take}
use Rattle.std.specs.List.{flat_map, range_with_len}
use Rattle.std.specs.Int.{w32, to_be_bytes}
use Rattle.std.proofs.lemmas.List.{append_assoc}
use Rattle.ar_base.proofs.Joined.{concat_map}
use Rattle.ar_bytes.specs.RoundTrip.{number_text}
use Rattle.lm_ots.specs.declared.secret.OtsSecret.{OtsSecret}
use Rattle.lm_ots.specs.OtsKind.{signature_len_of}
use Rattle.lm_ots.specs.Signing as one_time
use Rattle.lms_tree.specs.LmsKind.{height_of, number_of}
use Rattle.lms_tree.specs.Key.{path_element, secret_of, signature_of}
use Rattle.lms_tree.specs.Signature.{signature_text}
use Rattle.lms_tree.proofs.key.LmsKey.sign_at.Goals as goal

pub returns : goal.returns
unfolding signature_of signature_text number_text
returns c =
    let key = c.self.inside.parts in
    let leaf = c.args.leaf in
    let message = c.args.message.now in
    let number = to_be_bytes w32 leaf in
    let secret = secret_of key leaf in
    let signed = one_time.signature_of secret message in
    let kind = to_be_bytes w32 (number_of key.lms) in
    let element = path_element key leaf in
    let heights = range_with_len 0 (height_of key.lms) in
    let path = flat_map element heights in
    let begun = c.write_u32-type_place.ensures in
    let first : take 4 c.write_u32-type_place.new.out ≡ number = ap (λ n. take n c.write_u32-type_place.new.out) (sym begun.place) ∙ begun.front in
    let second : take (4 + signature_len_of key.ots) c.put_one_time.new.out ≡ number ++ signed =
    sym (ap (λ (s : OtsSecret). take (4 + signature_len_of s.kind) c.put_one_time.new.out) c.secret.ensures)
    ∙ c.put_one_time.ensures
    ∙ ap (λ (s : OtsSecret). take 4 c.write_u32-type_place.new.out ++ one_time.signature_of s message) c.secret.ensures
    ∙ ap (λ l. l ++ signed) first in
    let width : c.signature_len-type_place.result ≡ signature_len_of key.ots =
    c.signature_len-type_place.ensures ∙ ap signature_len_of c.ots.ensures in
    let typed = c.write_u32.ensures in
    let place : 8 + signature_len_of key.ots ≡ c.write_u32.result = omega (arith, width, typed.place) in
    let kind_is : to_be_bytes w32 c.number.result ≡ kind =
    ap (to_be_bytes w32) (c.number.ensures ∙ ap number_of c.lms.ensures) in
    let third : take (8 + signature_len_of key.ots) c.write_u32.new.out ≡ (number ++ signed) ++ kind =
    ap (λ n. take n c.write_u32.new.out) place ∙ typed.front
    ∙ ap (λ n. take (4 + n) c.put_one_time.new.out ++ to_be_bytes w32 c.number.result) width
    ∙ ap (λ l. l ++ to_be_bytes w32 c.number.result) second
    ∙ ap (λ l. (number ++ signed) ++ l) kind_is in
    c.put_path.ensures ∙ ap (λ l. l ++ path) third
    ∙ append_assoc (number ++ signed) kind path ∙ append_assoc number signed (kind ++ path)
    ∙ ap (λ l. number ++ (signed ++ (kind ++ l))) (sym (concat_map element heights))
    ∙ ap (λ k. signature_of k leaf message) c.self.view_is
