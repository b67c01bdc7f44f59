use Rattle.std.proofs.Common.{◌≡◌, ◌∙◌, ap, arith, ℕ, ◌++◌, List, length, take}
use Rattle.std.specs.List.{flat_map, range_with_len}
use Rattle.std.specs.Int.{w32, to_be_bytes}
use Rattle.std.proofs.lemmas.List.{append_assoc}
use Rattle.ar_bytes.specs.RoundTrip.{number_text}
use Rattle.lm_ots.specs.OtsKind.{number_of, count_of}
use Rattle.lm_ots.specs.Candidate.{message_hash}
use Rattle.lm_ots.specs.Signing.{randomizer_of, signed_element, signature_of}
use Rattle.lm_ots.proofs.SigningLemmas.{length-randomizer_of}
use Rattle.lm_ots.proofs.signing.ots_sign_into.Goals as goal

pub returns : goal.returns
unfolding signature_of number_text
returns c =
    let secret = c.args.secret.now in
    let number = to_be_bytes w32 (number_of secret.kind) in
    let chosen = randomizer_of secret.seed secret.leaf in
    let elements = λ (q : List ℕ). flat_map (signed_element secret q) (range_with_len 0 (count_of secret.kind)) in
    let first = c.write_u32-place.ensures in
    let then = c.write_bytes.ensures in
    let chosen_is : c.randomizer-randomizer.result ≡ chosen = c.randomizer-randomizer.ensures in
    let place : 36 ≡ c.write_bytes.result =
    omega (arith, first.place, then.place, ap length chosen_is, length-randomizer_of secret.seed secret.leaf) in
    let front : take 36 c.write_bytes.new.out ≡ number ++ chosen =
    ap (λ n. take n c.write_bytes.new.out) place ∙ then.front
    ∙ ap (λ l. l ++ c.randomizer-randomizer.result) (first.front ∙ ap (to_be_bytes w32) c.number.ensures)
    ∙ ap (λ l. number ++ l) chosen_is in
    let hash_is = c.message_hash-hash.ensures
    ∙ ap (λ s. message_hash secret.id secret.leaf s c.args.message.now) chosen_is in
    c.put_elements.ensures ∙ ap (λ l. l ++ elements c.message_hash-hash.result) front
    ∙ ap (λ q. (number ++ chosen) ++ elements q) hash_is
    ∙ append_assoc number chosen _
