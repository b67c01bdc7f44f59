use Rattle.std.proofs.Common.{◌≡◌, ◌∙◌, ap, sym, arith, ℕ, ◌+◌, ◌*◌, ◌^◌, ◌%◌, ◌∷◌, ◌++◌, List, length, take}
use Rattle.std.specs.List.{flat_map, range_with_len}
use Rattle.std.proofs.lemmas.List.{take_all}
use Rattle.sha2.specs.Sha256.{sha256}
use Rattle.byteorder.specs.Endian.{little_bytes}
use Rattle.rand_chacha.specs.ChaCha.{ChaCha, key_of, next_word, word_at}
use Rattle.lm_ots.specs.Signing.{randomizer_word, randomizer_of}
use Rattle.lm_ots.proofs.EndLemmas.{flat_map-range-more}
use Rattle.lm_ots.proofs.signing.randomizer.Goals as goal

-- the generator at a word of a stream
abbrev at_word : List ℕ → ℕ → ℕ → ChaCha
at_word key stream place = record { key = key; stream = stream; word_pos = place }

pub loop-k-preserved : goal.loop-k-preserved
unfolding randomizer_word
loop-k-preserved c =
    let seed = c.args.seed.now in
    let leaf = c.args.leaf in
    let k = c.loop-k.k in
    let key = key_of (sha256 (0x43 ∷ seed)) in
    let kept = c.loop-k.invariant in
    let four = λ (n : ℕ). little_bytes 4 (randomizer_word seed leaf n) in
    let place : (k + 1) % 2 ^ 68 ≡ k + 1 = omega arith in
    let word : c.next_word.result ≡ word_at 10 key leaf k =
    ap (λ p. p.0) c.next_word.ensures ∙ ap (λ (g : ChaCha). word_at 10 g.key g.stream g.word_pos) kept.words in
    let buf : c.write_u32.new.buf ≡ four k = c.write_u32.ensures ∙ ap (little_bytes 4) word in
    let width : length c.write_u32.new.buf ≡ 4 = ap length buf in
    let written = c.write_bytes.ensures in
    let more : 4 * (k + 1) ≡ c.write_bytes.result = omega (arith, written.place, width) in
    record {
      words = ap (λ p. p.1) c.next_word.ensures ∙ ap (λ g. (next_word 10 g).1) kept.words
          ∙ ap (at_word key leaf) place;
      bytes = ap (λ n. take n c.write_bytes.new.out) more ∙ written.front
          ∙ ap (λ l. l ++ c.write_u32.new.buf) kept.bytes
          ∙ ap (λ l. flat_map four (range_with_len 0 k) ++ l) buf
          ∙ sym (flat_map-range-more four k);
      width = c.write_bytes.auto.out ∙ kept.width;
    }

pub returns : goal.returns
unfolding randomizer_of
returns c =
    let seed = c.args.seed.now in
    let leaf = c.args.leaf in
    let kept = c.loop-k.invariant in
    let four = λ (n : ℕ). little_bytes 4 (randomizer_word seed leaf n) in
    let at_end : c.loop-k.k ≡ 8 = omega arith in
    let whole = kept.width in
    sym (take_all (4 * c.loop-k.k) c.loop-k.bytes (omega arith)) ∙ kept.bytes
    ∙ ap (λ n. flat_map four (range_with_len 0 n)) at_end
