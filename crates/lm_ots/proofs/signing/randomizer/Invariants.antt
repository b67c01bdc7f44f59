use Rattle.std.proofs.Common.{◌≡◌, ◌*◌, ◌∷◌, length, take}
use Rattle.std.specs.List.{flat_map, range_with_len}
use Rattle.sha2.specs.Sha256.{sha256}
use Rattle.byteorder.specs.Endian.{little_bytes}
use Rattle.rand_chacha.specs.ChaCha.{key_of}
use Rattle.lm_ots.specs.Signing.{randomizer_word}
use Rattle.lm_ots.proofs.signing.randomizer.Given as goal

abbrev pub invariant-loop-k : goal.invariant-loop-k
invariant-loop-k l = record {
  words : l.words ≡ record { key = key_of (sha256 (0x43 ∷ l.fn.seed)); stream = l.fn.leaf; word_pos = l.k };
  bytes : take (4 * l.k) l.bytes ≡ flat_map (λ k. little_bytes 4 (randomizer_word l.fn.seed l.fn.leaf k)) (range_with_len 0 l.k);
  width : length l.bytes ≡ 32;
}
