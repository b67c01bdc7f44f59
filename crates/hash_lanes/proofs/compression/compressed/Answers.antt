use Rattle.std.proofs.Common.{◌∙◌, ap}
use Rattle.sha2.specs.Sha256.{add_state, compress, initial_hash_256, schedule}
use Rattle.hash_lanes.specs.Lanes.{lane_of}
use Rattle.hash_lanes.proofs.RoundLemmas.{first_sixteen}
use Rattle.hash_lanes.proofs.compression.compressed.Goals as goal

pub returns : goal.returns
unfolding compress
returns c = λ block i below words five.
    let all = schedule block 48 in
    let from_0 = first_sixteen (lane_of c.args.words.now i) block words in
    let from_16 = c.next_sixteen-from_16.ensures block i below from_0 in
    let from_32 = c.next_sixteen-from_32.ensures block i below from_16 in
    let from_48 = c.next_sixteen-from_48.ensures block i below from_32 in
    let after_16 = c.eleven_rounds-after_16.ensures initial_hash_256 all i below from_0 five in
    let after_32 = c.sixteen_rounds-after_32.ensures initial_hash_256 all i below from_16 after_16 in
    let after_48 = c.sixteen_rounds-after_48.ensures initial_hash_256 all i below from_32 after_32 in
    let after_64 = c.sixteen_rounds-after_64.ensures initial_hash_256 all i below from_48 after_48 in
    c.hash_values.ensures i below ∙ ap (add_state initial_hash_256) after_64
