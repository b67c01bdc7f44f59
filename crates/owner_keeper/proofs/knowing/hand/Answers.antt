use Rattle.std.proofs.Common.{rules, ◌≡◌, ◌≤◌, length, Ok, arith}
use Rattle.std.specs.Prelude.{vec_capacity, vec_len}
use Rattle.lms_tree.specs.Signature.{lms_signature_len_of}
use Rattle.owner_core.specs.Rows.{handover_row}
use Rattle.owner_keeper.proofs.Lengths.{handed_long}
use Rattle.owner_keeper.proofs.knowing.hand.Goals as goal

pub append-requires : goal.append-requires
append-requires c =
    let row : handover_row c.args.owner.now c.args.digest.now ≡ Ok (c.in_ok-signature.signature.items, c.handover.new.self) = search rules in
    let long = handed_long c.args.owner.now c.handover.new.self c.args.digest.now c.in_ok-signature.signature.items row in
    let bytes : length c.deref.result.now ≡ length c.in_ok-signature.signature.items = search rules in
    let wide : c.signature_len.result ≡ lms_signature_len_of c.args.owner.now.key.lms c.args.owner.now.key.ots = search rules in
    let none : vec_len c.in_ok-copied.copied ≡ 0 = search rules in
    let room : c.signature_len.result ≤ vec_capacity c.in_ok-copied.copied = search rules in
    omega (arith, long, bytes, wide, none, room)
