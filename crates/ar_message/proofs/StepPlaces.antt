-- The loop over steps that fit, up to the first that does not.
use Rattle.std.proofs.Common.{◌≡◌, ℕ, ◌+◌, ◌*◌, ◌/◌, ◌<◌, List, length, Ok, length-append, ap, ◌∙◌, arith}
use Rattle.ar_bytes.specs.Reading.{Cursor, bytes_at}
use Rattle.ar_bytes.proofs.Passing.{bytes_pass}

-- a step that fits leaves the place of the first that does not
pub place_stays : (at new : Cursor) (piece : List ℕ) → bytes_at 32 at ≡ Ok (piece, new)
    → new.place + 32 * (length new.ahead / 32) ≡ at.place + 32 * (length at.ahead / 32)
place_stays at new piece e =
    let p = bytes_pass 32 at new piece e in
    let len : length at.ahead ≡ length piece + length new.ahead = ap length p.0.bytes ∙ length-append piece new.ahead in
    let place : new.place ≡ at.place + length piece = p.0.place in
    let n : length piece ≡ 32 = p.1 in
    omega arith

-- and fewer bytes
pub fewer_left : (at new : Cursor) (piece : List ℕ) → bytes_at 32 at ≡ Ok (piece, new) → length new.ahead < length at.ahead
fewer_left at new piece e =
    let p = bytes_pass 32 at new piece e in
    let len : length at.ahead ≡ length piece + length new.ahead = ap length p.0.bytes ∙ length-append piece new.ahead in
    let n : length piece ≡ 32 = p.1 in
    omega arith

pub ruleset step_moves = (place_stays, fewer_left)
