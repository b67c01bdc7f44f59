use Rattle.std.proofs.Common.{◌+◌, length-append, take, arith}
use Rattle.std.proofs.lemmas.List.{length-take}
use Rattle.std.proofs.lemmas.Result.{err_from_is_err_and}
use Rattle.std.proofs.KnownBytes.{Consumes-trans}
use Rattle.ar_io.proofs.reading.read_all.Goals as goal

-- the bytes that were kept and this read's, one more than the limit, were taken
pub returns-then-count-room-clause-stopped : goal.returns-then-count-room-clause-stopped
returns-then-count-room-clause-stopped g c =
    let piece = take c.in_ok-count.count c.read.new.buf in (
      _,
      Consumes-trans _ _ _ _ _ c.loop-bytes.invariant.0 c.in_ok-count.ensures.bytes.0,
      omega (arith, length-append c.loop-bytes.bytes.items piece, c.loop-bytes.invariant.1, c.in_ok-count.ensures.bound, length-take (c.min-wanted.result + 1) c.loop-bytes.piece),
    )

-- the bytes that were kept and this read's, for which there was no memory, were taken
pub returns-in_err-extend_from_slice-clause-stopped :
    goal.returns-in_err-extend_from_slice-clause-stopped
returns-in_err-extend_from_slice-clause-stopped g c =
    let p = err_from_is_err_and c.from_residual-in_err-extend_from_slice.result c.from_residual-in_err-extend_from_slice.ensures.1 in
    let piece = take c.in_ok-count.count c.read.new.buf in
    rw (p.1, p.2) (
      _,
      Consumes-trans _ _ _ _ _ c.loop-bytes.invariant.0 c.in_ok-count.ensures.bytes.0,
      omega (arith, length-append c.loop-bytes.bytes.items piece, c.loop-bytes.invariant.1, c.in_ok-count.ensures.bound, length-take (c.min-wanted.result + 1) c.loop-bytes.piece),
    )
