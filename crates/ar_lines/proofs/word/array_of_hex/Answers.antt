use Rattle.std.proofs.Common.{ℕ, Err, refl, sym}
use Rattle.std.proofs.lemmas.List.{length-replicate}
use Rattle.ar_lines.proofs.HexWords.{sized-unread}
use Rattle.ar_lines.proofs.word.array_of_hex.Goals as goal

pub returns-in-Err : goal.returns-in-Err
returns-in-Err g c =
    let failed = rw (length-replicate {A = ℕ} g.row.N 0) at c.in-Err.ensures.value in
    sym (sized-unread g.row.N c.args.word.now _ (Err c.in-Err.field-0) c.in-Err.field-0 refl failed)
