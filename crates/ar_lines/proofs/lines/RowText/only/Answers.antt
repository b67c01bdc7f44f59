-- A row of more than one field is refused.
use Rattle.std.proofs.Common.{refl}
use Rattle.ar_lines.proofs.LineLaws.{parts_some}
use Rattle.ar_lines.proofs.lines.RowText.only.Goals as goal

pub returns-in-Some-more : goal.returns-in-Some-more
returns-in-Some-more c =
    let some = parts_some 32 c.in-Some-more.field-0.now in
    rw (c.new-in-Some-more.ensures, c.in-Some.is, c.first_word.ensures, c.in-Some-more.is, some.2) refl
